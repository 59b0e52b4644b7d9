-- `blocks::others_differ`: the elements passed have none of the keys.
use Rattle.siblings.proofs.Groups.{cleared-all, cleared-clash, cleared-next}
use Rattle.siblings.proofs.blocks.others_differ.Goals as goal

pub returns-then-is_kept : goal.returns-then-is_kept
returns-then-is_kept c = search (cleared-clash, c.in-Some.ensures)

pub loop-key-preserved : goal.loop-key-preserved
loop-key-preserved c = search (cleared-next, c.in-Some.ensures)

pub returns : goal.returns
returns c = search (cleared-all, c.in_default.ensures)
