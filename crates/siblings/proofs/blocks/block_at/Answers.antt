-- `blocks::block_at`: the keys kept are those of the elements passed.
use Rattle.siblings.proofs.Groups.{filled-all, filled-clash, filled_next}
use Rattle.siblings.proofs.blocks.block_at.Goals as goal

pub returns-in_default : goal.returns-in_default
returns-in_default c = search (filled-all, c.in_default.ensures)

pub returns-then-is_kept : goal.returns-then-is_kept
returns-then-is_kept c = search (filled-clash, c.in-Some.ensures)

pub loop-n-preserved : goal.loop-n-preserved
loop-n-preserved c = search (filled_next, c.in-Some.ensures)
