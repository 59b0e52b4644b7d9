-- `skips::skip`: the bytes passed over leave some elements open.
use Rattle.siblings.proofs.Passing.{passed-end, passed_here, passed-next}
use Rattle.siblings.proofs.skips.skip.Goals as goal

pub returns-then-is_end : goal.returns-then-is_end
returns-then-is_end c = search passed_here

pub loop-i-preserved : goal.loop-i-preserved
loop-i-preserved c = search passed-next

pub returns : goal.returns
returns c = search passed-end
