-- `order::count_from`: the first i numbers are written.
use mathlib.Core.Path.{refl}
use Rattle.order.proofs.Counting.{count_next}
use Rattle.order.proofs.count_from.Goals as goal

pub loop-i-preserved : goal.loop-i-preserved
loop-i-preserved c = count_next c.loop-i.invariant c.requires.0 c.loop-i-test.true refl
