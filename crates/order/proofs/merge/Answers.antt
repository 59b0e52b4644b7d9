-- `order::merge`: what was taken, and the rest in path order.
use Rattle.order.proofs.Merging.{merge-first, merge-second}
use Rattle.order.proofs.merge.Goals as goal

pub loop-i-preserved-then-takes_first : goal.loop-i-preserved-then-takes_first
loop-i-preserved-then-takes_first c = merge-first c.requires.runs c.loop-i.invariant c.takes_first.ensures c.loop-i-test.true c.if-takes_first.true

pub loop-i-preserved : goal.loop-i-preserved
loop-i-preserved c = merge-second c.requires.runs c.loop-i.invariant c.takes_first.ensures c.loop-i-test.true c.if-takes_first.false
