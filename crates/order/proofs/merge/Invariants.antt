-- `order::merge`: what was taken, and the rest in path order.
use Prim.Native.Nat.{◌-◌, ◌+◌}
use Rattle.order.proofs.Merging.{Merging}
use Rattle.order.proofs.merge.Given as goal

abbrev pub invariant-loop-i : goal.invariant-loop-i
invariant-loop-i l = Merging l.reader.subject l.reader.store.now l.xs l.ys l.initial.refs l.n l.refs l.i l.j

abbrev pub decreases-loop-i : goal.decreases-loop-i
decreases-loop-i l = l.n - (l.i + l.j)
