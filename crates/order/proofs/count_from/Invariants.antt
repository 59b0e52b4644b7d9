-- `order::count_from`: the first i numbers are written.
use Rattle.order.proofs.Counting.{Counted}
use Rattle.order.proofs.count_from.Given as goal

abbrev pub invariant-loop-i : goal.invariant-loop-i
invariant-loop-i l = Counted l.initial.refs l.first l.k l.refs l.i
