-- `order::occupied`: over the labels up to the subject.
use native.Mathlib.Omega.{arith}
use Rattle.model.proofs.Dominance.{label-lt}
use Rattle.order.proofs.Occupying.{fill-room, fill-yes, fill-no, fill_end}
use Rattle.order.proofs.occupied.occupied.Goals.{then-holds_below, else-holds_below}
use Rattle.order.proofs.occupied.occupied.Goals as goal

pub overflow_add-n-end : goal.overflow_add-n-end
overflow_add-n-end c = omega (arith, label-lt _ c.args.reader.now.opened.label)

pub bounds-found-k : goal.bounds-found-k
bounds-found-k c = fill-room c.args.reader.now.opened.label c.loop-n.invariant c.loop-n-test.true

pub loop-n-preserved : goal.loop-n-preserved
loop-n-preserved c =
    let room = fill-room c.args.reader.now.opened.label c.loop-n.invariant c.loop-n-test.true in
    elim c.if-holds_below.branch [
      | then-holds_below w ↦ rw (w.found-is, w.k-is) (fill-yes c.loop-n.invariant c.loop-n-test.true c.holds_below.ensures w.if-holds_below.true (omega (arith, room, c.loop-n.invariant.size, c.told-found)))
      | else-holds_below w ↦ rw (w.found-is, w.k-is) (fill-no c.loop-n.invariant c.loop-n-test.true c.holds_below.ensures w.if-holds_below.false)
    ]

pub shared_ref_as_front-result : goal.shared_ref_as_front-result
shared_ref_as_front-result c = (fill_end c.args.reader.now.opened.label c.loop-n.invariant c.loop-n-test.false).1

pub returns-clause-found : goal.returns-clause-found
returns-clause-found c = (fill_end c.args.reader.now.opened.label c.loop-n.invariant c.loop-n-test.false).0
