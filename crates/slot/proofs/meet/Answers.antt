-- `slot::meet`: the paths agree up to i.
use borrow.Author.Rules.{rules}
use Rattle.path.proofs.Common.{share-start, share-differ, share-next, share-end}
use Rattle.slot.proofs.Reading.{compared-counts}
use Rattle.slot.proofs.meet.Goals as goal

pub loop-i-init : goal.loop-i-init
loop-i-init g c = share-start _ _ _ _ _

pub returns-then-not-same_step : goal.returns-then-not-same_step
returns-then-not-same_step g c =
    compared-counts _ _ _ c.count-x.ensures c.count-y.ensures
    (share-differ g.met.O.StepOrder.keyed c.loop-i.invariant (search rules) (search rules) c.same_step.ensures c.if-not-same_step.true c.step_before.ensures)

pub loop-i-preserved : goal.loop-i-preserved
loop-i-preserved g c = share-next g.met.O.StepOrder.keyed c.loop-i.invariant (search rules) (search rules) c.same_step.ensures c.if-not-same_step.false

pub returns : goal.returns
returns g c = compared-counts _ _ _ c.count-x.ensures c.count-y.ensures (share-end g.met.O.StepOrder.keyed c.loop-i.invariant c.min-n.ensures c.loop-i-test.false)
