-- `slot::steps_good`: what is left of the places is good if the whole is.
use Rattle.slot_valid.proofs.Unused.{stand-start, stand-fails, stand-next, stand-end}
use Rattle.slot_valid.proofs.steps_good.Goals as goal

pub loop-i-init : goal.loop-i-init
loop-i-init c = stand-start _ c.args.path.slot.whole c.args.path.few c.depth-d.ensures

pub returns-then-not-step_good : goal.returns-then-not-step_good
returns-then-not-step_good c = stand-fails c.loop-i.invariant c.loop-i-test.true c.step_good.ensures c.if-not-step_good.true

pub loop-i-preserved : goal.loop-i-preserved
loop-i-preserved c = stand-next c.loop-i.invariant c.loop-i-test.true c.step_good.ensures c.if-not-step_good.false c.step_label-before.ensures

pub returns : goal.returns
returns c = stand-end c.loop-i.invariant c.loop-i-test.false
