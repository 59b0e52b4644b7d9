-- `reach::steps_before`: none of the steps before step i bears the label.
use Rattle.reach.proofs.Before.{pass-start, pass-stop, pass-next, pass-end}
use Rattle.reach.proofs.steps_before.Goals as goal

pub loop-i-init : goal.loop-i-init
loop-i-init c = pass-start c.args.path.now c.args.label

pub returns-then-path-i : goal.returns-then-path-i
returns-then-path-i c = pass-stop c.loop-i.invariant c.loop-i-test.true c.if-path-i.true

pub loop-i-preserved : goal.loop-i-preserved
loop-i-preserved c = pass-next c.loop-i.invariant c.loop-i-test.true c.if-path-i.false

pub returns : goal.returns
returns c = pass-end c.loop-i.invariant c.loop-i-test.false
