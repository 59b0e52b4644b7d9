-- `path::steps_follow`: what is left of the steps follows if the whole does.
use mathlib.Core.Path.{refl}
use Rattle.path.proofs.Steps.{follow-fails, follow-next, follow-end, lent-start}
use Rattle.path.proofs.steps_follow.Goals as goal

pub loop-i-init : goal.loop-i-init
loop-i-init c = lent-start c.args.path.now

pub returns-then-not-may_follow : goal.returns-then-not-may_follow
returns-then-not-may_follow c = follow-fails c.loop-i.invariant c.loop-i-test.true c.may_follow.ensures c.if-not-may_follow.true

pub loop-i-preserved : goal.loop-i-preserved
loop-i-preserved c = follow-next c.loop-i.invariant c.loop-i-test.true c.may_follow.ensures c.if-not-may_follow.false refl

pub returns : goal.returns
returns c = follow-end c.loop-i.invariant c.loop-i-test.false
