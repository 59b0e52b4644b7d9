-- `slot::same_step`: the names, then the labels.
use Rattle.path.proofs.Steps.{names-differ, labels-decide}
use Rattle.slot.proofs.same_step.Goals as goal

pub returns-then-name : goal.returns-then-name
returns-then-name g c = names-differ _ _ c.name.ensures.0 c.name-2.ensures.0 c.if-name.true

pub returns : goal.returns
returns g c = labels-decide _ _ c.name.ensures.0 c.name-2.ensures.0 c.if-name.false c.label.ensures c.label-2.ensures
