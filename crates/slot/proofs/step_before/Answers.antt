-- `slot::step_before`: the keys decide.
use mathlib.Core.Path.{sym}
use Rattle.path.proofs.Steps.{key-of, word-before}
use Rattle.slot.proofs.step_before.Goals as goal

pub returns : goal.returns
returns g c =
    let first = key-of _ c.name.ensures.0 c.label.ensures c.step_key.ensures in
    let second = key-of _ c.name-2.ensures.0 c.label-2.ensures c.step_key-2.ensures in
    sym (word-before g.met.O.StepOrder.keyed _ _ first second)
