-- `kind::is_allowed`: by the kind with this number, if there is one.
use mathlib.Core.Path.{ap, ◌∙◌}
use Rattle.model.specs.Value.{allowed}
use Rattle.kind.proofs.Rules.{unknown-kind}
use Rattle.kind.proofs.is_allowed.Goals as goal

pub returns-in-Ok : goal.returns-in-Ok
returns-in-Ok c = c.allows.ensures ∙ ap (λ n. allowed n c.args.value.now) c.in-Ok.ensures

pub returns-in-Err : goal.returns-in-Err
returns-in-Err c = unknown-kind c.args.kind c.args.value.now c.in-Err.ensures
