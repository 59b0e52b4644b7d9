-- `Kind::allows`: by the kind's rule.
use mathlib.Core.Path.{◌∙◌}
use Rattle.octets.proofs.Tests.{slice-bytes}
use Rattle.kind.specs.Code.{code}
use Rattle.kind.proofs.Rules.{by_kind, rule-numbered}
use Rattle.kind.proofs.Kind.allows.Goals as goal

pub returns : goal.returns
returns c = c.is_passed_by.ensures ∙ by_kind (code c.args.self) (slice-bytes _ c.type_inv.value) (c.rule.ensures ∙ rule-numbered c.args.self)
