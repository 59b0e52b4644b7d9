-- `Kind::letter`: the letter of the kind's rule.
use mathlib.Core.List.{[], ◌∷◌}
use mathlib.Core.Path.{ap, ◌∙◌}
use Rattle.kind.specs.declared.Rule.{Rule}
use Rattle.kind.specs.Code.{code}
use Rattle.kind.proofs.Rules.{letter-rule, rule-numbered}
use Rattle.kind.proofs.Kind.letter.Goals as goal

pub returns : goal.returns
returns c = ap (λ (r : Rule). r.letter ∷ []) (c.rule.ensures ∙ rule-numbered c.args.self) ∙ letter-rule (code c.args.self)
