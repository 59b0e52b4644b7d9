-- `text::digits::put_below_100`: one digit or two.
use native.Mathlib.Omega.{arith}
use mathlib.Core.Path.{sym, ap, ◌∙◌}
use mathlib.Core.List.{[], ◌∷◌}
use Prim.Native.Nat.{ℕ}
use Rattle.model.proofs.Decimal.{decimal-one}
use Rattle.text.proofs.Numbers.{decimal-pair}
use Rattle.text.proofs.Overlays.{wrote_as}
use Rattle.text.proofs.digits.put_below_100.Goals as goal

pub returns-then-n-lt10 : goal.returns-then-n-lt10
returns-then-n-lt10 c =
    let digits = ap (λ (d : ℕ). d ∷ []) c.digit.ensures ∙ sym (decimal-one _ c.if-n-lt10.true) in
    wrote_as digits c.put_byte.ensures

pub returns : goal.returns
returns c = wrote_as (sym (decimal-pair _ c.if-n-lt10.false (omega arith))) c.put_pair.ensures
