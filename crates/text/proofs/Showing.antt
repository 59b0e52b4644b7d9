-- A value is shown as the rule of its kind says.
use mathlib.Core.Path.{◌≡◌, sym, ap, ◌∙◌}
use mathlib.Core.Bool.{Bool, true, false}
use mathlib.Core.List.{List}
use Prim.Native.Nat.{ℕ, ◌<◌}
use native.Mathlib.Omega.{arith}
use lib.ListN.{length}
use lib.Dec.{T}
use Rattle.model.specs.Value.{allowed}
use Rattle.model.specs.Text.{measure_of, signed}
use Rattle.model.specs.View.{shown}
use Rattle.kind.specs.declared.Kind.{Kind}
use Rattle.kind.specs.declared.Rule.{Rule}
use Rattle.kind.specs.Code.{code}
use Rattle.kind.specs.Rule.{rule_of, numbered_rule}
use Rattle.kind.proofs.Rules.{rule-numbered, number-length, shown-number, shown-text}

module _ (k : Kind) (v : List ℕ) (t : T (allowed (code k) v)) {r : Rule} (e : r ≡ rule_of k) where
  number_is : {b : Bool} → r.number ≡ b → (numbered_rule (code k)).number ≡ b
  number_is h = ap (λ (x : Rule). x.number) (sym (e ∙ rule-numbered k)) ∙ h

  pub measure-length : r.number ≡ true → length v ≡ 4
  measure-length h = number-length (code k) v t (number_is h)

  pub as_number : r.number ≡ true → {m : ℕ} → m ≡ measure_of v → signed m ≡ shown (code k) v
  as_number h g = ap signed g ∙ shown-number (code k) v (number_is h)

  pub as-text : r.number ≡ false → (length v ≡ 0 → ⊥) → v ≡ shown (code k) v
  as-text h g = let z : 0 < length v = omega (arith, g) in shown-text (code k) v t (number_is h) z
