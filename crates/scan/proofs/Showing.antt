-- What is shown of an element, and the number of its kind.
use mathlib.Core.Path.{◌≡◌, refl, sym, ap, ◌∙◌}
use mathlib.Core.Option.{some}
use mathlib.Core.List.{List}
use Prim.Native.Nat.{ℕ, zero, suc}
use lib.Dec.{T}
use Rattle.std.specs.Prelude.{Option, Some, None}
use Rattle.std.proofs.lemmas.Option.{same_Some}
use Rattle.model.specs.Value.{Content, allowed, bringable}
use Rattle.model.specs.Intake.{may_show}
use Rattle.kind.specs.Code.{code}
use Rattle.kind.specs.declared.Kind.{Kind}
use Rattle.kind.specs.declared.Kind.TheVariants.{Group, Measure, Text}
use Rattle.scan.specs.Shown.{content_in, kind_at, shows}

-- a number of which some value is allowed is its kind's
code-at : (n : ℕ) (v : List ℕ) → T (allowed n v) → code (kind_at n) ≡ n
unfolding allowed
code-at zero v t = refl
code-at (suc zero) v t = refl
code-at (suc (suc zero)) v t = refl
code-at (suc (suc (suc n))) v t = absurd t

-- so a live element's
pub live-code : (c : Content) → T (may_show (some c)) → code (kind_at c.kind) ≡ c.kind
unfolding bringable
live-code c t = code-at c.kind c.value t

-- it is that of the kind shown
pub shown-code : (c : Content) (k : Kind) → T (may_show (some c)) → shows (some c) ≡ Some k → c.kind ≡ code k
shown-code c k t e = sym (live-code c t) ∙ ap code (same_Some (kind_at c.kind) k e)

-- the content of what is shown shows it
pub shows-in : (k : Option Kind) (v : List ℕ) → shows (content_in k v) ≡ k
shows-in None v = refl
shows-in (Some Group) v = refl
shows-in (Some Measure) v = refl
shows-in (Some Text) v = refl
