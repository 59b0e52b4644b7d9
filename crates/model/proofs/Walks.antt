-- Loops over a range: what is left from place i on gives the same answer as the whole.
use mathlib.Core.Path.{◌≡◌, sym, ap, ◌∙◌}
use mathlib.Core.Bool.{Bool, true, false}
use mathlib.Core.List.Memᴰ
use mathlib.Core.List.{List, [], ◌∷◌}
use Prim.Native.Nat.{ℕ, zero, suc, ◌+◌, ◌-◌, ◌≤◌, ◌<◌}
use native.Mathlib.Numerals.{add-one}
use native.Mathlib.Omega.{arith}
use native.Mathlib.Decide.{dec_le}
use lib.Dec.{T}
use Rattle.model.specs.Lists.{all, any, range, ◌∈◌}
use Rattle.model.proofs.Bools.{and_l, and_r}

-- what is left of c places from place i on
abbrev pub rest : {A : Type 0} → (ℕ → A) → ℕ → ℕ → List A
rest g c i = range g i (c - i)

module _ {A : Type 0} (g : ℕ → A) (c i : ℕ) where
  pub rest_more : i < c → rest g c i ≡ g i ∷ rest g c (i + 1)
  rest_more h = let e : c - i ≡ suc (c - (i + 1)) = omega arith in rw (e, add-one i)

  pub rest_end : c ≤ i → rest g c i ≡ []
  rest_end h = let e : c - i ≡ 0 = omega arith in rw e

-- the answer w is f of what is left
pub record Left {A B : Type 0} (g : ℕ → A) (f : List A → B) (w : B) (c i : ℕ) : Type 0 where
  pub within : i ≤ c
  pub same : w ≡ f (rest g c i)

pub left-start : {A B : Type 0} (g : ℕ → A) (f : List A → B) (c : ℕ) → Left g f (f (range g 0 c)) c 0
left-start g f c = record { within = omega arith; same = let e : c - 0 ≡ c = omega arith in rw e }

-- tests of which one must pass
module _ {A : Type 0} {g : ℕ → A} (p : A → Bool) {w : Bool} {c i : ℕ} (inv : Left g (any p) w c i) where
  pub any-end : c ≤ i → false ≡ w
  any-end h = sym (inv.same ∙ ap (any p) (rest_end g c i h))

  module _ {r : Bool} (h : i < c) (e : r ≡ p (g i)) where
    pub any_found : r ≡ true → true ≡ w
    any_found t = let q : p (g i) ≡ true = sym e ∙ t in sym (inv.same ∙ ap (any p) (rest_more g c i h) ∙ rw q)

    pub any_next : r ≡ false → Left g (any p) w c (i + 1)
    any_next t =
        let q : p (g i) ≡ false = sym e ∙ t in
        record { within = omega arith; same = inv.same ∙ ap (any p) (rest_more g c i h) ∙ rw q }

-- what all of a range pass, each passes
pub all-range : {A : Type 0} (g : ℕ → A) (p : A → Bool) (i c k : ℕ) → T (all p (range g i c)) → i ≤ k → k < i + c → T (p (g k))
all-range g p i zero k t h j = absurd (omega arith)
all-range g p i (suc c) k t h j = elim (dec_le k i) [
  | yes l ↦ let e : i ≡ k = omega arith in rw (← e) (and_l (p (g i)) (all p (range g (suc i) c)) t)
  | no l ↦ all-range g p (suc i) c k (and_r (p (g i)) (all p (range g (suc i) c)) t) (omega arith) (omega arith)
]

-- each place of a range is a member
pub in-range : {A : Type 0} (g : ℕ → A) (i c k : ℕ) → i ≤ k → k < i + c → g k ∈ range g i c
in-range g i zero k h j = absurd (omega arith)
in-range g i (suc c) k h j = elim (dec_le k i) [
  | yes l ↦ let e : k ≡ i = omega arith in Memᴰ.head (ap g e)
  | no l ↦ Memᴰ.tail (in-range g (suc i) c k (omega arith) (omega arith))
]
