-- How a text goes on at a place.
use mathlib.Core.Path.{◌≡◌, refl, sym, ap, ◌∙◌}
use mathlib.Core.Bool.{Bool, true, false, not}
use mathlib.Core.List.{List, [], ◌∷◌}
use Prim.Native.Nat.{ℕ, ◌+◌, ◌≤◌, ◌<◌}
use native.Mathlib.Numerals.{add-one}
use native.Mathlib.Omega.{arith}
use lib.ListN.{length, drop, get_or, drop_of_length-le}
use lib.Seq.{drop-cons}
use lib.Dec.{T, eqb, ltb}
use mir.Facts.{ltb_yes, ltb_no}
use borrow.Author.Tests.{eq-eqb, eqb-true, not-true, not-false}
use Rattle.model.proofs.Bools.{decide}
use Rattle.scan.specs.Text.{begins}

-- a test that fails and holds
pub neither : {t : Bool} → t ≡ false → t ≡ true → ⊥
neither p q = let z : ◌≡◌ {A = ℕ} 0 1 = cc in omega arith

-- a list that begins is not empty
pub no-empty : {A : Type 0} {x : A} {l : List A} → ◌≡◌ {A = List A} [] (x ∷ l) → ⊥
no-empty e = let z : ◌≡◌ {A = ℕ} 0 1 = cc in omega arith

module _ (l : List ℕ) (at : ℕ) where
  -- what stands there, and what follows it
  pub drop_here : at < length l → drop at l ≡ get_or l at 0 ∷ drop (at + 1) l
  drop_here h = rw (add-one at) (drop-cons l at 0 h)

  -- what begins there is within the text
  pub drop-within : (x : ℕ) (r : List ℕ) → drop at l ≡ x ∷ r → (at < length l) × (drop (at + 1) l ≡ r)
  drop-within x r e =
      decide (ltb at (length l))
      (λ (t : T (ltb at (length l))). let d : drop at l ≡ get_or l at 0 ∷ drop (at + 1) l = drop_here (ltb_yes t) in (ltb_yes t, cc))
      (λ (t : T (not (ltb at (length l)))).
      let d : drop at l ≡ [] = drop_of_length-le l {i = at} (ltb_no t) in
      absurd (no-empty (sym d ∙ e)))

  -- no byte stands behind the end
  pub begins-past : (b : ℕ) → length l ≤ at → false ≡ begins b (drop at l)
  begins-past b h = rw (drop_of_length-le l {i = at} h)

  -- the byte that stands there tells whether it is b
  pub begins-here : (b : ℕ) → at < length l → eqb (get_or l at 0) b ≡ begins b (drop at l)
  begins-here b h = rw (drop_here h)

-- the byte b stands there
pub record Here (l : List ℕ) (at b : ℕ) : Type 0 where
  pub within : at < length l
  pub is : drop at l ≡ b ∷ drop (at + 1) l

module _ (l : List ℕ) (at b : ℕ) {t : Bool} (e : t ≡ begins b (drop at l)) where
  -- the test passed: b stands there
  pub begins-yes : not t ≡ false → Here l at b
  begins-yes h = go (drop at l) refl (sym e ∙ not-false t h)
    where
      go : (r : List ℕ) → drop at l ≡ r → begins b r ≡ true → Here l at b
      go [] d f = absurd (neither refl f)
      go (x ∷ r) d f =
          let w = drop-within l at x r d in
          record { within = w.0; is = d ∙ rw (eqb-true x b f, w.1) }

  -- so the place behind it is within the text, or its end
  pub begins-within : not t ≡ false → at + 1 ≤ length l
  begins-within h = omega (arith, (begins-yes h).within)

  -- the test failed: b does not stand there
  pub begins-no : not t ≡ true → (r : List ℕ) → drop at l ≡ b ∷ r → ⊥
  begins-no h r d = neither (not-true t h) (e ∙ ap (begins b) d ∙ eq-eqb b b refl)
