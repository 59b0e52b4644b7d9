-- Given bytes at a place of a text.
use mathlib.Core.Path.{◌≡◌, refl, ap, ◌∙◌}
use mathlib.Core.Bool.{Bool, true, false, not, ◌&&◌}
use mathlib.Core.List.{List, [], ◌∷◌, ◌++◌}
use Prim.Native.Nat.{ℕ, ◌+◌, ◌-◌, ◌≤◌}
use native.Mathlib.Omega.{arith}
use Rattle.std.specs.Cmp.Lexicographic.{pointwise}
use lib.ListN.{length, take, drop, length-drop, drop_of_length-le}
use lib.Seq.{drop-drop, take_all}
use lib.Dec.{T, eqb}
use borrow.Author.Tests.{eq-eqb, ne_eqb, eqb-true, not-true, not-false}
use Rattle.model.proofs.Bools.{and_l, and_r, is_true}
use Rattle.scan.specs.Text.{is_front}
use Rattle.scan.proofs.Goings.{neither}

-- ---- what the test says of a text

-- a text that begins with the bytes is the bytes and what follows them
front-parts : (b l : List ℕ) → T (is_front b l) → (l ≡ b ++ drop (length b) l) × (length b ≤ length l)
unfolding is_front
front-parts [] l p = (refl, omega arith)
front-parts (x ∷ b) [] p = absurd p
front-parts (x ∷ b) (y ∷ l) p =
    let e : x ≡ y = eqb-true x y (is_true (eqb x y) (and_l (eqb x y) (is_front b l) p)) in
    let u = front-parts b l (and_r (eqb x y) (is_front b l) p) in
    (rw (← e) (ap (λ (r : List ℕ). x ∷ r) u.0), omega (arith, u.1))

-- the bytes and any text begin with the bytes
front_self : (b r : List ℕ) → is_front b (b ++ r) ≡ true
unfolding is_front
front_self [] r = refl
front_self (x ∷ b) r = rw (eq-eqb x x refl) (front_self b r)

-- an empty text begins with no bytes alone
front-none : (b : List ℕ) → eqb (length b) 0 ≡ is_front b []
unfolding is_front
front-none [] = refl
front-none (x ∷ b) = ne_eqb (length (x ∷ b)) 0 (λ e. omega arith)

-- the library's test is this one
front-pointwise : (b l : List ℕ) → pointwise eqb b (take (length b) l) ≡ is_front b l
unfolding is_front
front-pointwise [] l = refl
front-pointwise (x ∷ b) [] = refl
front-pointwise (x ∷ b) (y ∷ l) = ap (λ (t : Bool). eqb x y && t) (front-pointwise b l)

-- ---- what the test says of a place

-- the bytes b stand there, within the text
abbrev pub Stands : List ℕ → List ℕ → ℕ → Type 0
Stands b l at = (drop at l ≡ b ++ drop (at + length b) l) × (at + length b ≤ length l)

module _ (x : ℕ) (b l : List ℕ) (at : ℕ) {t : Bool} (e : t ≡ is_front (x ∷ b) (drop at l)) where
  -- the test passed: the bytes, of which there is one at least, stand there
  pub front-true : t ≡ true → Stands (x ∷ b) l at
  front-true h =
      let u = front-parts (x ∷ b) (drop at l) (rw (← e, h) tt) in
      let n : length (drop at l) ≡ length l - at = length-drop at l in
      (u.0 ∙ ap (λ (r : List ℕ). x ∷ b ++ r) (drop-drop (length (x ∷ b)) at l), omega (arith, u.1))

  -- so where it is asked whether it failed
  pub front-yes : not t ≡ false → Stands (x ∷ b) l at
  front-yes h = front-true (not-false t h)

module _ (b l : List ℕ) (at : ℕ) {t : Bool} (e : t ≡ is_front b (drop at l)) where
  -- the test failed: the bytes do not stand there
  pub front-false : t ≡ false → (r : List ℕ) → drop at l ≡ b ++ r → ⊥
  front-false h r d = neither h (e ∙ ap (is_front b) d ∙ front_self b r)

  -- so where it is asked whether it failed
  pub front-no : not t ≡ true → (r : List ℕ) → drop at l ≡ b ++ r → ⊥
  front-no h = front-false (not-true t h)

-- the library's test of the bytes from a place on
pub front-there : (b l : List ℕ) (at : ℕ) → pointwise eqb b (take (length b) (take (length l - at) (drop at l))) ≡ is_front b (drop at l)
front-there b l at =
    front-pointwise b (take (length l - at) (drop at l)) ∙ ap (is_front b) (take_all (length l - at) (drop at l) (omega (arith, length-drop at l)))

-- behind the end stand no bytes
pub bytes_past : (b l : List ℕ) (at : ℕ) → length l ≤ at → eqb (length b) 0 ≡ is_front b (drop at l)
bytes_past b l at h = rw (drop_of_length-le l {i = at} h) (front-none b)
