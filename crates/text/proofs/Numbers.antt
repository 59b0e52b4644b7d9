-- A number in decimal by two, four and eight digits, and when it has a sign.
use mathlib.Core.Path.{◌≡◌, refl, sym, ap, ◌∙◌}
use mathlib.Core.Bool.{true, false}
use mathlib.Core.List.{List, [], ◌∷◌, ◌++◌, append_assoc}
use Prim.Native.Nat.{ℕ, suc, ◌+◌, ◌-◌, ◌/◌, ◌%◌, ◌≤◌, ◌<◌}
use native.Mathlib.Omega.{arith}
use native.Mathlib.Numerals.{add-one}
use lib.IntN.{ℤ, pos, negsuc, nat_abs, ◌-ℤ◌}
use lib.Dec.{T}
use lib.Signed.{mag, le_z, non_neg}
use mir.Syntax.{w64}
use mir.Val.{Fits, SFits, to_z, of_z}
use mir.Facts.{to_z-of_z}
use borrow.Author.Tests.{leb-false, lt-ltb, le-ltb}
use Rattle.model.specs.Text.{decimal, signed, whole_text}
use Rattle.model.proofs.Decimal.{decimal-one, decimal-more}
use Rattle.model.proofs.Dividing.{minus_pos}
use Rattle.text.specs.Digits.{pair, four, eight}

-- ---- by two, four and eight digits

-- two digits
pub decimal-pair : (n : ℕ) → 10 ≤ n → n < 100 → decimal n ≡ pair n
unfolding pair
decimal-pair n h k =
    decimal-more n h ∙ ap (λ (l : List ℕ). l ++ ((48 + n % 10) ∷ [])) (decimal-one (n / 10) (omega arith))

-- a law of the last digits below b, used twice, is one of the last digits below B
module _ (b B n : ℕ) (f : ℕ → List ℕ) (last : (m : ℕ) → b ≤ m → decimal m ≡ decimal (m / b) ++ f (m % b)) where
  twice : (b ≤ n) × (b ≤ n / b) × (n / b / b ≡ n / B) × (n / b % b ≡ n % B / b) × (n % b ≡ n % B % b)
      → decimal n ≡ decimal (n / B) ++ (f (n % B / b) ++ f (n % B % b))
  twice (h, k, q, t, o) = cc (last n h, last (n / b) k, append_assoc (decimal (n / b / b)) (f (n / b % b)) (f (n % b)))

-- the last two, four and eight digits, and those before
pub decimal-hundreds : (n : ℕ) → 100 ≤ n → decimal n ≡ decimal (n / 100) ++ pair (n % 100)
unfolding pair
decimal-hundreds n h = twice 10 100 n (λ d. (48 + d) ∷ []) decimal-more (omega arith)

pub decimal-myriads : (n : ℕ) → 10000 ≤ n → decimal n ≡ decimal (n / 10000) ++ four (n % 10000)
unfolding four
decimal-myriads n h = twice 100 10000 n pair decimal-hundreds (omega arith)

pub decimal-eights : (n : ℕ) → 100000000 ≤ n → decimal n ≡ decimal (n / 100000000) ++ eight (n % 100000000)
unfolding eight
decimal-eights n h = twice 10000 100000000 n four decimal-myriads (omega arith)

-- ---- with a sign

pub signed-plus : (m : ℕ) → m < 2147483648 → decimal m ≡ signed m
unfolding signed
signed-plus m h = rw (lt-ltb m 2147483648 h)

pub signed-minus : (m : ℕ) → 2147483648 ≤ m → m < 4294967296 → 45 ∷ decimal (4294967295 - m + 1) ≡ signed m
unfolding signed
signed-minus m h k =
    let e : 4294967295 - m + 1 ≡ 4294967296 - m = omega arith in
    rw (le-ltb m 2147483648 h, e)

-- ---- with a sign, of 64 bits

whole-plus : (z : ℤ) → le_z (pos 0) z ≡ true → z ≡ pos (mag z)
whole-plus (pos n) h = refl
whole-plus (negsuc n) h = cc

whole-minus : (z : ℤ) → le_z (pos 0) z ≡ false → z ≡ negsuc (mag z)
whole-minus (pos n) h = absurd (omega (arith, leb-false 0 n h))
whole-minus (negsuc n) h = refl

module _ {z : ℤ} (f : SFits w64 z) where
  -- as it is read back from its bits
  abbrev held : ℤ
  held = to_z w64 (of_z w64 z)

  -- what is missing from it to -1, read back
  abbrev missing : ℤ
  missing = to_z w64 (of_z w64 (negsuc 0 -ℤ held))

  -- from 0 on
  module _ (h : le_z (pos 0) held ≡ true) where
    plus-is : z ≡ pos (mag z)
    plus-is = whole-plus z (rw (to_z-of_z f) at h)

    pub plus-cast : T (non_neg held) × Fits w64 (nat_abs held)
    plus-cast = rw (to_z-of_z f ∙ plus-is) (tt, omega arith)

    pub plus-text : decimal (nat_abs held) ≡ whole_text z
    plus-text = ap (λ (x : ℤ). decimal (nat_abs x)) (to_z-of_z f ∙ plus-is) ∙ sym (ap whole_text plus-is)

  -- below 0
  module _ (h : le_z (pos 0) held ≡ false) where
    minus_is : z ≡ negsuc (mag z)
    minus_is = whole-minus z (rw (to_z-of_z f) at h)

    difference : negsuc 0 -ℤ held ≡ pos (mag z)
    difference = ap (λ (x : ℤ). negsuc 0 -ℤ x) (to_z-of_z f ∙ minus_is) ∙ minus_pos (suc (mag z)) 1 (omega arith) ∙ ap pos (omega arith)

    pub minus-fits : SFits w64 (negsuc 0 -ℤ held)
    minus-fits = rw difference (record { sfits = f.sfits })

    missing-is : missing ≡ pos (mag z)
    missing-is = to_z-of_z minus-fits ∙ difference

    pub minus-cast : T (non_neg missing) × Fits w64 (nat_abs missing)
    minus-cast = rw missing-is (tt, omega arith)

    pub minus-below : nat_abs missing < 9223372036854775808
    minus-below = rw missing-is f.sfits

    pub minus-text : 45 ∷ decimal (nat_abs missing + 1) ≡ whole_text z
    minus-text = ap (λ (x : ℤ). 45 ∷ decimal (nat_abs x + 1)) missing-is ∙ rw add-one (sym (ap whole_text minus_is))
