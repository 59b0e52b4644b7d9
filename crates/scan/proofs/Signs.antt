-- Numbers of 32 signed bits as they stand in a text.
use mathlib.Core.Path.{◌≡◌, sym, ap, ◌∙◌}
use mathlib.Core.Bool.{Bool, true, false, not}
use mathlib.Core.List.{List, ◌∷◌, ◌++◌}
use Prim.Native.Nat.{ℕ, ◌+◌, ◌-◌, ◌≤◌, ◌<◌}
use native.Mathlib.Omega.{arith}
use lib.ListN.{drop}
use lib.Dec.{T}
use Rattle.model.specs.Text.{decimal, signed, is_digit}
use Rattle.model.proofs.Decimal.{decimal_injective, decimal-digits, signed-fact}
use Rattle.scan.specs.Text.{begins, no_digit}
use Rattle.scan.specs.Numbers.{Numbered, NumberAt, SignedAt}
use Rattle.std.specs.Prelude.{Option, Some, None}
use Rattle.scan.proofs.Goings.{drop-within, Here, begins-yes, begins-no}
use Rattle.scan.proofs.Numerals.{digits-unique, decimal-begins}

-- ---- a signed number at the front of a text

-- digits that no digit follows are determined
digits_same : (m n : ℕ) {x y : List ℕ} → T (no_digit x) → T (no_digit y) → decimal m ++ x ≡ decimal n ++ y → (m ≡ n) × (x ≡ y)
digits_same m n s t e =
    let u = digits-unique (decimal m) (decimal n) (decimal-digits m) s (decimal-digits n) t e in
    (decimal_injective m n u.0, u.1)

-- a number without a sign does not begin with one
unsigned : (n : ℕ) (x r : List ℕ) → decimal n ++ x ≡ 45 ∷ r → ⊥
unfolding is_digit
unsigned n x r e = decimal-begins 45 tt n x (ap (begins 45) e)

-- a text begins with one signed number at most
pub signed-unique : (m n : ℕ) (x y : List ℕ) → m < 4294967296 → n < 4294967296 → T (no_digit x) → T (no_digit y) → signed m ++ x ≡ signed n ++ y → (m ≡ n) × (x ≡ y)
signed-unique m n x y h k s t =
    signed-fact (λ q. q ++ x ≡ signed n ++ y → (m ≡ n) × (x ≡ y)) m
    (λ j. signed-fact (λ q. decimal m ++ x ≡ q ++ y → (m ≡ n) × (x ≡ y)) n
    (λ i e. digits_same m n s t e)
    (λ i e. absurd (unsigned m x (decimal (4294967296 - n) ++ y) e)))
    (λ j. signed-fact (λ q. 45 ∷ decimal (4294967296 - m) ++ x ≡ q ++ y → (m ≡ n) × (x ≡ y)) n
    (λ i e. absurd (unsigned n y (decimal (4294967296 - m) ++ x) (sym e)))
    (λ i e. let u = digits_same (4294967296 - m) (4294967296 - n) s t (ap (drop 1) e) in (omega (arith, u.0), u.1)))

-- ---- a signed number at a place of a text

module _ (l : List ℕ) (at : ℕ) {t : Bool} (e : t ≡ begins 45 (drop at l)) where
  -- no sign there: the number is what its digits stand for
  pub signed-plain : not t ≡ true → (x : Option (ℕ × ℕ)) → NumberAt 2147483647 l at x → SignedAt l at x
  signed-plain h (Some (n, next)) (k, j, s) =
      let i : n ≤ 2147483647 = s.small in
      (k, j, omega arith, s.ends, signed-fact (λ q. drop at l ≡ q ++ drop next l) n (λ w. s.same) (λ w. absurd (omega arith)))
  signed-plain h None s = λ m r k j.
      signed-fact (λ q. drop at l ≡ q ++ r → ⊥) m
      (λ w q. s m r (record { small = omega arith; ends = j; same = q }))
      (λ w q. begins-no l at 45 e h (decimal (4294967296 - m) ++ r) q)

  module _ (h : not t ≡ false) where
    sign : Here l at 45
    sign = begins-yes l at 45 e h

    -- what follows the sign is no negative number
    unnumbered : ((n : ℕ) (r : List ℕ) → 0 < n → Numbered 2147483648 (drop (at + 1) l) n r → ⊥) → SignedAt l at None
    unnumbered f m r k j =
        signed-fact (λ q. drop at l ≡ q ++ r → ⊥) m
        (λ w q. unsigned m r (drop (at + 1) l) (sym q ∙ sign.is))
        (λ w q. f (4294967296 - m) r (omega arith) (record { small = omega arith; ends = j; same = (drop-within l at 45 (decimal (4294967296 - m) ++ r) q).1 }))

    -- no number behind the sign
    pub signed-none : NumberAt 2147483648 l (at + 1) None → SignedAt l at None
    signed-none f = unnumbered (λ n r k. f n r)

    module _ {n next : ℕ} (behind : NumberAt 2147483648 l (at + 1) (Some (n, next))) where
      -- the number behind the sign can be taken from 2^32
      pub signed-room : n ≤ 4294967296
      signed-room = let k : n ≤ 2147483648 = behind.2.small in omega arith

      -- there is no -0
      pub signed-zero : n ≡ 0 → SignedAt l at None
      signed-zero z =
          unnumbered (λ m r k w.
          let u = digits_same n m behind.2.ends w.ends (sym behind.2.same ∙ w.same) in omega (arith, u.0))

      -- a number behind the sign
      pub signed-found : (n ≡ 0 → ⊥) → SignedAt l at (Some (4294967296 - n, next))
      signed-found z =
          let k : n ≤ 2147483648 = behind.2.small in
          let w : n ≡ 4294967296 - (4294967296 - n) = omega arith in
          let q : drop at l ≡ 45 ∷ decimal (4294967296 - (4294967296 - n)) ++ drop next l =
          sign.is ∙ ap (λ (r : List ℕ). 45 ∷ r) (behind.2.same ∙ ap (λ (i : ℕ). decimal i ++ drop next l) w) in (
            omega (arith, behind.0),
            behind.1,
            omega arith,
            behind.2.ends,
            signed-fact (λ r. drop at l ≡ r ++ drop next l) (4294967296 - n) (λ j. absurd (omega arith)) (λ j. q),
          )
