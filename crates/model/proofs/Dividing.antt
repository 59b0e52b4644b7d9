-- A measure as a whole number, and the step and the remainder of an even grade: the equation and the bound that they satisfy, and that no
-- others do.
use mathlib.Core.Path.{◌≡◌, sym, ap, subst, ◌∙◌}
use mathlib.Core.Bool.{not}
use mathlib.Core.List.{◌∷◌}
use Prim.Native.Nat.{ℕ, zero, suc, ◌+◌, ◌-◌, ◌*◌, ◌/◌, ◌%◌, ◌≤◌, ◌<◌}
use native.Mathlib.Nat.{mul_comm, mul-suc, add-mul, mod-lt, div-add-mod, div-eq_of_lt-le}
use native.Mathlib.Omega.{arith}
use lib.IntN.{ℤ, pos, negsuc, neg_ℤ, nat_abs, ◌+ℤ◌, ◌-ℤ◌, ◌*ℤ◌, +ℤ_comm, +ℤ-neg_ℤ_cancel, -ℤ-+ℤ_cancel, neg_ℤ-neg_ℤ}
use lib.Dec.{T, ltb}
use mir.Facts.{yes_ltb, no_ltb}
use Rattle.model.specs.Text.{decimal, signed, whole_text}
use Rattle.model.specs.Grade.{whole_of, Even, step_of, remainder_of}
use Rattle.model.proofs.Bools.{decide, cond_yes, cond_no}

-- ---- whole numbers

-- a natural number less a smaller one
pub minus_pos : (a k : ℕ) → k ≤ a → pos a -ℤ pos k ≡ pos (a - k)
minus_pos a zero h = ap pos (omega arith)
minus_pos a (suc k) h = cond_no (ltb a (suc k)) (negsuc (suc k - suc a)) (pos (a - suc k)) (no_ltb h)

-- a natural number less a greater one
pub less-pos : (r k : ℕ) → r < k → pos r -ℤ pos k ≡ negsuc (k - suc r)
less-pos r zero h = absurd (omega arith)
less-pos r (suc k) h = cond_yes (ltb r (suc k)) (negsuc (suc k - suc r)) (pos (r - suc k)) (yes_ltb h)

-- a number is another and what it is more
plus-rest : (d k : ℤ) → k +ℤ (d -ℤ k) ≡ d
plus-rest d k = +ℤ_comm k (d -ℤ k) ∙ -ℤ-+ℤ_cancel d k

-- ---- a measure

-- the measure that is graded is the one that a view prints
pub whole-printed : (m : ℕ) → m < 4294967296 → signed m ≡ whole_text (whole_of m)
unfolding signed whole_of
whole-printed m h =
    decide (ltb m 2147483648)
    (λ (t : T (ltb m 2147483648)).
    cond_yes (ltb m 2147483648) (decimal m) (45 ∷ decimal (4294967296 - m)) t
    ∙ sym (ap whole_text (cond_yes (ltb m 2147483648) (pos m) (negsuc (4294967295 - m)) t)))
    (λ (t : T (not (ltb m 2147483648))).
    let e : 4294967296 - m ≡ suc (4294967295 - m) = omega arith in
    cond_no (ltb m 2147483648) (decimal m) (45 ∷ decimal (4294967296 - m)) t
    ∙ ap (λ (k : ℕ). 45 ∷ decimal k) e
    ∙ sym (ap whole_text (cond_no (ltb m 2147483648) (pos m) (negsuc (4294967295 - m)) t)))

-- ---- the step and the remainder

-- what is left over, by the sign of the difference
left_over : ℕ → ℤ → ℕ
left_over n (pos a) = a % n
left_over n (negsuc a) = n - 1 - a % n

module _ (n : ℕ) (h : 0 < n) where
  left_over_lem : (d : ℤ) → d -ℤ pos n *ℤ step_of n d ≡ pos (left_over n d)
  unfolding left_over
  left_over_lem (pos a) =
      let q : n * (a / n) + a % n ≡ a = div-add-mod a n in
      minus_pos a (n * (a / n)) (omega arith) ∙ ap pos (omega arith)
  left_over_lem (negsuc a) =
      let q : n * (a / n) + a % n ≡ a = div-add-mod a n in
      let b : a % n < n = mod-lt a h in
      let k : n * suc (a / n) ≡ n * (a / n) + n = mul-suc n (a / n) in
      let f : suc a ≤ n * suc (a / n) = omega arith in
      ap (λ (z : ℤ). negsuc a +ℤ z) (neg_ℤ-neg_ℤ (pos (n * suc (a / n))))
      ∙ cond_no (ltb (n * suc (a / n)) (suc a)) (negsuc (suc a - suc (n * suc (a / n)))) (pos (n * suc (a / n) - suc a)) (no_ltb f)
      ∙ ap pos (omega arith)

  left_below : (d : ℤ) → left_over n d < n
  unfolding left_over
  left_below (pos a) = mod-lt a h
  left_below (negsuc a) = omega arith

  remainder_is : (d : ℤ) → remainder_of n d ≡ left_over n d
  remainder_is d = ap nat_abs (left_over_lem d)

  -- the equation and the bound
  pub even_is : (d : ℤ) → Even n d (step_of n d) (remainder_of n d)
  even_is d =
      record {
        sum =
            sym (plus-rest d (pos n *ℤ step_of n d))
            ∙ ap (λ (z : ℤ). pos n *ℤ step_of n d +ℤ z) (left_over_lem d ∙ ap pos (sym (remainder_is d)));
        bound = subst (λ (r : ℕ). r < n) (sym (remainder_is d)) (left_below d);
      }

  -- what lies between q × n and the next multiple, divided by n
  divided : (a q : ℕ) → n * q ≤ a → a < n * q + n → a / n ≡ q
  divided a q f g =
      let c : n * q ≡ q * n = mul_comm n q in
      let w : (q + 1) * n ≡ q * n + 1 * n = add-mul q 1 n in
      div-eq_of_lt-le n (omega arith) (omega (arith, w))

  -- what a step and a remainder make up is divided into them again
  step-of-sum : (st : ℤ) (r : ℕ) → r < n → step_of n (pos n *ℤ st +ℤ pos r) ≡ st
  step-of-sum (pos q) r b = ap pos (divided (n * q + r) q (omega arith) (omega arith))
  step-of-sum (negsuc q) r b =
      let k : n * suc q ≡ n * q + n = mul-suc n q in
      let f : r < n * suc q = omega arith in
      ap (step_of n) (+ℤ_comm (neg_ℤ (pos (n * suc q))) (pos r) ∙ less-pos r (n * suc q) f)
      ∙ ap negsuc (divided (n * suc q - suc r) q (omega arith) (omega arith))

  -- no other step and remainder satisfy them
  pub even-one : {d st : ℤ} {r : ℕ} → Even n d st r → (st ≡ step_of n d) × (r ≡ remainder_of n d)
  even-one {d} {st} {r} e =
      let q : step_of n d ≡ st = ap (step_of n) e.sum ∙ step-of-sum st r e.bound in
      let z : d -ℤ pos n *ℤ step_of n d ≡ pos r =
      ap (λ (x : ℤ). d -ℤ pos n *ℤ x) q
      ∙ ap (λ (x : ℤ). x -ℤ pos n *ℤ st) (e.sum ∙ +ℤ_comm (pos n *ℤ st) (pos r))
      ∙ +ℤ-neg_ℤ_cancel (pos r) (pos n *ℤ st) in
      (sym q, sym (ap nat_abs z))
