-- Numbers in decimal: they are read back, and digits without a leading zero are the decimal of their value.
use mathlib.Core.Path.{◌≡◌, refl, sym, ap, ap₂, ◌∙◌}
use mathlib.Core.Logic.{◌≢◌}
use mathlib.Core.Bool.{Bool, true, false, not, cond}
use mathlib.Core.List.{List, [], ◌∷◌, ◌++◌, append-nil, append_assoc}
use Prim.Native.Nat.{ℕ, zero, suc, ◌+◌, ◌-◌, ◌*◌, ◌/◌, ◌%◌, ◌≤◌, ◌<◌}
use native.Mathlib.Omega.{arith}
use lib.Dec.{T, eqb, leb, ltb}
use mir.Facts.{leb_yes, yes_leb, ltb_yes, ltb_no, yes_ltb, no_ltb, eqb_no, no_eqb}
use Rattle.model.specs.Lists.{all}
use Rattle.model.specs.Text.{digits, decimal, signed, is_digit, value_from, digits_value, no_leading_zero}
use Rattle.model.proofs.Bools.{and_l, and_r, both, decide, cond_yes, cond_no}
use Rattle.model.proofs.Lists.{all_append}

-- ---- digits

pub digit-range : (x : ℕ) → T (is_digit x) → (48 ≤ x) × (x ≤ 57)
unfolding is_digit
digit-range x t = (leb_yes (and_l (leb 48 x) (leb x 57) t), leb_yes (and_r (leb 48 x) (leb x 57) t))

is_digit_lem : (x : ℕ) → x < 10 → T (is_digit (48 + x))
unfolding is_digit
is_digit_lem x h = both (leb 48 (48 + x)) (leb (48 + x) 57) (yes_leb {a = 48} {b = 48 + x} (omega arith)) (yes_leb {a = 48 + x} (omega arith))

-- ---- a fact of numbers and their digits holds if it holds of one digit and goes from some digits to one more

-- the digits of n after those of n / 10
abbrev more : ℕ → List ℕ → List ℕ
more n l = l ++ ((48 + n % 10) ∷ [])

module _ (f n : ℕ) where
  digits-one : n < 10 → digits (suc f) n ≡ (48 + n) ∷ []
  digits-one h = cond_yes (ltb n 10) ((48 + n) ∷ []) (more n (digits f (n / 10))) (yes_ltb h)

  digits_more : 10 ≤ n → digits (suc f) n ≡ more n (digits f (n / 10))
  digits_more h = cond_no (ltb n 10) ((48 + n) ∷ []) (more n (digits f (n / 10))) (no_ltb h)

module _ (P : ℕ → List ℕ → Type 0) (one : (n : ℕ) → n < 10 → P n ((48 + n) ∷ []))
    (next : (n : ℕ) (l : List ℕ) → 10 ≤ n → P (n / 10) l → P n (more n l)) where
  digits-fact : (f n : ℕ) → n < f → P n (digits f n)
  digits-fact zero n h = absurd (omega arith)
  digits-fact (suc f) n h =
      decide (ltb n 10)
      (λ (t : T (ltb n 10)). rw (digits-one f n (ltb_yes t)) (one n (ltb_yes t)))
      (λ (t : T (not (ltb n 10))). rw (digits_more f n (ltb_no t))
      (next n (digits f (n / 10)) (ltb_no t) (digits-fact f (n / 10) (omega (arith, ltb_no)))))

  pub decimal-fact : (n : ℕ) → P n (decimal n)
  unfolding decimal
  decimal-fact n = digits-fact (suc n) n (omega arith)

-- ---- digits are read back

value-more : (v : ℕ) (ds : List ℕ) (d : ℕ) → value_from v (ds ++ (d ∷ [])) ≡ value_from v ds * 10 + (d - 48)
value-more v [] d = refl
value-more v (e ∷ ds) d = value-more (v * 10 + (e - 48)) ds d

pub decimal-value : (n : ℕ) → digits_value (decimal n) ≡ n
decimal-value = decimal-fact (λ n l. digits_value l ≡ n)
    (λ n h. omega arith)
    (λ n l h e. rw (value-more 0 l (48 + n % 10)) (omega arith))

pub decimal_injective : (m n : ℕ) → decimal m ≡ decimal n → m ≡ n
decimal_injective m n e = sym (decimal-value m) ∙ ap digits_value e ∙ decimal-value n

-- ---- digits, the first of them not a zero

pub decimal-digits : (n : ℕ) → T (all is_digit (decimal n))
decimal-digits = decimal-fact (λ n l. T (all is_digit l))
    (λ n h. both (is_digit (48 + n)) true (is_digit_lem n h) tt)
    (λ n l h t. all_append is_digit l ((48 + n % 10) ∷ []) t (both (is_digit (48 + n % 10)) true (is_digit_lem (n % 10) (omega arith)) tt))

-- a first digit other than zero
abbrev leads : List ℕ → Bool
leads [] = false
leads (d ∷ ds) = not (eqb d 48)

leads-append : (x y : List ℕ) → T (leads x) → T (leads (x ++ y))
leads-append [] y t = absurd t
leads-append (d ∷ x) y t = t

decimal-leads : (n : ℕ) → 0 < n → T (leads (decimal n))
decimal-leads = decimal-fact (λ n l. 0 < n → T (leads l))
    (λ n h k. no_eqb {a = 48 + n} {b = 48} (omega arith))
    (λ n l h t k. leads-append l ((48 + n % 10) ∷ []) (t (omega arith)))

leads-no-zero : (l : List ℕ) → T (leads l) → T (no_leading_zero l)
leads-no-zero [] t = absurd t
leads-no-zero (d ∷ []) t = tt
leads-no-zero (d ∷ e ∷ l) t = t

pub decimal-lead : (n : ℕ) → T (no_leading_zero (decimal n))
unfolding decimal
decimal-lead zero = tt
decimal-lead (suc n) = leads-no-zero (decimal (suc n)) (decimal-leads (suc n) (omega arith))

-- ---- only the decimal has such digits

-- a number below ten is its own digit
pub decimal-one : (n : ℕ) → n < 10 → decimal n ≡ (48 + n) ∷ []
unfolding decimal
decimal-one n = digits-one n n

-- more places than needed change nothing
decimal-fuel : (n f : ℕ) → n < f → digits f n ≡ decimal n
decimal-fuel = decimal-fact (λ n l. (f : ℕ) → n < f → digits f n ≡ l) one next
  where
    one : (n : ℕ) → n < 10 → (f : ℕ) → n < f → digits f n ≡ (48 + n) ∷ []
    one n h zero k = absurd (omega arith)
    one n h (suc f) k = digits-one f n h

    next : (n : ℕ) (l : List ℕ) → 10 ≤ n → ((f : ℕ) → n / 10 < f → digits f (n / 10) ≡ l) → (f : ℕ) → n < f → digits f n ≡ more n l
    next n l h e zero k = absurd (omega arith)
    next n l h e (suc f) k = digits_more f n h ∙ ap (more n) (e f (omega arith))

-- another has one digit more than its tenth
pub decimal-more : (n : ℕ) → 10 ≤ n → decimal n ≡ more n (decimal (n / 10))
unfolding decimal
decimal-more n h = digits_more n n h ∙ ap (more n) (decimal-fuel (n / 10) n (omega arith))

-- a digit after those of v
decimal-next : (v d : ℕ) → 0 < v → T (is_digit d) → decimal (v * 10 + (d - 48)) ≡ decimal v ++ (d ∷ [])
decimal-next v d h t =
    let r = digit-range d t in
    let n : ℕ = v * 10 + (d - 48) in
    let q : n / 10 ≡ v = omega arith in
    let m : 48 + n % 10 ≡ d = omega arith in
    decimal-more n (omega arith) ∙ ap₂ (λ (a b : ℕ). decimal a ++ (b ∷ [])) q m

-- a digit alone
decimal_digit : (d : ℕ) → T (is_digit d) → decimal (0 * 10 + (d - 48)) ≡ d ∷ []
decimal_digit d t =
    let r = digit-range d t in
    let e : 48 + (0 * 10 + (d - 48)) ≡ d = omega arith in
    decimal-one (0 * 10 + (d - 48)) (omega arith) ∙ ap (λ (x : ℕ). x ∷ []) e

-- digits after those of v
decimal-all : (v : ℕ) (ds : List ℕ) → 0 < v → T (all is_digit ds) → decimal (value_from v ds) ≡ decimal v ++ ds
decimal-all v [] h t = sym (append-nil (decimal v))
decimal-all v (d ∷ ds) h t =
    decimal-all (v * 10 + (d - 48)) ds (omega arith) (and_r (is_digit d) (all is_digit ds) t)
    ∙ ap (λ (l : List ℕ). l ++ ds) (decimal-next v d h (and_l (is_digit d) (all is_digit ds) t))
    ∙ append_assoc (decimal v) (d ∷ []) ds

pub decimal-unique : (ds : List ℕ) → T (all is_digit ds) → T (no_leading_zero ds) → ds ≡ decimal (digits_value ds)
decimal-unique [] t z = absurd z
decimal-unique (d ∷ []) t z = sym (decimal_digit d (and_l (is_digit d) true t))
decimal-unique (d ∷ e ∷ ds) t z =
    let i : T (is_digit d) = and_l (is_digit d) (all is_digit (e ∷ ds)) t in
    let r = digit-range d i in
    let k : d ≢ 48 = eqb_no z in
    sym (decimal-all (0 * 10 + (d - 48)) (e ∷ ds) (omega arith) (and_r (is_digit d) (all is_digit (e ∷ ds)) t)
    ∙ ap (λ (l : List ℕ). l ++ (e ∷ ds)) (decimal_digit d i))

-- ---- signed numbers are read back

-- a fact of signed texts holds if it holds of those without a sign and of those with one
module _ (P : List ℕ → Type 0) (m : ℕ) (plain : m < 2147483648 → P (decimal m)) (minus : 2147483648 ≤ m → P (45 ∷ decimal (4294967296 - m))) where
  pub signed-fact : P (signed m)
  unfolding signed
  signed-fact =
      decide (ltb m 2147483648)
      (λ (t : T (ltb m 2147483648)). rw (cond_yes (ltb m 2147483648) (decimal m) (45 ∷ decimal (4294967296 - m)) t) (plain (ltb_yes t)))
      (λ (t : T (not (ltb m 2147483648))). rw (cond_no (ltb m 2147483648) (decimal m) (45 ∷ decimal (4294967296 - m)) t) (minus (ltb_no t)))

-- the number of 32 bits that a signed text stands for
abbrev pub signed_value : List ℕ → ℕ
signed_value [] = 0
signed_value (d ∷ ds) = cond (eqb d 45) (4294967296 - digits_value ds) (digits_value (d ∷ ds))

-- a text without a sign
plain_value : (ds : List ℕ) → T (all is_digit ds) → signed_value ds ≡ digits_value ds
plain_value [] t = refl
plain_value (d ∷ ds) t =
    let r = digit-range d (and_l (is_digit d) (all is_digit ds) t) in
    cond_no (eqb d 45) (4294967296 - digits_value ds) (digits_value (d ∷ ds)) (no_eqb {a = d} {b = 45} (omega arith))

pub signed-value : (m : ℕ) → m < 4294967296 → signed_value (signed m) ≡ m
signed-value m h = signed-fact (λ l. signed_value l ≡ m) m
    (λ k. plain_value (decimal m) (decimal-digits m) ∙ decimal-value m)
    (λ k. rw (decimal-value (4294967296 - m)) (omega arith))
