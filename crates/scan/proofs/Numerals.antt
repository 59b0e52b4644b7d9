-- Numbers as they stand in a text.
use mathlib.Core.Path.{◌≡◌, refl, sym, ap, ap₂, ◌∙◌}
use mathlib.Core.Bool.{Bool, true, false, not}
use mathlib.Core.List.{List, [], ◌∷◌, ◌++◌}
use Prim.Native.Nat.{ℕ, suc, ◌+◌, ◌-◌, ◌*◌, ◌≤◌, ◌<◌}
use native.Mathlib.Numerals.{add-one}
use native.Mathlib.Omega.{arith}
use lib.ListN.{length, drop, get_or, drop_of_length-le, take-append-drop}
use lib.Seq.{drop-drop}
use lib.Dec.{T, eqb, ltb}
use mir.Facts.{T_not, ltb_yes, ltb_no}
use borrow.Author.Tests.{eqb-true, not-true, not-false}
use Rattle.model.specs.Lists.{all, between}
use Rattle.model.specs.Text.{decimal, is_digit, value_from, digits_value, no_leading_zero}
use Rattle.model.proofs.Bools.{and_l, and_r, decide, is_true}
use Rattle.model.proofs.Lists.{all_append, between_join, between-one, between_none, between_cons}
use Rattle.model.proofs.Decimal.{decimal-value, decimal_injective, decimal-digits, decimal-lead, decimal-unique, digit-range}
use Rattle.scan.specs.Text.{begins, no_digit}
use Rattle.scan.specs.Numbers.{Run, Numbered, NumberAt}
use Rattle.std.specs.Prelude.{Some, None}
use Rattle.scan.proofs.Goings.{neither, drop_here}

-- ---- one digit

-- a digit's byte is not below the zero's
pub digit-least : {t : Bool} (x : ℕ) → t ≡ is_digit x → not t ≡ false → 48 ≤ x
digit-least {t} x e h = (digit-range x (rw (← e, not-false t h) tt)).0

-- ---- digits that no digit follows

-- of two texts that are the same, digits and what follows them are the same
pub digits-unique : (x : List ℕ) {y : List ℕ} (d : List ℕ) {r : List ℕ} → T (all is_digit x) → T (no_digit y) → T (all is_digit d) → T (no_digit r)
    → x ++ y ≡ d ++ r → (x ≡ d) × (y ≡ r)
digits-unique [] [] p q s t e = (refl, e)
digits-unique [] (b ∷ d) p q s t e = absurd (T_not (is_digit b) (and_l (is_digit b) (all is_digit d) s) (rw e at q))
digits-unique (a ∷ x) [] p q s t e = absurd (T_not (is_digit a) (and_l (is_digit a) (all is_digit x) p) (rw (← e) at t))
digits-unique (a ∷ x) {y} (b ∷ d) {r} p q s t e =
    let h : a ≡ b = cc in
    let k : x ++ y ≡ d ++ r = cc in
    let u = digits-unique x d (and_r (is_digit a) (all is_digit x) p) q (and_r (is_digit b) (all is_digit d) s) t k in
    (ap₂ (λ (c : ℕ) (z : List ℕ). c ∷ z) h u.0, u.1)

-- more digits do not make a number less
value_grows : (v : ℕ) (d : List ℕ) → v ≤ value_from v d
value_grows v [] = omega arith
value_grows v (a ∷ d) = omega (arith, value_grows (v * 10 + (a - 48)) d)

-- so the first of some digits stand for no more than all of them
first-digits : (v : ℕ) (x y d r : List ℕ) → T (all is_digit x) → T (no_digit r) → x ++ y ≡ d ++ r → value_from v x ≤ value_from v d
first-digits v [] y d r p q e = value_grows v d
first-digits v (a ∷ x) y [] r p q e = absurd (T_not (is_digit a) (and_l (is_digit a) (all is_digit x) p) (rw (← e) at q))
first-digits v (a ∷ x) y (b ∷ d) r p q e =
    let h : a ≡ b = cc in
    let k : x ++ y ≡ d ++ r = cc in
    rw (← h) (first-digits (v * 10 + (a - 48)) x y d r (and_r (is_digit a) (all is_digit x) p) q k)

-- ---- a number at the front of a text

-- a text begins with one number at most
pub numbered-unique : {m k n o : ℕ} {l r q : List ℕ} → Numbered m l n r → Numbered k l o q → (n ≡ o) × (r ≡ q)
numbered-unique {n = n} {o = o} s t =
    let u = digits-unique (decimal n) (decimal o) (decimal-digits n) s.ends (decimal-digits o) t.ends (sym s.same ∙ t.same) in
    (decimal_injective n o u.0, u.1)

-- ---- the digits of a text, one at a time

-- those from at to i stand for v
pub record Ran (l : List ℕ) (at v i : ℕ) : Type 0 where
  pub from : at ≤ i
  pub within : i ≤ length l
  pub digits : T (all is_digit (between at i l))
  pub value : v ≡ digits_value (between at i l)

-- a part and what follows it
part-rest : (at i : ℕ) (l : List ℕ) → at ≤ i → drop at l ≡ between at i l ++ drop i l
part-rest at i l h =
    let e : at + (i - at) ≡ i = omega arith in
    sym (take-append-drop (i - at) (drop at l)) ∙ ap (λ (r : List ℕ). between at i l ++ r) (drop-drop (i - at) at l ∙ ap (λ (n : ℕ). drop n l) e)

-- no digit is passed
pub ran-start : (l : List ℕ) (at : ℕ) → at ≤ length l → Ran l at 0 at
ran-start l at h =
    let e : between at at l ≡ [] = between_none at at l (omega arith) in
    record { from = omega arith; within = h; digits = rw e tt; value = rw e }

value-last : (v : ℕ) (x : List ℕ) (d : ℕ) → value_from v (x ++ (d ∷ [])) ≡ value_from v x * 10 + (d - 48)
value-last v [] d = refl
value-last v (a ∷ x) d = value-last (v * 10 + (a - 48)) x d

module _ {l : List ℕ} {at v i : ℕ} (inv : Ran l at v i) where
  -- the digits end there, if they stand for no more than most
  ran-run : (most : ℕ) → (v ≤ most → T (no_digit (drop i l))) → Run most l at v i
  ran-run most f = record { from = inv.from; within = inv.within; digits = inv.digits; value = inv.value; stops = f }

  -- they stand for more than most
  pub ran_over : (most : ℕ) → most < v → Run most l at v i
  ran_over most h = ran-run most (λ k. absurd (omega arith))

  -- the text ends
  pub ran-end : (most : ℕ) → length l ≤ i → Run most l at v i
  ran-end most h = ran-run most (λ k. rw (drop_of_length-le l {i = i} h) tt)

  module _ (h : i < length l) {t : Bool} (e : t ≡ is_digit (get_or l i 0)) where
    -- no digit follows
    pub ran-stop : (most : ℕ) → not t ≡ true → Run most l at v i
    ran-stop most k = ran-run most (λ m. rw (drop_here l i h, ← e, k) tt)

    -- one digit more
    pub ran-next : not t ≡ false → {d : ℕ} → d ≡ get_or l i 0 - 48 → Ran l at (v * 10 + d) (i + 1)
    ran-next k f =
        let b : between at (i + 1) l ≡ between at i l ++ (get_or l i 0 ∷ []) =
        rw (add-one i)
        (sym (between_join at i (suc i) l inv.from (omega arith)) ∙ ap (λ (r : List ℕ). between at i l ++ r) (between-one i l h)) in
        record {
          from = omega (arith, inv.from);
          within = omega arith;
          digits = rw b (all_append is_digit (between at i l) (get_or l i 0 ∷ []) inv.digits (rw (← e, not-false t k) tt));
          value = rw (b, value-last 0 (between at i l) (get_or l i 0), ← inv.value, f);
        }

-- ---- no zero before others

module _ (at end : ℕ) (l : List ℕ) where
  -- no digit
  pub led-none : end ≡ at → false ≡ no_leading_zero (between at end l)
  led-none e = rw (between_none at end l (omega arith))

  module _ (h : at ≤ end) (k : end ≤ length l) (more : end ≡ at → ⊥) where
    -- one digit
    pub led-one : end ≡ at + 1 → true ≡ no_leading_zero (between at end l)
    led-one e = rw (e, add-one at, between-one at l (omega arith))

    -- two digits or more
    pub led-more : (end ≡ at + 1 → ⊥) → not (eqb (get_or l at 0) 48) ≡ no_leading_zero (between at end l)
    led-more f =
        let b : between at end l ≡ get_or l at 0 ∷ get_or l (suc at) 0 ∷ between (suc (suc at)) end l =
        between_cons at end l (omega arith) k
        ∙ ap (λ (r : List ℕ). get_or l at 0 ∷ r) (between_cons (suc at) end l (omega arith) k) in
        rw b

-- ---- a number at a place of a text

module _ {most : ℕ} {l : List ℕ} {at v i : ℕ} (run : Run most l at v i) where
  -- the digits stand for too much
  pub number-over : most < v → NumberAt most l at None
  number-over h n r s =
      let f = first-digits 0 (between at i l) (drop i l) (decimal n) r run.digits s.ends (sym (part-rest at i l run.from) ∙ s.same) in
      let e : digits_value (decimal n) ≡ n = decimal-value n in
      omega (arith, f, e, run.value, s.small)

  module _ (h : v ≤ most) {t : Bool} (e : t ≡ no_leading_zero (between at i l)) where
    -- there is no digit, or a zero before others
    pub number-unled : not t ≡ true → NumberAt most l at None
    number-unled k n r s =
        let u = digits-unique (between at i l) (decimal n) run.digits (run.stops h) (decimal-digits n) s.ends
        (sym (part-rest at i l run.from) ∙ s.same) in
        neither (not-true t k) (e ∙ ap no_leading_zero u.0 ∙ is_true (no_leading_zero (decimal n)) (decimal-lead n))

    -- they are a number
    pub number-found : not t ≡ false → NumberAt most l at (Some (v, i))
    number-found k = (
      some (sym e ∙ not-false t k),
      run.within,
      record {
        small = h;
        ends = run.stops h;
        same = part-rest at i l run.from ∙ ap (λ (d : List ℕ). d ++ drop i l) is;
      },
    )
      where
        some : no_leading_zero (between at i l) ≡ true → at < i
        some f =
            decide (ltb at i)
            (λ (p : T (ltb at i)). ltb_yes p)
            (λ (p : T (not (ltb at i))). absurd (neither (ap no_leading_zero (between_none at i l (ltb_no p))) f))

        is : between at i l ≡ decimal v
        is = decimal-unique (between at i l) run.digits (rw (← e, not-false t k) tt) ∙ ap decimal (sym run.value)

-- a number begins with a digit
pub decimal-begins : (b : ℕ) → T (not (is_digit b)) → (n : ℕ) (r : List ℕ) → begins b (decimal n ++ r) ≡ true → ⊥
decimal-begins b h n r = go (decimal n) (decimal-digits n) (decimal-lead n)
  where
    go : (d : List ℕ) → T (all is_digit d) → T (no_leading_zero d) → begins b (d ++ r) ≡ true → ⊥
    go [] p q e = absurd q
    go (x ∷ d) p q e =
        let k : x ≡ b = eqb-true x b e in
        T_not (is_digit x) (and_l (is_digit x) (all is_digit d) p) (rw k h)
