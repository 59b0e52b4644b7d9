-- A value is allowed where it passes the rule of its kind; the letter of a kind is its rule's, and the rule says how a value is printed.
use mathlib.Core.Path.{◌≡◌, refl, sym, subst, ap, ◌∙◌}
use mathlib.Core.Bool.{Bool, true, false, ◌&&◌, and-true}
use mathlib.Core.List.{List, [], ◌∷◌}
use Prim.Native.Nat.{ℕ, zero, suc, ◌≤◌, ◌<◌}
use native.Mathlib.Omega.{arith}
use lib.ListN.{length}
use lib.Dec.{T, leb, eqb}
use mir.Facts.{leb_yes, yes_leb, eqb_yes, yes_eqb, ltb_yes}
use borrow.Author.Tests.{le-leb, lt-leb, ne_eqb}
use Rattle.model.specs.Lists.{all, is_byte}
use Rattle.model.specs.Value.{is_printable, allowed}
use Rattle.model.specs.Text.{ascii, measure_of, signed}
use Rattle.model.specs.View.{letter, shown}
use Rattle.model.proofs.Bools.{and_l, and_r, both, is_true, same_test}
use Rattle.model.proofs.Lists.{Bytes, all-implies}
use Rattle.kind.specs.declared.Kind.{Kind}
use Rattle.kind.specs.declared.Kind.TheVariants.{Group, Measure, Text}
use Rattle.kind.specs.declared.Rule.{Rule}
use Rattle.kind.specs.Code.{code}
use Rattle.kind.specs.Rule.{rule_of, numbered_rule, within, passes}

-- ---- the test of a rule

module _ (r : Rule) (v : List ℕ) where
  pub too_short : length v < r.least → false ≡ passes r v
  unfolding passes
  too_short h = rw (lt-leb r.least (length v) h)

  module _ (h : r.least ≤ length v) where
    pub too_long : r.most < length v → false ≡ passes r v
    unfolding passes
    too_long k = rw (le-leb r.least (length v) h, lt-leb (length v) r.most k)

    pub by_bytes : length v ≤ r.most → {t : Bool} → t ≡ all (within r.low r.high) v → t ≡ passes r v
    unfolding passes
    by_bytes k e = rw (le-leb r.least (length v) h, le-leb (length v) r.most k) e

-- ---- the rules of the kinds

-- the rule of a kind is that of its number
pub rule-numbered : (k : Kind) → rule_of k ≡ numbered_rule (code k)
unfolding numbered_rule
rule-numbered Group = refl
rule-numbered Measure = refl
rule-numbered Text = refl

-- every number from 3 on has the rule of 3
pub other-kinds : (k : ℕ) → (k ≡ 0 → ⊥) → (k ≡ 1 → ⊥) → (k ≡ 2 → ⊥) → numbered_rule 3 ≡ numbered_rule k
unfolding numbered_rule
other-kinds zero a b c = absurd (a refl)
other-kinds (suc zero) a b c = absurd (b refl)
other-kinds (suc (suc zero)) a b c = absurd (c refl)
other-kinds (suc (suc (suc k))) a b c = refl

byte-within : (x : ℕ) → T (is_byte x) → T (within 0 255 x)
unfolding is_byte
byte-within x t =
    let l : 0 ≤ x = omega arith in
    let h : x < 256 = ltb_yes t in
    let k : x ≤ 255 = omega arith in
    search (both, yes_leb)

-- no value passes the rule of 3
none : (v : List ℕ) → false ≡ passes (numbered_rule 3) v
unfolding numbered_rule
none [] = too_short (numbered_rule 3) [] (omega arith)
none (x ∷ v) = too_long (numbered_rule 3) (x ∷ v) (omega arith) (omega arith)

-- n bytes of any value
exactly : (n : ℕ) (v : List ℕ) → T (all is_byte v) → eqb (length v) n ≡ (leb n (length v) && leb (length v) n && all (within 0 255) v)
exactly n v b =
    same_test (eqb (length v) n) (leb n (length v) && leb (length v) n && all (within 0 255) v)
    (λ (t : T (eqb (length v) n)).
    let e : length v ≡ n = eqb_yes t in
    let l : n ≤ length v = omega arith in
    let h : length v ≤ n = omega arith in
    let w : T (all (within 0 255) v) = all-implies is_byte (within 0 255) v byte-within b in
    search (both, yes_leb))
    (λ (t : T (leb n (length v) && leb (length v) n && all (within 0 255) v)).
    let l : n ≤ length v = leb_yes (search (and_l, and_r)) in
    let h : length v ≤ n = leb_yes (search (and_l, and_r)) in
    let e : length v ≡ n = omega arith in
    yes_eqb e)

pub allowed-rule : (k : ℕ) {v : List ℕ} → Bytes v → allowed k v ≡ passes (numbered_rule k) v
unfolding allowed is_printable rule_of numbered_rule passes
allowed-rule zero {v} b = exactly 0 v b.bytes
allowed-rule (suc zero) {v} b =
    rw (is_true (all is_byte v) b.bytes, and-true (eqb (length v) 4)) (exactly 4 v b.bytes)
allowed-rule (suc (suc zero)) b = refl
allowed-rule (suc (suc (suc k))) {v} b = none v

-- what passes the rule that a kind has is allowed
pub by_kind : (k : ℕ) {v : List ℕ} {r : Rule} → Bytes v → r ≡ numbered_rule k → passes r v ≡ allowed k v
by_kind k {v = v} b e = ap (λ (x : Rule). passes x v) e ∙ sym (allowed-rule k b)

pub letter-rule : (k : ℕ) → (numbered_rule k).letter ∷ [] ≡ letter k
unfolding letter rule_of numbered_rule
letter-rule zero = refl
letter-rule (suc zero) = refl
letter-rule (suc (suc zero)) = refl
letter-rule (suc (suc (suc k))) = refl

-- the model's letter is one byte, at any number
pub letter-one : (n : ℕ) → length (letter n) ≡ 1
unfolding letter
letter-one zero = refl
letter-one (suc zero) = refl
letter-one (suc (suc n)) = refl

-- ---- how a value is printed

pub never : {X : Type 0} → false ≡ true → X
never e = absurd (subst T (sym e) tt)

-- only a measure is a number
pub number-kind : (k : ℕ) → (numbered_rule k).number ≡ eqb k 1
unfolding rule_of numbered_rule
number-kind zero = refl
number-kind (suc zero) = refl
number-kind (suc (suc zero)) = refl
number-kind (suc (suc (suc k))) = sym (ne_eqb (suc (suc (suc k))) 1 (λ z. absurd (omega arith)))

-- the rule of a number is that of a measure
pub number-length : (k : ℕ) (v : List ℕ) → T (allowed k v) → (numbered_rule k).number ≡ true → length v ≡ 4
unfolding allowed rule_of numbered_rule
number-length zero v t e = never e
number-length (suc zero) v t e = eqb_yes (and_l (eqb (length v) 4) (all is_byte v) t)
number-length (suc (suc zero)) v t e = never e
number-length (suc (suc (suc k))) v t e = absurd t

pub shown-number : (k : ℕ) (v : List ℕ) → (numbered_rule k).number ≡ true → signed (measure_of v) ≡ shown k v
unfolding shown rule_of numbered_rule
shown-number zero v e = never e
shown-number (suc zero) v e = refl
shown-number (suc (suc zero)) v e = never e
shown-number (suc (suc (suc k))) v e = never e

-- only a group has a value of no bytes
pub shown-none : (k : ℕ) (v : List ℕ) → T (allowed k v) → length v ≡ 0 → ascii "-" ≡ shown k v
unfolding shown allowed
shown-none zero v t h = refl
shown-none (suc zero) v t h = let l : length v ≡ 4 = eqb_yes (and_l (eqb (length v) 4) (all is_byte v) t) in absurd (omega arith)
shown-none (suc (suc zero)) v t h = let l : 1 ≤ length v = leb_yes (search (and_l, and_r)) in absurd (omega arith)
shown-none (suc (suc (suc k))) v t h = absurd t

-- and only a text is printed as it is
pub shown-text : (k : ℕ) (v : List ℕ) → T (allowed k v) → (numbered_rule k).number ≡ false → 0 < length v → v ≡ shown k v
unfolding shown allowed rule_of numbered_rule
shown-text zero v t e h = let l : length v ≡ 0 = eqb_yes t in absurd (omega arith)
shown-text (suc zero) v t e h = never (sym e)
shown-text (suc (suc k)) v t e h = refl

-- ---- a number and its kind

-- a number from 3 on has no value
pub unknown-kind : (n : ℕ) (v : List ℕ) → 2 < n → false ≡ allowed n v
unfolding allowed
unknown-kind zero v h = absurd (omega arith)
unknown-kind (suc zero) v h = absurd (omega arith)
unknown-kind (suc (suc zero)) v h = absurd (omega arith)
unknown-kind (suc (suc (suc k))) v h = refl

-- so a number that has one is a kind's
pub known-kind : (n : ℕ) (v : List ℕ) → T (allowed n v) → n < 3
unfolding allowed
known-kind zero v t = omega arith
known-kind (suc zero) v t = omega arith
known-kind (suc (suc zero)) v t = omega arith
known-kind (suc (suc (suc k))) v t = absurd t
