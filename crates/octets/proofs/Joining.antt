-- Bytes joined to one number: when it is 0, the number of eight bytes, and a zero test that takes eight bytes a step.
use mathlib.Core.Path.{◌≡◌, refl, sym, ap, ap₂, ◌∙◌}
use mathlib.Core.Bool.{Bool, ◌&&◌, and-true, and_assoc}
use mathlib.Core.List.{List, [], ◌∷◌, ◌++◌}
use Prim.Native.Nat.{ℕ, zero, suc, ◌+◌, ◌-◌, ◌*◌, ◌%◌, ◌≤◌, ◌<◌}
use native.Mathlib.Omega.{arith}
use lib.ListN.{length, take, drop, get_or, length-append, length-drop}
use lib.Seq.{take_at, drop_at, drop-drop}
use lib.Bits.{bit_or, or_zero_r}
use lib.Dec.{T, eqb}
use mir.Facts.{eqb_yes, yes_eqb}
use Rattle.std.proofs.lemmas.List.{nil_from_length}
use Rattle.model.specs.Lists.{range, all_zero, between}
use Rattle.model.specs.Slot.{slot_size}
use Rattle.model.proofs.Bools.{and_l, and_r, both, same_test, decide}
use Rattle.model.proofs.Lists.{all_both, between_none, between_cons}
use Rattle.octets.specs.Joined.{number_of}
use Rattle.octets.proofs.Tests.{Tested, test-start, test-part, test-end, or-is-zero}

-- ---- when it is 0

-- a byte and what stands above it are 0 together
pub join-zero : (x n : ℕ) → eqb (x + 256 * n) 0 ≡ (eqb x 0 && eqb n 0)
join-zero x n =
    same_test (eqb (x + 256 * n) 0) (eqb x 0 && eqb n 0)
    (λ (t : T (eqb (x + 256 * n) 0)).
    let z : x + 256 * n ≡ 0 = eqb_yes t in
    let a : x ≡ 0 = omega arith in
    let b : n ≡ 0 = omega arith in
    both (eqb x 0) (eqb n 0) (yes_eqb a) (yes_eqb b))
    (λ (t : T (eqb x 0 && eqb n 0)).
    let a : x ≡ 0 = eqb_yes (and_l (eqb x 0) (eqb n 0) t) in
    let b : n ≡ 0 = eqb_yes (and_r (eqb x 0) (eqb n 0) t) in
    let z : x + 256 * n ≡ 0 = omega arith in
    yes_eqb z)

-- so bytes joined, however many, are 0 exactly when all of them are
pub number-zero : (l : List ℕ) → eqb (number_of l) 0 ≡ all_zero l
number-zero [] = refl
number-zero (x ∷ l) = join-zero x (number_of l) ∙ ap (λ (t : Bool). eqb x 0 && t) (number-zero l)

-- ---- eight bytes

-- the members of a part, one by one
between-range : (s : List ℕ) (at i k : ℕ) → at + i + k ≤ length s → between (at + i) (at + i + k) s ≡ range (λ j. get_or s (at + j) 0) i k
between-range s at i zero h = between_none (at + i) (at + i + 0) s (omega arith)
between-range s at i (suc k) h =
    let n : suc (at + i) ≡ at + suc i = omega arith in
    let e : at + i + suc k ≡ at + suc i + k = omega arith in
    between_cons (at + i) (at + i + suc k) s (omega arith) h
    ∙ ap₂ (λ (a b : ℕ). get_or s (at + i) 0 ∷ between a b s) n e
    ∙ ap (λ (l : List ℕ). get_or s (at + i) 0 ∷ l) (between-range s at (suc i) k (omega arith))

-- two words are eight bytes
pub eight-joined : (s : List ℕ) (at : ℕ) → at + 8 ≤ length s → {low high : ℕ}
    → low ≡ number_of (get_or s at 0 ∷ get_or s (at + 1) 0 ∷ get_or s (at + 2) 0 ∷ get_or s (at + 3) 0 ∷ [])
    → high ≡ number_of (get_or s (at + 4) 0 ∷ get_or s (at + 5) 0 ∷ get_or s (at + 6) 0 ∷ get_or s (at + 7) 0 ∷ [])
    → low + 4294967296 * high ≡ number_of (between at (at + 8) s)
eight-joined s at h {low} {high} e f =
    let z : at + 0 ≡ at = omega arith in
    let part : between at (at + 8) s ≡ range (λ j. get_or s (at + j) 0) 0 8 = ap (λ (a : ℕ). between a (a + 8) s) (sym z) ∙ between-range s at 0 8 (omega arith) in
    let first : get_or s (at + 0) 0 ≡ get_or s at 0 = ap (λ (a : ℕ). get_or s a 0) z in
    rw part (omega arith)

-- ---- a zero test, eight bytes a step

-- the first bytes, up to a place and whole eights, are 0 exactly when the number is
pub record ZeroTo (s : List ℕ) (used at : ℕ) : Type 0 where
  pub whole : at % 8 ≡ 0
  pub tested : Tested (λ x. eqb x 0) s (eqb used 0) at

-- so it is before the first step
pub zero-start : (s : List ℕ) → ZeroTo s 0 0
zero-start s = record { whole = refl; tested = test-start (λ x. eqb x 0) s }

module _ {s : List ℕ} {used at : ℕ} (inv : ZeroTo s used at) where
  -- a step: the eight bytes from the place on, joined
  module _ (fits : at + 8 ≤ length s) {joined : ℕ} (is : joined ≡ number_of (between at (at + 8) s)) {now : ℕ} where
    -- where they are not 0, they are or-ed in
    pub zero-used : now ≡ bit_or used joined → ZeroTo s now (at + 8)
    zero-used e =
        let part : eqb joined 0 ≡ all_zero (between at (at + 8) s) = ap (λ (n : ℕ). eqb n 0) is ∙ number-zero (between at (at + 8) s) in
        let both : eqb now 0 ≡ (eqb used 0 && eqb joined 0) = ap (λ (n : ℕ). eqb n 0) e ∙ or-is-zero used joined in
        record { whole = omega (arith, inv.whole); tested = test-part inv.tested 8 fits (both ∙ ap (λ (t : Bool). eqb used 0 && t) part) }

    -- where they are, the number stays
    pub zero-unused : joined ≡ 0 → now ≡ used → ZeroTo s now (at + 8)
    zero-unused z e = zero-used (e ∙ sym (ap (bit_or used) z ∙ or_zero_r used))

  -- after the last step: of whole slots nothing is left over
  pub zero-end : length s % slot_size ≡ 0 → length s < at + 8 → eqb used 0 ≡ all_zero s
  zero-end h k = test-end inv.tested (omega (arith, inv.whole))

-- ---- the same test, by what is left

-- what is left is whole eights, and all bytes are 0 exactly when the number and what is left are
pub record ZeroLeft (s : List ℕ) (used size : ℕ) (left : List ℕ) : Type 0 where
  pub by : size ≡ 8
  pub whole : length left % 8 ≡ 0
  pub same : all_zero s ≡ (eqb used 0 && all_zero left)

-- so it is before the first step
pub left-start : (s : List ℕ) {size : ℕ} {left : List ℕ} → length s % slot_size ≡ 0 → size ≡ 8 → left ≡ s → ZeroLeft s 0 size left
left-start s h e l = record { by = e; whole = rw l (omega arith); same = ap all_zero (sym l) }

module _ {s : List ℕ} {used size : ℕ} {left : List ℕ} (inv : ZeroLeft s used size left) where
  -- a step: the next eight bytes are joined and or-ed in
  pub left-more : {joined size' : ℕ} (eight left' : List ℕ) → size' ≡ size → left ≡ eight ++ left' → length eight ≡ size → joined ≡ number_of eight
      → ZeroLeft s (bit_or used joined) size' left'
  left-more {joined} eight left' e l n j =
      let k : length left ≡ length eight + length left' = ap length l ∙ length-append eight left' in
      let part : eqb joined 0 ≡ all_zero eight = ap (λ (m : ℕ). eqb m 0) j ∙ number-zero eight in
      let more : all_zero left ≡ (eqb joined 0 && all_zero left') =
      ap all_zero l ∙ all_both (λ x. eqb x 0) eight left' ∙ ap (λ (t : Bool). t && all_zero left') (sym part) in
      record {
        by = e ∙ inv.by;
        whole = omega (arith, k, n, inv.by, inv.whole);
        same =
            inv.same ∙ ap (λ (t : Bool). eqb used 0 && t) more
            ∙ sym (and_assoc (eqb used 0) (eqb joined 0) (all_zero left'))
            ∙ ap (λ (t : Bool). t && all_zero left') (sym (or-is-zero used joined));
      }

  -- after the last step nothing is left
  pub left-end : length left < size → eqb used 0 ≡ all_zero s
  left-end h =
      let k : left ≡ [] = nil_from_length left (omega (arith, inv.by, inv.whole)) in
      sym (inv.same ∙ ap (λ (l : List ℕ). eqb used 0 && all_zero l) k ∙ and-true (eqb used 0))

-- ---- what is left, and the place it stands from

-- what is left of whole slots stands from the place on that the test has come to
pub record ZeroReached (s : List ℕ) (used size : ℕ) (left : List ℕ) : Type 0 where
  pub by : size ≡ 8
  pub whole : length s % slot_size ≡ 0
  pub at : ℕ
  pub to : ZeroTo s used at
  pub is : left ≡ drop at s

-- so it is before the first step
pub reached-start : (s : List ℕ) {size : ℕ} {left : List ℕ} → length s % slot_size ≡ 0 → size ≡ 8 → left ≡ s → ZeroReached s 0 size left
reached-start s h e l = record { by = e; whole = h; at = 0; to = zero-start s; is = l }

module _ {s : List ℕ} {used size : ℕ} {left : List ℕ} (inv : ZeroReached s used size left) where
  -- what is left is whole eights, and tells with the number whether all bytes are 0
  pub reached-left : ZeroLeft s used size left
  reached-left =
      let k : length left ≡ length s - inv.at = ap length inv.is ∙ length-drop inv.at s in
      record {
        by = inv.by;
        whole = omega (arith, k, inv.whole, inv.to.whole, inv.to.tested.within);
        same = inv.to.tested.same ∙ ap (λ (l : List ℕ). eqb used 0 && all_zero l) (sym inv.is);
      }

  -- a step: the next eight bytes are joined and or-ed in; where they are 0, the number stays
  pub reached-more : {joined size' : ℕ} (eight left' : List ℕ) → size' ≡ size → left ≡ eight ++ left' → length eight ≡ size → joined ≡ number_of eight
      → ZeroReached s (bit_or used joined) size' left'
  reached-more {joined} eight left' e l n j =
      let here : drop inv.at s ≡ eight ++ left' = sym inv.is ∙ l in
      let size-of : length eight ≡ 8 = n ∙ inv.by in
      let m : inv.at + 8 - inv.at ≡ 8 = omega arith in
      let part : between inv.at (inv.at + 8) s ≡ eight = ap₂ take m here ∙ take_at eight left' 8 size-of in
      let joins : joined ≡ number_of (between inv.at (inv.at + 8) s) = j ∙ ap number_of (sym part) in
      let k : length s - inv.at ≡ length eight + length left' = sym (length-drop inv.at s) ∙ ap length here ∙ length-append eight left' in
      let fits : inv.at + 8 ≤ length s = omega (arith, k, size-of) in
      record {
        by = e ∙ inv.by;
        whole = inv.whole;
        at = inv.at + 8;
        to =
            decide (eqb joined 0)
            (λ t. zero-unused inv.to fits joins (eqb_yes t) (ap (bit_or used) (eqb_yes t) ∙ or_zero_r used))
            (λ _. zero-used inv.to fits joins refl);
        is = sym (drop_at eight left' 8 size-of) ∙ ap (drop 8) (sym here) ∙ drop-drop 8 inv.at s;
      }

  -- after the last step nothing is left
  pub reached-end : length left < size → eqb used 0 ≡ all_zero s
  reached-end h =
      let k : length left ≡ length s - inv.at = ap length inv.is ∙ length-drop inv.at s in
      zero-end inv.to inv.whole (omega (arith, k, inv.by))
