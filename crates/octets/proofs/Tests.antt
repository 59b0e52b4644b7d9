-- A test of every member of a list, one or several at a time; what a slice holds; when or-ed numbers are 0.
use mathlib.Core.Path.{◌≡◌, refl, sym, ap, ◌∙◌}
use mathlib.Core.Bool.{Bool, true, ◌&&◌, and-true, and_assoc}
use mathlib.Core.List.{List, [], ◌∷◌, ◌++◌}
use Prim.Native.Nat.{ℕ, zero, suc, ◌+◌, ◌-◌, ◌≤◌, ◌<◌}
use native.Mathlib.Numerals.{add-one}
use native.Mathlib.Omega.{arith}
use lib.ListN.{length, drop, get_or, length-drop, drop_of_length-le}
use lib.Seq.{get_or-drop}
use lib.Bits.{bit_or, or_zero_l, or_add_and, and_le_r}
use lib.Dec.{T, eqb}
use mir.Syntax.{w8}
use mir.Val.{Fits}
use mir.Facts.{yes_ltb, Fits-lt-pow}
use borrow.Author.Tests.{ne_eqb}
use Rattle.std.specs.List.{list_all}
use Rattle.model.specs.Lists.{all, between, is_byte}
use Rattle.model.proofs.Bools.{both}
use Rattle.model.proofs.Lists.{Bytes, all_both, drop-part, between-one}

-- t is the answer for the first i members
pub record Tested (p : ℕ → Bool) (s : List ℕ) (t : Bool) (i : ℕ) : Type 0 where
  pub within : i ≤ length s
  pub same : all p s ≡ (t && all p (drop i s))

-- so it is before the first member
pub test-start : (p : ℕ → Bool) (s : List ℕ) → Tested p s true 0
test-start p s = record { within = omega arith; same = refl }

module _ {p : ℕ → Bool} {s : List ℕ} {t : Bool} {i : ℕ} (inv : Tested p s t i) where
  -- and with the k members from place i on
  pub test-part : (k : ℕ) → i + k ≤ length s → {u : Bool} → u ≡ (t && all p (between i (i + k) s)) → Tested p s u (i + k)
  test-part k h e =
      let part : List ℕ = between i (i + k) s in
      let d : drop i s ≡ part ++ drop (i + k) s = drop-part i k s in
      record {
        within = h;
        same =
            inv.same ∙ ap (λ (l : List ℕ). t && all p l) d ∙ ap (λ (b : Bool). t && b) (all_both p part (drop (i + k) s))
            ∙ sym (and_assoc t (all p part) (all p (drop (i + k) s)))
            ∙ ap (λ (b : Bool). b && all p (drop (i + k) s)) (sym e);
      }

  -- and with the member at place i
  pub test-next : i < length s → {u : Bool} → u ≡ (t && p (get_or s i 0)) → Tested p s u (i + 1)
  test-next h e =
      let one : between i (i + 1) s ≡ get_or s i 0 ∷ [] = rw (add-one i) (between-one i s h) in
      test-part 1 (omega arith) (e ∙ ap (λ (b : Bool). t && b) (sym (ap (all p) one ∙ and-true (p (get_or s i 0)))))

  -- after the last member it is the answer
  pub test-end : length s ≤ i → t ≡ all p s
  test-end h = sym (inv.same ∙ ap (λ (l : List ℕ). t && all p l) (drop_of_length-le s h) ∙ and-true t)

-- t is the answer for the members from k to i - 1
module _ {p : ℕ → Bool} (s : List ℕ) (k i : ℕ) {t : Bool} (inv : Tested p (drop k s) t (i - k)) where
  -- a member before place k does not count
  pub tail-skip : i < k → {u : Bool} → u ≡ t → Tested p (drop k s) u (i + 1 - k)
  tail-skip h e = let n : i + 1 - k ≡ i - k = omega arith in rw (e, n) inv

  -- one from there on does
  pub tail-next : k ≤ i → i < length s → {u : Bool} → u ≡ (t && p (get_or s i 0)) → Tested p (drop k s) u (i + 1 - k)
  tail-next h l e =
      let n : i + 1 - k ≡ i - k + 1 = omega arith in
      let q : k + (i - k) ≡ i = omega arith in
      let g : get_or (drop k s) (i - k) 0 ≡ get_or s i 0 = get_or-drop k s (i - k) 0 ∙ ap (λ (j : ℕ). get_or s j 0) q in
      rw n (test-next inv (simp length-drop (omega arith)) (e ∙ ap (λ (x : ℕ). t && p x) (sym g)))

  -- after the last member it is the answer for those from place k on
  pub tail-end : length s ≤ i → t ≡ all p (drop k s)
  tail-end h = test-end inv (simp length-drop (omega arith))

-- so it is before the first member
pub tail-start : (p : ℕ → Bool) (s : List ℕ) (k : ℕ) → Tested p (drop k s) true (0 - k)
tail-start p s k = let e : 0 - k ≡ 0 = omega arith in rw e (test-start p (drop k s))

-- the library's test of every member is the model's
pub all_same : {A : Type 0} (p : A → Bool) (s : List A) → list_all p s ≡ all p s
all_same p [] = refl
all_same p (x ∷ s) = ap (λ (t : Bool). p x && t) (all_same p s)

byte : (x : ℕ) → Fits w8 x → T (is_byte x)
unfolding is_byte
byte x f = yes_ltb (Fits-lt-pow f)

-- the members of a slice are bytes
pub slice-bytes : (s : List ℕ) → ((i : ℕ) → Fits w8 (get_or s i 0)) → Bytes s
slice-bytes s f = record { bytes = go s f }
  where
    go : (l : List ℕ) → ((i : ℕ) → Fits w8 (get_or l i 0)) → T (all is_byte l)
    go [] g = tt
    go (x ∷ l) g = both (is_byte x) (all is_byte l) (byte x (g 0)) (go l (λ i. g (suc i)))

-- two numbers or-ed are 0 where both are
pub or-is-zero : (a x : ℕ) → eqb (bit_or a x) 0 ≡ (eqb a 0 && eqb x 0)
or-is-zero zero x = rw (or_zero_l x)
or-is-zero (suc a) x =
    ne_eqb (bit_or (suc a) x) 0 (λ e. omega (arith, or_add_and (suc a) x, and_le_r (suc a) x))
    ∙ ap (λ (t : Bool). t && eqb x 0) (sym (ne_eqb (suc a) 0 (λ e. omega arith)))
