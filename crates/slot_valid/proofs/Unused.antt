-- The six places of a slot's steps in one walk, and the bytes behind the value.
use mathlib.Core.Path.{◌≡◌, sym, ap, ap₂, ◌∙◌}
use mathlib.Core.Bool.{Bool, true, false, not, ◌&&◌, and_assoc}
use mathlib.Core.List.{List}
use Prim.Native.Nat.{ℕ, zero, suc, ◌+◌, ◌-◌, ◌*◌, ◌≤◌, ◌<◌, max}
use native.Mathlib.Omega.{arith}
use borrow.Author.Tests.{lt-ltb, le-ltb}
use lib.ListN.{length, drop, get_or}
use lib.Seq.{drop_at}
use lib.Dec.{T, eqb, ltb}
use mir.Facts.{ltb_yes, ltb_no, eqb_yes, yes_eqb}
use Rattle.model.specs.Lists.{all, range, all_zero, between}
use Rattle.model.specs.Path.{Step, same_step}
use Rattle.model.specs.Slot.{names_at, labels_at, kind_at, value_at, spare_at, slot_size, depth, step_at, value_length, read_path}
use Rattle.model.proofs.Bools.{and_l, and_r, both, crossed, decide, same_test}
use Rattle.model.proofs.Lists.{length-between, all-parts, between_join, between_none, between_cons}
use Rattle.model.proofs.Walks.{rest, rest_more, rest_end}
use Rattle.octets.proofs.Joining.{join-zero}
use Rattle.path.specs.Steps.{may_follow, all_follow}
use Rattle.slot_valid.specs.Valid.{no_step, may_stand, steps_zero, rest_zero}

-- ---- one place

-- a sum is 0 where both numbers are
sum-zero : (x y : ℕ) → eqb (x + y) 0 ≡ (eqb x 0 && eqb y 0)
sum-zero x y =
    same_test (eqb (x + y) 0) (eqb x 0 && eqb y 0)
    (λ (t : T (eqb (x + y) 0)).
    let e : x + y ≡ 0 = eqb_yes t in
    let f : x ≡ 0 = omega arith in
    let g : y ≡ 0 = omega arith in
    search (both, yes_eqb))
    (λ (t : T (eqb x 0 && eqb y 0)).
    let f : x ≡ 0 = eqb_yes (search (and_l, and_r)) in
    let g : y ≡ 0 = eqb_yes (search (and_l, and_r)) in
    let e : x + y ≡ 0 = omega arith in
    yes_eqb e)

module _ (d l i : ℕ) (a : Step) where
  pub used-place : i < d → {r : Bool} → r ≡ may_follow l a → r ≡ may_stand d l i a
  used-place h e = e ∙ rw (lt-ltb i d h)

  -- name and label of no step are 0
  pub unused-place : d ≤ i → {m k n : ℕ} → (m ≡ a.name) × (m < 65536) → k ≡ a.label → n ≡ k → eqb (m + n) 0 ≡ may_stand d l i a
  unfolding same_step
  unused-place h e f g = ap₂ (λ (x y : ℕ). eqb (x + y) 0) e.0 (g ∙ f) ∙ sum-zero a.name a.label ∙ rw (le-ltb i d h)

-- ---- the six places

-- w says whether the first d places hold steps that follow, and the others none; l is the label of the step before place i
pub record Standing (g : ℕ → Step) (w : Bool) (d l i : ℕ) : Type 0 where
  pub within : i ≤ 6
  pub few : d ≤ 6
  pub same : w ≡ (all_follow l (rest g d i) && all no_step (rest g 6 (max d i)))

module _ {g : ℕ → Step} {w : Bool} {d l i : ℕ} (inv : Standing g w d l i) where
  pub stand-end : 6 ≤ i → true ≡ w
  stand-end h =
      sym
      (inv.same
      ∙ ap₂ (λ (p q : List Step). all_follow l p && all no_step q) (rest_end g d i (omega (arith, inv.few))) (rest_end g 6 (max d i) (omega arith)))

  module _ {r : Bool} (h : i < 6) (e : r ≡ may_stand d l i (g i)) where
    -- what is behind place i
    abbrev behind : Bool
    behind = all_follow (g i).label (rest g d (i + 1)) && all no_step (rest g 6 (max d (i + 1)))

    used-here : i < d → w ≡ (r && behind)
    used-here k =
        let m : max d (i + 1) ≡ max d i = omega arith in
        inv.same
        ∙ ap (λ (p : List Step). all_follow l p && all no_step (rest g 6 (max d i))) (rest_more g d i k)
        ∙ and_assoc (may_follow l (g i)) (all_follow (g i).label (rest g d (i + 1))) (all no_step (rest g 6 (max d i)))
        ∙ rw (m, e, lt-ltb i d k)

    unused-here : d ≤ i → w ≡ (r && behind)
    unused-here k =
        let m : max d i ≡ i = omega arith in
        let n : max d (i + 1) ≡ i + 1 = omega arith in
        inv.same
        ∙ ap₂ (λ (p q : List Step). all_follow l p && all no_step q) (rest_end g d i k) (ap (rest g 6) m ∙ rest_more g 6 i h)
        ∙ rw (n, e, le-ltb i d k, rest_end g d (i + 1) (omega arith))

    here : w ≡ (r && behind)
    here = decide (ltb i d) (λ (t : T (ltb i d)). used-here (ltb_yes t)) (λ (t : T (not (ltb i d))). unused-here (ltb_no t))

    pub stand-fails : r ≡ false → false ≡ w
    stand-fails t = sym (here ∙ ap (λ (x : Bool). x && behind) t)

    pub stand-next : r ≡ true → {k : ℕ} → k ≡ (g i).label → Standing g w d k (i + 1)
    stand-next t {k} f =
        record {
          within = omega arith;
          few = inv.few;
          same =
              here
              ∙ ap₂ (λ (x : Bool) (n : ℕ). x && (all_follow n (rest g d (i + 1)) && all no_step (rest g 6 (max d (i + 1))))) t (sym f);
        }

-- ---- the bytes of the places

zero-head : (a e n : ℕ) (b : List ℕ) → a < e → e ≤ length b → suc a ≡ n → all_zero (between a e b) ≡ (eqb (get_or b a 0) 0 && all_zero (between n e b))
zero-head a e n b h k q = ap all_zero (between_cons a e b h k) ∙ ap (λ (m : ℕ). eqb (get_or b a 0) 0 && all_zero (between m e b)) q

module _ (b : List ℕ) (size : length b ≡ slot_size) where
  -- the names from place i on are zero, and the labels
  abbrev names : ℕ → Bool
  names i = all_zero (between (names_at + 2 * i) labels_at b)

  abbrev labels : ℕ → Bool
  labels i = all_zero (between (labels_at + i) kind_at b)

  name-head : (i : ℕ) → i < 6 → names i ≡ (eqb (step_at b i).name 0 && names (suc i))
  name-head i h =
      let lo : ℕ = get_or b (names_at + 2 * i) 0 in
      let hi : ℕ = get_or b (names_at + 2 * i + 1) 0 in
      zero-head (names_at + 2 * i) labels_at (names_at + 2 * i + 1) b (omega arith) (omega arith) (omega arith)
      ∙ ap (λ (t : Bool). eqb lo 0 && t) (zero-head (names_at + 2 * i + 1) labels_at (names_at + 2 * suc i) b (omega arith) (omega arith) (omega arith))
      ∙ sym (and_assoc (eqb lo 0) (eqb hi 0) (names (suc i)))
      ∙ ap (λ (t : Bool). t && names (suc i)) (sym (join-zero lo hi))

  label-head : (i : ℕ) → i < 6 → labels i ≡ (eqb (step_at b i).label 0 && labels (suc i))
  label-head i h = zero-head (labels_at + i) kind_at (labels_at + suc i) b (omega arith) (omega arith) (omega arith)

  zero-places : (i k : ℕ) → i + k ≡ 6 → (names i && labels i) ≡ all no_step (range (step_at b) i k)
  unfolding same_step
  zero-places i zero e = rw (between_none (names_at + 2 * i) labels_at b (omega arith), between_none (labels_at + i) kind_at b (omega arith))
  zero-places i (suc k) e =
      ap₂ (λ (x y : Bool). x && y) (name-head i (omega arith)) (label-head i (omega arith))
      ∙ crossed (eqb (step_at b i).name 0) (names (suc i)) (eqb (step_at b i).label 0) (labels (suc i))
      ∙ ap (λ (t : Bool). no_step (step_at b i) && t) (zero-places (suc i) k (omega arith))

pub stand-start : (b : List ℕ) {d : ℕ} → length b ≡ slot_size → depth b ≤ 6 → (d ≡ depth b) × (d < 256)
    → Standing (step_at b) (all_follow 0 (read_path b) && steps_zero b) d 0 0
unfolding read_path steps_zero
stand-start b {d} size s e =
    let m : max d 0 ≡ d = omega arith in
    let n : d - 0 ≡ d = omega arith in
    record {
      within = omega arith;
      few = omega (arith, e.0);
      same = rw (m, n, e.0) (ap (λ (t : Bool). all_follow 0 (range (step_at b) 0 (depth b)) && t) (zero-places b size (depth b) (6 - depth b) (omega arith)));
    }

-- ---- behind the value

pub value-rest : (b : List ℕ) → length b ≡ slot_size → {n : ℕ} → (n ≡ value_length b) × (n < 256) → value_length b ≤ 16 → {r : Bool}
    → r ≡ all_zero (drop n (between value_at slot_size b)) → r ≡ rest_zero b
unfolding rest_zero
value-rest b size {n} e h f =
    let w : n ≤ 16 = omega (arith, e.0) in
    let l : length (between value_at (value_at + n) b) ≡ n = length-between value_at (value_at + n) b (omega arith) (omega arith) ∙ omega arith in
    f
    ∙ ap (λ (x : List ℕ). all_zero (drop n x)) (sym (between_join value_at (value_at + n) slot_size b (omega arith) (omega arith)))
    ∙ ap all_zero (drop_at (between value_at (value_at + n) b) (between (value_at + n) slot_size b) n l)
    ∙ all-parts _ (value_at + n) spare_at slot_size b (omega arith) (omega arith)
    ∙ rw e.0
