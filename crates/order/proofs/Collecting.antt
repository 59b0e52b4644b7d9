-- One label's references: the slots that stand together at the path's place.
use mathlib.Core.Path.{◌≡◌, refl, sym, ap, ap₂, ◌∙◌}
use mathlib.Core.Bool.{Bool, true, false, cond}
use mathlib.Core.List.{List, [], ◌∷◌, ◌++◌, map}
use Prim.Native.Nat.{ℕ, zero, suc, ◌+◌, ◌-◌, ◌*◌, ◌/◌, ◌%◌, ◌≤◌, ◌<◌}
use native.Mathlib.Omega.{arith}
use lib.ListN.{length, take, drop}
use lib.Seq.{take_at}
use lib.Dec.{T, ltb}
use mir.Facts.{yes_ltb}
use Rattle.model.specs.Lists.{all, keep, range}
use Rattle.model.specs.Sets.{precedes}
use Rattle.model.specs.Label.{dominates}
use Rattle.model.specs.Path.{Step, is_prefix, steps_of, path_rank}
use Rattle.model.specs.Element.{Element}
use Rattle.model.specs.Slot.{read_slot}
use Rattle.model.specs.Partition.{partition_size, count, read_partition, slot_at}
use Rattle.model.specs.Store.{partition}
use Rattle.model.specs.Model.{open_model, own_set}
use Rattle.model.specs.Call.{extending}
use Rattle.model.proofs.Bools.{both, cond_yes}
use Rattle.model.proofs.Lists.{length-range}
use Rattle.partition.specs.Place.{Formed, place_of}
use Rattle.partition.proofs.Finding.{facts, element_at, run-within, run-kept}
use Rattle.partition.proofs.Layouts.{length-elements}
use Rattle.path.proofs.Steps.{root-steps}
use Rattle.store.specs.Opened.{Opened}
use Rattle.store.proofs.Parts.{dominated-lt, is-dominated}
use Rattle.store.proofs.Viewing.{opened-formed, opened-set}
use Rattle.order.specs.Refs.{slot_of, element_of, refers, Refers, seen_at}

-- ---- the references of label n, from slot i on

module _ (s : ℕ) (b : List ℕ) (n : ℕ) where
  parts : (i : ℕ) → i < 32 → ((32 * n + i) / 32 ≡ n) × ((32 * n + i) % 32 ≡ i)
  parts i h = (omega arith, omega arith)

  label-named : (i k : ℕ) → i + k ≤ 32 → map (element_of b) (range (λ m. m) (32 * n + i) k) ≡ range (element_at (partition n b)) i k
  unfolding element_of slot_of
  label-named i zero h = refl
  label-named i (suc k) h =
      let p = parts i (omega arith) in
      let q : suc (32 * n + i) ≡ 32 * n + suc i = omega arith in
      ap₂ (λ (e : Element) (l : List Element). e ∷ l)
      (ap₂ (λ (m j : ℕ). read_slot (slot_at (partition m b) j)) p.0 p.1)
      (ap (λ (m : ℕ). map (element_of b) (range (λ j. j) m k)) q ∙ label-named (suc i) k (omega arith))

  label-valid : T (dominates s n) → (i k : ℕ) → i + k ≤ 32 → i + k ≤ count (partition n b) → T (all (refers s b) (range (λ m. m) (32 * n + i) k))
  unfolding refers
  label-valid d i zero h c = tt
  label-valid d i (suc k) h c =
      let p = parts i (omega arith) in
      let q : 32 * n + suc i ≡ suc (32 * n + i) = omega arith in
      let u : i < count (partition n b) = omega arith in
      both (refers s b (32 * n + i)) (all (refers s b) (range (λ m. m) (suc (32 * n + i)) k))
      (rw (p.0, p.1) (both (dominates s n) (ltb i (count (partition n b))) d (yes_ltb u)))
      (rw (← q) (label-valid d (suc i) k (omega arith) (omega arith)))

-- ---- the run of a path

-- the root stands before all elements, and all extend it
pub root-place : (x p : List ℕ) → length p < 3 → 0 ≡ place_of (steps_of p) (read_partition x)
root-place x p h = go (read_partition x) ∙ ap (λ (q : List Step). place_of q (read_partition x)) (sym (root-steps p h))
  where
    first : (r : List ℕ) (k : ℕ) → 0 ≡ cond (precedes r []) k 0
    first [] k = refl
    first (a ∷ r) k = refl

    go : (es : List Element) → 0 ≡ place_of [] es
    go [] = refl
    go (e ∷ es) = first (path_rank e.path) (suc (place_of [] es))

-- the run of a path ends within the partition
pub run-small : {x : List ℕ} (f : Formed x) (p : List Step) {at k : ℕ} → at ≡ place_of p (read_partition x) → k ≡ extending p (read_partition x) → at + k ≤ 32
run-small f p g h = omega (arith, run-within f p g h, (facts f).few)

pub root-run : {x : List ℕ} → Formed x → (p : List ℕ) → length p < 3 → {k : ℕ} → k ≡ count x → k ≡ extending (steps_of p) (read_partition x)
unfolding extending
root-run {x} f p h {k} g =
    g
    ∙ sym (length-elements f)
    ∙ ap length (sym (keep-true (read_partition x)))
    ∙ ap (λ (q : List Step). length (keep (λ d. is_prefix q d.path) (read_partition x))) (sym (root-steps p h))
  where
    keep-true : (es : List Element) → keep (λ d. is_prefix [] d.path) es ≡ es
    keep-true [] = refl
    keep-true (e ∷ es) = ap (λ (l : List Element). e ∷ l) (keep-true es)

-- ---- what was collected

module _ {b : List ℕ} {s : ℕ} (o : Opened b s) (p : List Step) (n : ℕ) {r : Bool} (e : r ≡ dominates s n) where
  pub none-collected : r ≡ false → Refers s b [] (seen_at s b p n)
  unfolding seen_at
  none-collected t =
      let q : dominates s n ≡ false = sym e ∙ t in
      record { valid = tt; named = sym (ap (λ (c : Bool). keep (λ d. is_prefix p d.path) (cond c (own_set n (open_model b)) [])) q) }

  module _ (yes : r ≡ true) where
    dominated : T (dominates s n)
    dominated = is-dominated s n b e yes

    pub label-small : n < 32
    label-small = dominated-lt s n dominated

    module _ {x : List ℕ} (g : (x ≡ partition n b) × (length x ≡ partition_size)) where
      pub formed : Formed x
      formed = record { label = n; is = rw g.0 (opened-formed o n dominated) }

      module _ {at to : ℕ} (f : at ≡ place_of p (read_partition x)) (h : to ≡ at + extending p (read_partition x)) where
        counts : to - at ≡ extending p (read_partition x)
        counts = omega (arith, h)

        within : at + (to - at) ≤ count x
        within = run-within formed p f counts

        pub few-collected : at + (to - at) ≤ 32
        few-collected = omega (arith, within, (facts formed).few)

        pub collected : {first : ℕ} → first ≡ 32 * n + at → (refs : List ℕ) {y : List ℕ} → y ≡ range (λ m. m) first (to - at) ++ drop (to - at) refs
            → Refers s b (take (to - at) y) (seen_at s b p n)
        unfolding seen_at
        collected {first} i refs {y} j =
            let w : at + (to - at) ≤ count (partition n b) = rw g.0 at within in
            let z : take (to - at) y ≡ range (λ m. m) (32 * n + at) (to - at) =
            ap (take (to - at)) j
            ∙ take_at (range (λ m. m) first (to - at)) (drop (to - at) refs) (to - at) (length-range (λ m. m) first (to - at))
            ∙ ap (λ (m : ℕ). range (λ q. q) m (to - at)) i in
            record {
              valid = rw z (label-valid s b n dominated at (to - at) few-collected w);
              named =
                  ap (map (element_of b)) z
                  ∙ label-named s b n at (to - at) few-collected
                  ∙ ap (λ (l : List ℕ). range (element_at l) at (to - at)) (sym g.0)
                  ∙ sym (run-kept formed p f counts)
                  ∙ ap (λ (l : List ℕ). keep (λ d. is_prefix p d.path) (read_partition l)) g.0
                  ∙ ap (λ (l : List Element). keep (λ d. is_prefix p d.path) l)
                  (sym (cond_yes (dominates s n) (own_set n (open_model b)) [] dominated ∙ opened-set o n dominated));
            }
