-- A partition checked slot by slot, in the order of a key.
use mathlib.Core.Path.{◌≡◌, refl, sym, ap, ap₂, ◌∙◌}
use mathlib.Core.Bool.{Bool, true, false, not, ◌&&◌, ◌||◌, or-false}
use mathlib.Core.List.{List, [], ◌∷◌, map}
use Prim.Native.Nat.{ℕ, zero, suc, ◌+◌, ◌-◌, ◌≤◌, ◌<◌}
use native.Mathlib.Omega.{arith}
use lib.ListN.{length}
use lib.Dec.{T, eqb, leb}
use mir.Facts.{not_T, yes_ltb, leb_yes}
use Rattle.model.specs.Lists.{all, range, is_byte, all_zero, between}
use Rattle.model.specs.Label.{is_label}
use Rattle.model.specs.Path.{Step, is_prefix, parent, ends_in, valid_path}
use Rattle.model.specs.Element.{valid_element, closed}
use Rattle.model.specs.Sets.{ascending}
use Rattle.model.specs.Slot.{depth, step_at, read_path, read_slot, unused_zero}
use Rattle.model.specs.Partition.{slots_at, partition_size, count, slot_start, slot_at, slots, read_partition, well_formed_by}
use Rattle.model.proofs.Bools.{and_l, and_r, both, crossed, is_true, is_false, same_test}
use Rattle.model.proofs.Partitions.{WellFormed, well-formed, yes-well-formed}
use Rattle.model.proofs.Paths.{Keyed}
use Rattle.model.proofs.Slots.{Fits, valid-fits}
use Rattle.model.proofs.Walks.{rest, rest_more, rest_end}
use Rattle.path.specs.Common.{common, is_before_by, ComparedBy}
use Rattle.path.proofs.Steps.{ends-range, parent-range}
use Rattle.path.proofs.Common.{common-first, common-parent, before-some}
use Rattle.slot_valid.specs.Valid.{valid_slot}
use Rattle.slot.proofs.Reading.{length-path}
use Rattle.partition.specs.Linked.{may_follow, linked, good_slot, good_slots, path_before}
use Rattle.partition.proofs.Linking.{rank_by, linked-is}

-- ---- a slot's parent

module _ (b : List ℕ) (n : ℕ) {d : ℕ} (e : (d ≡ depth b) × (d < 256)) where
  -- the parent of the first d steps
  cut : ends_in n (parent (range (step_at b) 0 d)) ≡ ends_in n (parent (read_path b))
  unfolding read_path
  cut = ap (λ (c : ℕ). ends_in n (parent (range (step_at b) 0 c))) e.0

  -- a path of fewer than two steps has no parent that ends in a label
  pub no-parent : d < 2 → false ≡ ends_in n (parent (read_path b))
  no-parent h = go d h ∙ cut
    where
      go : (c : ℕ) → c < 2 → false ≡ ends_in n (parent (range (step_at b) 0 c))
      go zero k = refl
      go (suc zero) k = refl
      go (suc (suc c)) k = absurd (omega arith)

  -- a longer path's parent ends in the label of its last step but one
  pub parent-ends : 2 ≤ d → {l : ℕ} → l ≡ (step_at b (d - 2)).label → eqb l n ≡ ends_in n (parent (read_path b))
  parent-ends h {l} f = go (d - 2) (omega arith) f ∙ cut
    where
      go : (c : ℕ) → d ≡ suc (suc c) → l ≡ (step_at b c).label → eqb l n ≡ ends_in n (parent (range (step_at b) 0 d))
      go c q g =
          let z : suc c - 1 ≡ c = omega arith in
          sym
          (ap (λ (k : ℕ). ends_in n (parent (range (step_at b) 0 k))) q
          ∙ ap (ends_in n) (parent-range (step_at b) 0 (suc c))
          ∙ ends-range (step_at b) (suc c) n (omega arith) (rw z g))

-- ---- a slot after another

module _ (k : Step → List ℕ) (n : ℕ) (a b : List ℕ) {s : ℕ} {t : Bool} (m : ComparedBy k (read_path a) (read_path b) s t) where
  -- where a's path does not come before b's, b may not follow a
  pub not_after : t ≡ false → false ≡ may_follow k n (read_path a) (read_path b)
  unfolding may_follow
  not_after h = let q : is_before_by k (read_path a) (read_path b) ≡ false = sym m.before-is ∙ h in rw q

  module _ (after : t ≡ true) {r : Bool} (f : r ≡ ends_in n (parent (read_path b))) where
    order : is_before_by k (read_path a) (read_path b) ≡ true
    order = sym m.before-is ∙ after

    -- where it does and b's parent does not end in n, b may follow
    pub free-parent : r ≡ false → true ≡ may_follow k n (read_path a) (read_path b)
    unfolding may_follow
    free-parent h = let q : ends_in n (parent (read_path b)) ≡ false = sym f ∙ h in rw (order, q)

    -- where b's parent ends in n, b may follow if all its steps but the last are shared
    pub shared-parent : r ≡ true → {d : ℕ} → (d ≡ depth b) × (d < 256) → leb d (s + 1) ≡ may_follow k n (read_path a) (read_path b)
    unfolding may_follow
    shared-parent h {d} e =
        let q : ends_in n (parent (read_path b)) ≡ true = sym f ∙ h in
        let l : length (read_path b) ≡ d = length-path b ∙ sym e.0 in
        let z : s + 1 ≡ suc s = omega arith in
        sym (rw (order, q) (common-parent (read_path a) (read_path b) ∙ ap₂ leb l (ap suc (sym m.shared-is) ∙ sym z)))

-- a shared count is small
pub shared-small : {k : Step → List ℕ} (a b : List ℕ) {s : ℕ} {t : Bool} → ComparedBy k (read_path a) (read_path b) s t → depth a ≤ 6 → s ≤ 6
shared-small a b m h =
    let c : common (read_path a) (read_path b) ≤ length (read_path a) = common-first (read_path a) (read_path b) in
    let l : length (read_path a) ≡ depth a = length-path a in
    omega (arith, m.shared-is)

-- ---- all slots

good-all : (k : Step → List ℕ) (n : ℕ) (p : List Step) (bs : List (List ℕ))
    → good_slots k n p bs ≡ (all (valid_element n) (map read_slot bs) && all unused_zero bs && linked k n p (map read_slot bs))
unfolding good_slot valid_slot read_slot
good-all k n p [] = refl
good-all k n p (b ∷ bs) =
    ap (λ (x : Bool). good_slot k n p b && x) (good-all k n (read_path b) bs)
    ∙ crossed (valid_element n (read_slot b) && unused_zero b) (may_follow k n p (read_path b)) (all (valid_element n) (map read_slot bs) && all unused_zero bs) (linked k n (read_path b) (map read_slot bs))
    ∙ ap (λ (x : Bool). x && linked k n p (map read_slot (b ∷ bs))) (crossed (valid_element n (read_slot b)) (unused_zero b) (all (valid_element n) (map read_slot bs)) (all unused_zero bs))

falsely : (r x : Bool) → r ≡ x → r ≡ false → T x → ⊥
falsely r x e t h = let f : x ≡ false = sym e ∙ t in rw f at h

truly : (r x : Bool) → r ≡ x → r ≡ true → T x
truly r x e t = let f : x ≡ true = sym e ∙ t in rw f tt

-- a partition that lacks one of these is not well formed
module _ (k : Step → List ℕ) (n : ℕ) (b : List ℕ) where
  refuted : (WellFormed k n b → ⊥) → false ≡ well_formed_by k n b
  refuted h = sym (is_false (well_formed_by k n b) (not_T (well_formed_by k n b) (λ t. h (well-formed k n b t))))

  -- a count over 32
  pub too_many : 32 < count b → false ≡ well_formed_by k n b
  too_many h = refuted (λ w. omega (arith, w.few))

  -- a byte behind the count that is not zero
  pub head-used : {r : Bool} → r ≡ all_zero (between 1 slots_at b) → r ≡ false → false ≡ well_formed_by k n b
  head-used {r} e t = refuted (λ w. falsely r (all_zero (between 1 slots_at b)) e t w.head)

  -- a byte behind the used slots that is not zero
  pub spare-used : {c : ℕ} {r : Bool} → (c ≡ count b) × (c < 256) → r ≡ all_zero (between (slot_start c) partition_size b) → r ≡ false → false ≡ well_formed_by k n b
  spare-used {c} {r} f e t = refuted (λ w. falsely r (all_zero (between (slot_start c) partition_size b)) e t (rw f.0 w.spare))

-- where all this is found, the slots decide
pub formed-by-slots : {k : Step → List ℕ} → Keyed k → (n : ℕ) (b : List ℕ) {c : ℕ} {r s : Bool} → length b ≡ partition_size → T (all is_byte b) → n < 32
    → (c ≡ count b) × (c < 256) → c ≤ 32 → r ≡ all_zero (between 1 slots_at b) → r ≡ true
    → s ≡ all_zero (between (slot_start c) partition_size b) → s ≡ true → good_slots k n [] (slots b) ≡ well_formed_by k n b
unfolding read_partition is_label
formed-by-slots {k} good n b {c} {r} {s} size bytes small e few f t g u =
    same_test (good_slots k n [] (slots b)) (well_formed_by k n b)
    (λ (h : T (good_slots k n [] (slots b))).
    let a : T (all (valid_element n) (read_partition b) && all unused_zero (slots b) && linked k n [] (read_partition b)) = rw (good-all k n [] (slots b)) at h in
    let v : T (all (valid_element n) (read_partition b)) = search (and_l, and_r) in
    let j : T (linked k n [] (read_partition b)) = search (and_l, and_r) in
    let l : T (ascending (rank_by k) (read_partition b) && closed n (read_partition b)) = rw (linked-is k good n (read_partition b) (yes_ltb small) v) j in
    yes-well-formed k n b
    (record {
      size = size;
      bytes = bytes;
      few = omega arith;
      valid = v;
      unused = search (and_l, and_r);
      ascends = search (and_l, and_r);
      spare = rw (← e.0) (truly s (all_zero (between (slot_start c) partition_size b)) g u);
      head = truly r (all_zero (between 1 slots_at b)) f t;
      closes = search (and_l, and_r);
    }))
    (λ (h : T (well_formed_by k n b)).
    let w : WellFormed k n b = well-formed k n b h in
    let j : T (linked k n [] (read_partition b)) =
    rw (linked-is k good n (read_partition b) (yes_ltb small) w.valid) at (both (ascending (rank_by k) (read_partition b)) (closed n (read_partition b)) w.ascends w.closes) in
    rw (good-all k n [] (slots b))
    (both (all (valid_element n) (read_partition b) && all unused_zero (slots b)) (linked k n [] (read_partition b))
    (both (all (valid_element n) (read_partition b)) (all unused_zero (slots b)) w.valid w.unused) j))

-- ---- one slot

-- a valid slot has at most six steps
valid-steps : (n : ℕ) (b : List ℕ) → T (valid_slot n b) → depth b ≤ 6
unfolding valid_slot read_slot
valid-steps n b t =
    let f : Fits (read_slot b) = valid-fits n (read_slot b) (and_l (valid_element n (read_slot b)) (unused_zero b) t) in
    rw (length-path b) at f.steps

valid-some : (n : ℕ) (b : List ℕ) → T (valid_slot n b) → 1 ≤ length (read_path b)
unfolding valid_slot read_slot valid_element valid_path
valid-some n b t = leb_yes (search (and_l, and_r) depth 6)

-- behind the root stands a path whose parent does not end in n
root-follow : {k : Step → List ℕ} → Keyed k → (n : ℕ) (q : List Step) → 1 ≤ length q → may_follow k n [] q ≡ not (ends_in n (parent q))
unfolding may_follow
root-follow good n [] h = absurd (omega arith)
root-follow {k} good n (a ∷ q) h = rw (before-some k good a q) (go (parent (a ∷ q)))
  where
    go : (r : List Step) → (not (ends_in n r) || is_prefix r []) ≡ not (ends_in n r)
    go [] = refl
    go (c ∷ r) = or-false (not (ends_in n (c ∷ r)))

-- slot x of the partition, found valid or not
module _ (n : ℕ) {x b : List ℕ} {v : Bool} (e : x ≡ b) (f : v ≡ valid_slot n x) where
  -- a slot that is not valid is not good
  pub slot-bad : (k : Step → List ℕ) (p : List Step) → v ≡ false → false ≡ good_slot k n p b
  unfolding good_slot
  slot-bad k p t = let q : valid_slot n b ≡ false = ap (valid_slot n) (sym e) ∙ sym f ∙ t in rw q

  module _ (yes : v ≡ true) where
    valid : T (valid_slot n x)
    valid = truly v (valid_slot n x) f yes

    -- a valid slot can be read
    pub slot-few : depth x ≤ 6
    slot-few = valid-steps n x valid

    goes : (k : Step → List ℕ) (p : List Step) → good_slot k n p b ≡ may_follow k n p (read_path x)
    unfolding good_slot
    goes k p = rw (← e, is_true (valid_slot n x) valid)

    -- the first slot is good where its parent does not end in n
    pub first_slot : {k : Step → List ℕ} → Keyed k → (c : List ℕ) {i : ℕ} {r : Bool} → i ≡ 0 → r ≡ ends_in n (parent (read_path x))
        → not r ≡ good_slot k n (path_before c i) b
    first_slot {k} good c h g =
        ap not g ∙ sym (root-follow good n (read_path x) (valid-some n x valid)) ∙ sym (ap (λ (j : ℕ). good_slot k n (path_before c j) b) h ∙ goes k [])

    -- a later slot is good where it may follow the slot before
    pub later-slot : (k : Step → List ℕ) (c : List ℕ) {i : ℕ} {y : List ℕ} {r : Bool} → (i ≡ 0 → ⊥) → y ≡ slot_at c (i - 1)
        → r ≡ may_follow k n (read_path y) (read_path x) → r ≡ good_slot k n (path_before c i) b
    later-slot k c {i} {y} {r} h d g = go (i - 1) (omega arith) d
      where
        go : (j : ℕ) → i ≡ suc j → y ≡ slot_at c j → r ≡ good_slot k n (path_before c i) b
        go j q z = g ∙ ap (λ (l : List ℕ). may_follow k n (read_path l) (read_path x)) z ∙ sym (ap (λ (m : ℕ). good_slot k n (path_before c m) b) q ∙ goes k (read_path (slot_at c j)))

-- a slot that is read is one of the partition, with at most six steps
pub before-few : (c : List ℕ) {i : ℕ} {y : List ℕ} → (i ≡ 0 → ⊥) → y ≡ slot_at c (i - 1)
    → ((k : ℕ) → k + 1 ≡ i → depth (slot_at c k) ≤ 6) → depth y ≤ 6
before-few c {i} h d f = rw d (f (i - 1) (omega arith))

-- ---- the loop over the slots

-- the slots before slot i are good, and the whole is if those from i on are
pub record Linking (k : Step → List ℕ) (b : List ℕ) (n c i : ℕ) : Type 0 where
  pub within : i ≤ c
  pub deep : (j : ℕ) → j + 1 ≡ i → depth (slot_at b j) ≤ 6
  pub same : good_slots k n [] (slots b) ≡ good_slots k n (path_before b i) (rest (slot_at b) c i)

-- so it is at the first slot
pub link_start : (k : Step → List ℕ) (b : List ℕ) (n : ℕ) {c : ℕ} → c ≡ count b → Linking k b n c 0
unfolding slots
link_start k b n {c} e =
    let z : count b ≡ c - 0 = omega arith in
    record {
      within = omega arith;
      deep = λ j h. absurd (omega arith);
      same = ap (λ (m : ℕ). good_slots k n [] (range (slot_at b) 0 m)) z;
    }

module _ {k : Step → List ℕ} {b : List ℕ} {n c i : ℕ} (inv : Linking k b n c i) where
  -- where no slot is left, all are good
  pub link-end : c ≤ i → true ≡ good_slots k n [] (slots b)
  link-end h = sym (inv.same ∙ ap (good_slots k n (path_before b i)) (rest_end (slot_at b) c i h))

  module _ {r : Bool} (h : i < c) (e : r ≡ good_slot k n (path_before b i) (slot_at b i)) where
    here : (t : Bool) → r ≡ t → good_slots k n [] (slots b) ≡ (t && good_slots k n (read_path (slot_at b i)) (rest (slot_at b) c (i + 1)))
    here t f =
        inv.same
        ∙ ap (good_slots k n (path_before b i)) (rest_more (slot_at b) c i h)
        ∙ ap (λ (x : Bool). x && good_slots k n (read_path (slot_at b i)) (rest (slot_at b) c (i + 1))) (sym e ∙ f)

    -- where slot i is not good, not all are
    pub link-fails : r ≡ false → false ≡ good_slots k n [] (slots b)
    link-fails t = sym (here false t)

    -- where it is, so it is at the next slot
    pub link-next : r ≡ true → Linking k b n c (i + 1)
    unfolding good_slot
    link-next t =
        let z : i + 1 ≡ suc i = omega arith in
        let g : T (good_slot k n (path_before b i) (slot_at b i)) = truly r (good_slot k n (path_before b i) (slot_at b i)) e t in
        record {
          within = omega arith;
          deep = λ j q. let s : j ≡ i = omega arith in rw s (valid-steps n (slot_at b i) (and_l (valid_slot n (slot_at b i)) _ g));
          same = here true t ∙ ap (λ (m : ℕ). good_slots k n (path_before b m) (rest (slot_at b) c (i + 1))) (sym z);
        }
