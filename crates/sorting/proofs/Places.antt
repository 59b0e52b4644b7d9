-- A partition of valid elements read slot by slot, and the place of one among the sorted ones behind it.
use mathlib.Core.Path.{◌≡◌, sym, ap, ap₂, ◌∙◌}
use mathlib.Core.Bool.{Bool, true, false, not, cond}
use mathlib.Core.List.{List}
use Prim.Native.Nat.{ℕ, zero, suc, ◌+◌, ◌-◌, ◌≤◌, ◌<◌, min}
use native.Mathlib.Omega.{arith}
use native.Mathlib.Decide.{dec_le}
use lib.ListN.{length, drop, length-drop}
use lib.Dec.{T}
use mir.Facts.{T_not}
use Rattle.model.specs.Lists.{range}
use Rattle.model.specs.Sets.{sorted, ahead}
use Rattle.model.specs.Path.{Step, path_rank}
use Rattle.model.specs.Element.{Element, rank}
use Rattle.model.specs.Slot.{depth, read_path, read_slot}
use Rattle.model.specs.Partition.{partition_size, count, slot_at, read_partition}
use Rattle.model.proofs.Bools.{and_l, and_r, decide, is_true, is_false}
use Rattle.model.proofs.Members.{all_in}
use Rattle.model.proofs.Order.{precedes-trans}
use Rattle.model.proofs.Partitions.{length-layout}
use Rattle.model.proofs.Walks.{rest, in-range}
use Rattle.path.specs.Common.{is_before, Compared}
use Rattle.partition.specs.Place.{place_of}
use Rattle.partition.proofs.Placing.{place-within}
use Rattle.partition.proofs.Finding.{element_at, valid-slot, elements-from, length-read}
use Rattle.sorting.specs.Sorting.{Laid, SortedBehind, place_behind}

-- ---- slots

module _ {b : List ℕ} (f : Laid b) where
  pub laid-size : length b ≡ partition_size
  laid-size = ap length f.bytes ∙ length-layout (read_partition b)

  -- each used slot can be read
  pub laid-few : {x : List ℕ} {i : ℕ} → i < count b → x ≡ slot_at b i → depth x ≤ 6
  laid-few {i = i} h d = rw d (valid-slot f.label b f.valid i h)

-- two slots compared
pub compared_at : (b : List ℕ) (i j : ℕ) {x y : List ℕ} → x ≡ slot_at b i → y ≡ slot_at b j
    → {s : ℕ} {t : Bool} → Compared (read_path x) (read_path y) s t → t ≡ is_before (read_path (slot_at b i)) (read_path (slot_at b j))
compared_at b i j d e m = m.before-is ∙ ap₂ (λ (u v : List ℕ). is_before (read_path u) (read_path v)) d e

-- ---- the place of a path among elements

module _ (g : ℕ → Element) (q : List Step) where
  -- the place where the first comes before the path, and where it does not
  later : (i n : ℕ) → T (is_before (g i).path q) → place_of q (range g i (suc n)) ≡ suc (place_of q (range g (suc i) n))
  later i n t = ap (λ (c : Bool). cond c (suc (place_of q (range g (suc i) n))) 0) (is_true (is_before (g i).path q) t)

  here : (i n : ℕ) → T (not (is_before (g i).path q)) → place_of q (range g i (suc n)) ≡ 0
  here i n t = ap (λ (c : Bool). cond c (suc (place_of q (range g (suc i) n))) 0) (is_false (is_before (g i).path q) t)

  -- an element that does not come before the path does not stand before its place
  place_at : (n i k : ℕ) → i ≤ k → k < i + n → T (not (is_before (g k).path q)) → i + place_of q (range g i n) ≤ k
  place_at zero i k h l t = absurd (omega arith)
  place_at (suc n) i k h l t =
      decide (is_before (g i).path q)
      (λ (y : T (is_before (g i).path q)).
      elim (dec_le k i) [
        | yes e ↦ let z : k ≡ i = omega arith in absurd (T_not (is_before (g i).path q) y (rw z at t))
        | no e ↦ omega (arith, later i n y, place_at n (suc i) k (omega arith) (omega arith) t)
      ])
      (λ (y : T (not (is_before (g i).path q))). omega (arith, here i n y))

  -- of sorted elements one that comes before the path stands before its place
  stands-before : (n i k : ℕ) → T (sorted rank (range g i n)) → i ≤ k → k < i + n → T (is_before (g k).path q) → k < i + place_of q (range g i n)
  stands-before zero i k s h l t = absurd (omega arith)
  stands-before (suc n) i k s h l t =
      elim (dec_le k i) [
        | yes e ↦ let z : k ≡ i = omega arith in omega (arith, later i n (rw z at t))
        | no e ↦
            let m : T (ahead rank (g i) (range g (suc i) n)) = and_l (ahead rank (g i) (range g (suc i) n)) (sorted rank (range g (suc i) n)) s in
            let a : T (is_before (g i).path (g k).path) =
            all_in (λ d. is_before (g i).path d.path) (range g (suc i) n) m (in-range g (suc i) n k (omega arith) (omega arith)) in
            let y : T (is_before (g i).path q) = precedes-trans (path_rank (g i).path) (path_rank (g k).path) (path_rank q) a t in
            omega (arith, later i n y, stands-before n (suc i) k (and_r (ahead rank (g i) (range g (suc i) n)) (sorted rank (range g (suc i) n)) s) (omega arith) (omega arith) t)
      ]

-- ---- and of slot i among those behind it

module _ {b : List ℕ} {i : ℕ} (f : SortedBehind b i) where
  behind : drop (i + 1) (read_partition b) ≡ rest (element_at b) (count b) (i + 1)
  behind = elements-from b (i + 1) (omega (arith, f.used))

  -- slot k behind slot i comes before it: it stands before the place
  pub slot-past : {k : ℕ} → i < k → k < count b → {r : Bool} → r ≡ is_before (read_path (slot_at b k)) (read_path (slot_at b i)) → r ≡ true → k + 1 ≤ place_behind b i
  unfolding read_slot
  slot-past {k} l m e t =
      let p : k < i + 1 + place_of (read_path (slot_at b i)) (rest (element_at b) (count b) (i + 1)) =
      stands-before (element_at b) (read_path (slot_at b i)) (count b - (i + 1)) (i + 1) k (rw behind at f.order) (omega arith) (omega arith) (rw (sym e ∙ t) tt) in
      rw behind (omega arith)

  -- it does not: it stands at the place or behind it
  pub slot-at-place : {k : ℕ} → i < k → k < count b → {r : Bool} → r ≡ is_before (read_path (slot_at b k)) (read_path (slot_at b i)) → r ≡ false → place_behind b i ≤ k
  unfolding read_slot
  slot-at-place {k} l m e t =
      rw behind
      (place_at (element_at b) (read_path (slot_at b i)) (count b - (i + 1)) (i + 1) k (omega arith) (omega arith) (rw (sym e ∙ t) tt))

  -- the place is at most the count
  pub place-most : place_behind b i ≤ count b
  place-most =
      let l : length (drop (i + 1) (read_partition b)) ≡ length (read_partition b) - (i + 1) = length-drop (i + 1) (read_partition b) in
      omega (arith, f.used, place-within (read_path (slot_at b i)) (drop (i + 1) (read_partition b)), length-read b)

-- ---- the search back

-- where the search is: at slot j, and where it went back, not before the place
pub record Backing (b : List ℕ) (i from j : ℕ) : Type 0 where
  pub behind : i < j
  pub within : j ≤ from
  pub found : j < from → place_behind b i ≤ j

pub back_start : {b : List ℕ} {i from : ℕ} → i < from → Backing b i from from
back_start h = record { behind = h; within = omega arith; found = λ l. absurd (omega arith) }

module _ {b : List ℕ} {i from j : ℕ} (f : SortedBehind b i) (few : from ≤ count b) (inv : Backing b i from j) where
  -- where the search ends
  lesser : j ≤ place_behind b i → j ≡ min from (place_behind b i)
  lesser h = elim (dec_le from j) [
    | yes k ↦ omega (arith, inv.within)
    | no k ↦ omega (arith, inv.found (omega arith))
  ]

  -- a slot is left, and it is the one before
  module _ (left : i + 1 < j) {r : Bool} (e : r ≡ is_before (read_path (slot_at b (j - 1))) (read_path (slot_at b i))) where
    used : j - 1 < count b
    used = omega (arith, inv.within)

    -- it comes before slot i: the search ends
    pub back-here : r ≡ true → j - 1 + 1 ≡ min from (place_behind b i)
    back-here t = omega (arith, lesser (omega (arith, slot-past f (omega arith) used e t)))

    -- it does not
    pub back-next : r ≡ false → Backing b i from (j - 1)
    back-next t =
        record {
          behind = omega arith;
          within = omega (arith, inv.within);
          found = λ l. slot-at-place f (omega arith) used e t;
        }

  -- none is left
  pub back_end : j ≤ i + 1 → i + 1 ≡ min from (place_behind b i)
  back_end h = omega (arith, inv.behind, lesser (omega arith))

-- ---- the search forth

-- the slots before slot j come before slot i
pub record Forward (b : List ℕ) (i j : ℕ) : Type 0 where
  pub behind : i < j
  pub before : j ≤ place_behind b i

pub forth-start : {b : List ℕ} {i from : ℕ} → i < from → from ≤ place_behind b i → Forward b i from
forth-start h k = record { behind = h; before = k }

module _ {b : List ℕ} {i j : ℕ} (f : SortedBehind b i) (inv : Forward b i j) where
  -- slot j does not come before slot i: it is at the place
  module _ (left : j < count b) {r : Bool} (e : r ≡ is_before (read_path (slot_at b j)) (read_path (slot_at b i))) where
    pub forth-here : r ≡ false → j ≡ place_behind b i
    forth-here t = omega (arith, inv.before, slot-at-place f inv.behind left e t)

    pub forth-next : r ≡ true → Forward b i (j + 1)
    forth-next t = record { behind = omega (arith, inv.behind); before = slot-past f inv.behind left e t }

  -- no slot is left
  pub forth-end : count b ≤ j → count b ≡ place_behind b i
  forth-end l = omega (arith, inv.before, place-most f)
