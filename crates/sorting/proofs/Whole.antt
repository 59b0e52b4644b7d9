-- A whole partition sorted from its last slot on: the elements from slot i on are sorted, those before are as they were.
use mathlib.Core.Path.{◌≡◌, refl, sym, ap, ap₂, subst, ◌∙◌}
use mathlib.Core.Logic.{◌⊎◌, inl, inr}
use mathlib.Core.List.Memᴰ
use mathlib.Core.List.{List, [], ◌∷◌, ◌++◌, append_assoc}
use Prim.Native.Nat.{ℕ, ◌+◌, ◌-◌, ◌≤◌, ◌<◌}
use native.Mathlib.Omega.{arith}
use lib.ListN.{length, take, drop, length-append, length-drop, drop_of_length-le, take-append-drop}
use lib.Seq.{take_at, drop_at, length-take-le, drop-drop}
use lib.Dec.{T}
use mir.Facts.{not_T}
use Rattle.model.specs.Lists.{all, ◌∈◌}
use Rattle.model.specs.Sets.{put, sorted, ahead, sort}
use Rattle.model.specs.Path.{former_key, path_rank}
use Rattle.model.specs.Element.{Element, rank, valid_element, contains}
use Rattle.model.specs.Slot.{read_slot}
use Rattle.model.specs.Partition.{count, layout, read_partition}
use Rattle.model.proofs.Bools.{and_l}
use Rattle.model.proofs.Members.{all_in, in_all, in-front, in-back}
use Rattle.model.proofs.Order.{ascending-sorted, sorted-drop, sort-in, sorted_sort, sort_sorted, Fresh}
use Rattle.model.proofs.Sets.{contains-in}
use Rattle.model.proofs.Partitions.{WellFormed, well-formed, length-layout, count-layout, read-elements, layout-read}
use Rattle.model.proofs.Resorting.{resort-length, resort-fresh}
use Rattle.model.proofs.Migrating.{former_rank, rank-former}
use Rattle.model.proofs.Walks.{rest, rest_more}
use Rattle.partition.proofs.Finding.{element_at, elements-from, length-read}
use Rattle.sorting.specs.Sorting.{Former, Laid, SortedBehind}

-- the elements in the order of before, sorted from element i on
abbrev pub sorted_from : ℕ → List Element → List Element
sorted_from i es = take i es ++ sort rank (drop i es)

module _ {b : List ℕ} (f : Former b) where
  pub facts : WellFormed former_key f.label b
  facts = well-formed former_key f.label b f.is

  abbrev es : List Element
  es = read_partition b

  in_order_lem : T (sorted former_rank es)
  in_order_lem = ascending-sorted former_rank es facts.ascends

  -- as many elements, and the same
  length_from : (i : ℕ) → i ≤ count b → length (sorted_from i es) ≡ count b
  length_from i h =
      length-append (take i es) (sort rank (drop i es))
      ∙ ap₂ (λ (x y : ℕ). x + y) (length-take-le i es (omega (arith, length-read b)))
      (resort-length former_rank rank rank-former (drop i es) (sorted-drop former_rank i es in_order_lem) ∙ length-drop i es)
      ∙ omega (arith, length-read b)

  valid-from : (i : ℕ) → T (all (valid_element f.label) (sorted_from i es))
  valid-from i =
      in_all (valid_element f.label) (sorted_from i es)
      (λ x m. all_in (valid_element f.label) es facts.valid (subst (λ (l : List Element). x ∈ l) (take-append-drop i es) (back x (Memᴰ.append_cases (take i es) m))))
    where
      back : (x : Element) → (x ∈ take i es) ⊎ (x ∈ sort rank (drop i es)) → x ∈ take i es ++ drop i es
      back x (inl m) = in-front (take i es) (drop i es) m
      back x (inr m) = in-back (take i es) (drop i es) (sort-in rank (drop i es) m)

  -- a partition laid out with them is read back
  module _ (i : ℕ) (h : i ≤ count b) {p : List ℕ} (e : p ≡ layout (sorted_from i es)) where
    few : length (sorted_from i es) ≤ 32
    few = rw (length_from i h) facts.few

    pub from-read : read_partition p ≡ sorted_from i es
    from-read = ap read_partition e ∙ read-elements f.label (sorted_from i es) few (valid-from i)

    pub from-count : count p ≡ count b
    from-count = ap count e ∙ count-layout (sorted_from i es) ∙ length_from i h

    from-laid : Laid p
    from-laid =
        record {
          label = f.label;
          few = rw from-count facts.few;
          valid = rw from-read (valid-from i);
          bytes = e ∙ ap layout (sym from-read);
        }

  -- one more element, x, before the sorted ones
  module _ (i : ℕ) (h : i < count b) where
    abbrev x : Element
    x = element_at b i

    abbrev t : List Element
    t = drop (i + 1) es

    here : drop i es ≡ x ∷ t
    here =
        elements-from b i (omega arith)
        ∙ rest_more (element_at b) (count b) i h
        ∙ ap (λ (l : List Element). x ∷ l) (sym (elements-from b (i + 1) (omega arith)))

    size : length (take i es) ≡ i
    size = length-take-le i es (omega (arith, length-read b))

    front : take (i + 1) es ≡ take i es ++ (x ∷ [])
    front =
        let z : length (take i es ++ (x ∷ [])) ≡ i + 1 = length-append (take i es) (x ∷ []) ∙ omega (arith, size) in
        ap (take (i + 1)) (sym (take-append-drop i es) ∙ ap (λ (l : List Element). take i es ++ l) here ∙ sym (append_assoc (take i es) (x ∷ []) t))
        ∙ take_at (take i es ++ (x ∷ [])) t (i + 1) z

    state : sorted_from (i + 1) es ≡ take i es ++ (x ∷ sort rank t)
    state = ap (λ (l : List Element). l ++ sort rank t) front ∙ append_assoc (take i es) (x ∷ []) (sort rank t)

    state-front : take i (sorted_from (i + 1) es) ≡ take i es
    state-front = ap (take i) state ∙ take_at (take i es) (x ∷ sort rank t) i size

    state-back : drop i (sorted_from (i + 1) es) ≡ x ∷ sort rank t
    state-back = ap (drop i) state ∙ drop_at (take i es) (x ∷ sort rank t) i size

    -- none of the sorted ones has its rank
    new : Fresh rank x (sort rank t)
    new =
        resort-fresh former_rank rank rank-former x t
        (and_l (ahead former_rank x t) (sorted former_rank t) (subst (λ (l : List Element). T (sorted former_rank l)) here (sorted-drop former_rank i es in_order_lem)))

    module _ {p : List ℕ} (e : p ≡ layout (sorted_from (i + 1) es)) where
      whole : read_partition p ≡ sorted_from (i + 1) es
      whole = from-read (i + 1) (omega arith) e

      used : i < count p
      used = rw (from-count (i + 1) (omega arith) e) h

      -- it stands in slot i
      in-slot : element_at p i ≡ x
      in-slot =
          let d : element_at p i ∷ rest (element_at p) (count p) (i + 1) ≡ x ∷ sort rank t =
          sym (elements-from p i (omega (arith, used)) ∙ rest_more (element_at p) (count p) i used) ∙ ap (drop i) whole ∙ state-back in
          cc

      behind : drop (i + 1) (read_partition p) ≡ sort rank t
      behind =
          sym (drop-drop 1 i (read_partition p)) ∙ ap (drop 1) (ap (drop i) whole ∙ state-back)

      -- so the next turn may put it to its place
      pub from-behind : SortedBehind p i
      unfolding read_slot
      from-behind =
          record {
            laid = from-laid (i + 1) (omega arith) e;
            used = used;
            order = rw behind (sorted_sort rank t);
            lacks =
                rw behind
                (not_T (contains (sort rank t) (element_at p i).path)
                (λ k.
                let r : (d : Element) × (d ∈ sort rank t) × ((element_at p i).path ≡ d.path) = contains-in (sort rank t) (element_at p i).path k in
                new r.0 r.1 (ap rank (sym in-slot) ∙ ap path_rank r.2)));
          }

      -- after which the elements are sorted from slot i on
      pub from_next : {q : List ℕ} → q ≡ layout (take i (read_partition p) ++ sort rank (drop i (read_partition p))) → q ≡ layout (sorted_from i es)
      from_next g =
          g
          ∙ ap layout
          (ap₂ (λ (l m : List Element). l ++ m) (ap (take i) whole ∙ state-front)
          (ap (sort rank) (ap (drop i) whole ∙ state-back)
          ∙ ap (put rank x) (sort_sorted rank (sort rank t) (sorted_sort rank t))
          ∙ sym (ap (sort rank) here)))

  -- at the last slot
  pub from_start : {c : ℕ} → (c ≡ count b) × (c < 256) → (c ≡ 0 → ⊥) → b ≡ layout (sorted_from (c - 1) es)
  from_start {c} e z = go (c - 1) (omega arith)
    where
      go : (i : ℕ) → i + 1 ≡ count b → b ≡ layout (sorted_from i es)
      go i k =
          let none : t i (omega arith) ≡ [] = drop_of_length-le es {i = i + 1} (omega (arith, length-read b)) in
          sym (layout-read former_key f.label b facts)
          ∙ ap layout
          (sym (take-append-drop i es)
          ∙ ap (λ (l : List Element). take i es ++ l) (here i (omega arith) ∙ ap (λ (l : List Element). x i (omega arith) ∷ l) none)
          ∙ sym (ap (λ (l : List Element). take i es ++ sort rank l) (here i (omega arith) ∙ ap (λ (l : List Element). x i (omega arith) ∷ l) none)))

  -- no elements
  pub from-none : {c : ℕ} → (c ≡ count b) × (c < 256) → c ≡ 0 → b ≡ layout (sort rank es)
  from-none e z =
      let none : es ≡ [] = go es (length-read b) in
      sym (layout-read former_key f.label b facts) ∙ ap layout (none ∙ sym (ap (sort rank) none))
    where
      go : (l : List Element) → length l ≡ count b → l ≡ []
      go [] k = refl
      go (y ∷ l) k = absurd (omega (arith, e.0))

-- ---- the loop

-- from slot i on the elements are sorted, and the slot that the search for the next place begins with is one of them
pub record Turned (b p : List ℕ) (i near : ℕ) : Type 0 where
  pub used : i < count b
  pub from : i ≤ near
  pub within : near < count b
  pub bytes : p ≡ layout (sorted_from i (read_partition b))

pub turned-start : {b : List ℕ} (f : Former b) {c : ℕ} → (c ≡ count b) × (c < 256) → (c ≡ 0 → ⊥) → Turned b b (c - 1) (c - 1)
turned-start f e z = record { used = omega (arith, e.0); from = omega arith; within = omega (arith, e.0); bytes = from_start f e z }

module _ {b : List ℕ} (f : Former b) {p : List ℕ} {i near : ℕ} (inv : Turned b p i near) (h : 0 < i) where
  -- the slot before is the next
  same : i - 1 + 1 ≡ i
  same = omega arith

  bytes_next : p ≡ layout (sorted_from (i - 1 + 1) (read_partition b))
  bytes_next = inv.bytes ∙ ap (λ (k : ℕ). layout (sorted_from k (read_partition b))) (sym same)

  pub turned-behind : SortedBehind p (i - 1)
  turned-behind = from-behind f (i - 1) (omega (arith, inv.used)) bytes_next

  pub turned-near : (i - 1 < near) × (near < count p)
  turned-near = (omega (arith, inv.from), rw (from-count f i (omega (arith, inv.used)) inv.bytes) inv.within)

  pub turned-next : {q : List ℕ} {r : ℕ} → ((i - 1 ≤ r) × (r < count p)) × (q ≡ layout (take (i - 1) (read_partition p) ++ sort rank (drop (i - 1) (read_partition p))))
      → Turned b q (i - 1) r
  turned-next e =
      record {
        used = omega (arith, inv.used);
        from = e.0.0;
        within = rw (← (from-count f i (omega (arith, inv.used)) inv.bytes)) e.0.1;
        bytes = from_next f (i - 1) (omega (arith, inv.used)) bytes_next e.1;
      }

-- at the first slot all are
pub turned-end : {b p : List ℕ} {i near : ℕ} → Turned b p i near → i ≤ 0 → p ≡ layout (sort rank (read_partition b))
turned-end {b} {i = i} inv h = let z : i ≡ 0 = omega arith in inv.bytes ∙ ap (λ (k : ℕ). layout (sorted_from k (read_partition b))) z

-- the length stays
pub turned-size : {b : List ℕ} (f : Former b) {p : List ℕ} {i near : ℕ} → Turned b p i near → length p ≡ length b
turned-size {b} f {i = i} inv = ap length inv.bytes ∙ length-layout (sorted_from i (read_partition b)) ∙ sym (facts f).size
