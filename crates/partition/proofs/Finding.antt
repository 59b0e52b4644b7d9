-- A well-formed partition read slot by slot: what is known of it, and the search for a path.
use mathlib.Core.Path.{◌≡◌, refl, sym, ap, ap₂, ◌∙◌, subst}
use mathlib.Core.Bool.{Bool, true, false, not, cond, ◌&&◌}
use mathlib.Core.List.{List, [], ◌∷◌, ◌++◌, map}
use Rattle.std.specs.Prelude.{Result, Ok, Err, is_ok}
use Prim.Native.Nat.{ℕ, zero, suc, ◌+◌, ◌-◌, ◌/◌, ◌≤◌, ◌<◌}
use native.Mathlib.Omega.{arith}
use borrow.Author.Tests.{eq-eqb, ne_eqb, le-leb, lt-leb, lt-ltb}
use lib.ListN.{length, take, drop, length-drop}
use lib.Seq.{drop_at}
use native.Mathlib.Decide.{dec_le}
use native.Mathlib.Numerals.{add-one}
use lib.Dec.{T, eqb, leb, ltb}
use mir.Facts.{T_not, leb_yes, leb_no}
use Rattle.model.specs.Lists.{all, any, keep, range, ◌∈◌}
use Rattle.model.specs.Path.{Step, same_path, is_prefix, steps_of, key}
use Rattle.model.specs.Element.{Element, rank, valid_element, contains, remove}
use Rattle.model.specs.Slot.{depth, read_path, read_slot}
use Rattle.model.specs.Partition.{layout, count, slot_at, slots, read_partition}
use Rattle.model.specs.Call.{extending}
use Rattle.model.specs.Sets.{sorted, ahead}
use Rattle.model.proofs.Bools.{and_r, decide, is_true, is_false}
use Rattle.model.proofs.Lists.{length-range, take_range, range_split}
use Rattle.model.proofs.Order.{ascending-sorted}
use Rattle.model.proofs.Slots.{valid-fits}
use Rattle.model.proofs.Partitions.{WellFormed, well-formed}
use Rattle.model.proofs.Walks.{rest, rest_more, rest_end, all-range, in-range}
use Rattle.path.specs.Common.{common, is_before, Compared}
use Rattle.path.proofs.Steps.{length-steps, root-steps}
use Rattle.path.proofs.Common.{common-first, common-prefix, common-same-path, common-turned}
use Rattle.slot.proofs.Reading.{length-path}
use Rattle.partition.specs.Place.{Formed, InOrder, place_of, place_in, Found}
use Rattle.partition.proofs.Placing.{place-within, place_after, leading, leading-within, count-place, remove-place, keep-place, contains-after, contains-here}

-- ---- a well-formed partition

-- the element in slot i
abbrev pub element_at : List ℕ → ℕ → Element
element_at b i = read_slot (slot_at b i)

map_range : {A B : Type 0} (f : A → B) (g : ℕ → A) (i n : ℕ) → map f (range g i n) ≡ range (λ j. f (g j)) i n
map_range f g i zero = refl
map_range f g i (suc n) = ap (λ l. f (g i) ∷ l) (map_range f g (suc i) n)

-- a partition's elements are those of its used slots
pub elements-range : (b : List ℕ) → read_partition b ≡ range (element_at b) 0 (count b)
unfolding read_partition slots
elements-range b = map_range read_slot (slot_at b) 0 (count b)

-- there are as many elements as the count says
pub length-read : (b : List ℕ) → length (read_partition b) ≡ count b
length-read b = ap length (elements-range b) ∙ length-range (element_at b) 0 (count b)

-- a path's place is at most the count
pub place-count : (p : List Step) (b : List ℕ) → place_of p (read_partition b) ≤ count b
place-count p b = omega (arith, place-within p (read_partition b), length-read b)

-- what is known of a well-formed partition
pub facts : {b : List ℕ} (f : Formed b) → WellFormed key f.label b
facts {b} f = well-formed key f.label b f.is

-- its elements are in order
pub formed-sorted : {b : List ℕ} → Formed b → T (sorted rank (read_partition b))
formed-sorted {b} f = ascending-sorted rank (read_partition b) (facts f).ascends

-- of valid elements each slot holds one
module _ (n : ℕ) (b : List ℕ) (v : T (all (valid_element n) (read_partition b))) (i : ℕ) (h : i < count b) where
  valid-at : T (valid_element n (element_at b i))
  valid-at = all-range (element_at b) (valid_element n) 0 (count b) i (rw (elements-range b) at v) (omega arith) (omega arith)

  -- so it can be read
  pub valid-slot : depth (slot_at b i) ≤ 6
  unfolding read_slot
  valid-slot = rw (length-path (slot_at b i)) at (valid-fits n (element_at b i) valid-at).steps

-- so it is in a well-formed partition
pub formed-valid : {b : List ℕ} (f : Formed b) (i : ℕ) → i < count b → T (valid_element f.label (element_at b i))
formed-valid {b} f i h = valid-at f.label b (facts f).valid i h

pub formed-slot : {b : List ℕ} (f : Formed b) (i : ℕ) → i < count b → depth (slot_at b i) ≤ 6
formed-slot {b} f i h = valid-slot f.label b (facts f).valid i h

-- so a path can be looked for in it
pub formed-order : {b : List ℕ} → Formed b → InOrder b
formed-order f = record { size = (facts f).size; few = (facts f).few; deep = formed-slot f; order = formed-sorted f }

-- ---- the same path

module _ (x p : List ℕ) {s : ℕ} (m : s ≡ common (read_path x) (steps_of p)) where
  by_parts : (t : Bool) → eqb s (length p / 3) ≡ t → same_path (steps_of p) (read_path x) ≡ (t && eqb (depth x) (length p / 3))
  by_parts t h =
      common-same-path (steps_of p) (read_path x)
      ∙ ap₂ (λ (a b : Bool). a && b) (ap₂ eqb (sym m) (length-steps p) ∙ h) (ap₂ eqb (length-path x) (length-steps p))

  -- paths that do not share all steps of the lent path differ
  pub differ-shared : (s ≡ length p / 3 → ⊥) → false ≡ same_path (steps_of p) (read_path x)
  differ-shared h = sym (by_parts false (ne_eqb s (length p / 3) h))

  -- paths that do are the same where they are of one length
  pub same-shared : s ≡ length p / 3 → {d : ℕ} → (d ≡ depth x) × (d < 256) → eqb d (length p / 3) ≡ same_path (steps_of p) (read_path x)
  same-shared h e = ap (λ (k : ℕ). eqb k (length p / 3)) e.0 ∙ sym (by_parts true (eq-eqb s (length p / 3) h))

-- ---- what a search answers

-- a path that stands there
pub found-ok : {b : List ℕ} {p : List Step} {r : Result ℕ ℕ} {at : ℕ} → r ≡ Ok at → Found b p (place_in r) (is_ok r) → Found b p at true
found-ok e f = rw e at f

-- and one that does not
pub found-err : {b : List ℕ} {p : List Step} {r : Result ℕ ℕ} {at : ℕ} → r ≡ Err at → Found b p (place_in r) (is_ok r) → Found b p at false
found-err e f = rw e at f

-- ---- the search

-- the elements before slot i come before the path
pub record Finding (b : List ℕ) (p : List Step) (c i : ℕ) : Type 0 where
  pub within : i ≤ c
  pub order : T (sorted rank (rest (element_at b) c i))
  pub place : place_of p (read_partition b) ≡ i + place_of p (rest (element_at b) c i)
  pub has : contains (read_partition b) p ≡ contains (rest (element_at b) c i) p

-- so it is at the first slot
pub find-start : {b : List ℕ} (f : InOrder b) (p : List Step) {c : ℕ} → (c ≡ count b) × (c ≤ 32) → Finding b p c 0
find-start {b} f p {c} e =
    let z : count b ≡ c - 0 = omega (arith, e.0) in
    let l : read_partition b ≡ rest (element_at b) c 0 = elements-range b ∙ ap (range (element_at b) 0) z in
    record {
      within = omega arith;
      order = rw (← l) f.order;
      place = ap (place_of p) l ∙ omega arith;
      has = ap (λ es. contains es p) l;
    }

module _ {b : List ℕ} {p : List Step} {c i : ℕ} (inv : Finding b p c i) where
  -- where no slot is left, the path is not there
  pub find-end : c ≤ i → Found b p c false
  unfolding contains
  find-end h =
      let l : rest (element_at b) c i ≡ [] = rest_end (element_at b) c i h in
      record {
        at-is = sym (inv.place ∙ rw l (omega (arith, inv.within)));
        found-is = sym (inv.has ∙ rw l);
      }

  module _ (h : i < c) where
    here : rest (element_at b) c i ≡ element_at b i ∷ rest (element_at b) c (i + 1)
    here = rest_more (element_at b) c i h

    ordered : T (sorted rank (element_at b i ∷ rest (element_at b) c (i + 1)))
    ordered = subst (λ es. T (sorted rank es)) here inv.order

    -- where slot i comes before the path, so it is at the next slot
    find-step : is_before (element_at b i).path p ≡ true → Finding b p c (i + 1)
    find-step y =
        record {
          within = omega arith;
          order = and_r (ahead rank (element_at b i) (rest (element_at b) c (i + 1))) (sorted rank (rest (element_at b) c (i + 1))) ordered;
          place = inv.place ∙ ap (λ es. i + place_of p es) here ∙ rw y (omega arith);
          has = inv.has ∙ ap (λ es. contains es p) here ∙ contains-after p (element_at b i) (rest (element_at b) c (i + 1)) (rw y tt);
        }

    -- where the path's place is behind slot i, it does
    place-past : i < place_of p (read_partition b) → is_before (element_at b i).path p ≡ true
    place-past k =
        decide (is_before (element_at b i).path p)
        (λ (t : T (is_before (element_at b i).path p)). is_true (is_before (element_at b i).path p) t)
        (λ (t : T (not (is_before (element_at b i).path p))).
        let n : is_before (element_at b i).path p ≡ false = is_false (is_before (element_at b i).path p) t in
        let z : place_of p (read_partition b) ≡ i = inv.place ∙ ap (λ es. i + place_of p es) here ∙ rw n (omega arith) in
        absurd (omega arith))

    -- slot i, read as x, compared with the lent path q
    module _ {x : List ℕ} (d : x ≡ slot_at b i) {s : ℕ} {t : Bool} (m : Compared (read_path x) p s t) where
      is-before : t ≡ is_before (element_at b i).path p
      unfolding read_slot
      is-before = m.before-is ∙ ap (λ (l : List ℕ). is_before (read_path l) p) d

      pub find-next : t ≡ true → Finding b p c (i + 1)
      find-next u = find-step (sym is-before ∙ u)

      -- where it does not, this is the place
      pub find-here : t ≡ false → {r : Bool} → r ≡ same_path p (read_path x) → Found b p i r
      unfolding read_slot
      find-here u g =
          let y : is_before (element_at b i).path p ≡ false = sym is-before ∙ u in
          record {
            at-is = sym (inv.place ∙ ap (λ es. i + place_of p es) here ∙ rw y (omega arith));
            found-is =
                g
                ∙ ap (λ (l : List ℕ). same_path p (read_path l)) d
                ∙ sym (inv.has ∙ ap (λ es. contains es p) here ∙ contains-here p (element_at b i) (rest (element_at b) c (i + 1)) ordered (rw y tt));
          }

-- the elements from slot k on
pub elements-from : (b : List ℕ) (k : ℕ) → k ≤ count b → drop k (read_partition b) ≡ rest (element_at b) (count b) k
elements-from b k h =
    let z : 0 + k ≡ k = omega arith in
    ap (drop k) (elements-range b ∙ range_split (element_at b) 0 k (count b) h)
    ∙ drop_at (range (element_at b) 0 k) (range (element_at b) (0 + k) (count b - k)) k (length-range (element_at b) 0 k)
    ∙ ap (λ (i : ℕ). range (element_at b) i (count b - k)) z

-- ---- a search that begins behind a slot

module _ {b : List ℕ} (f : InOrder b) (p : List Step) where
  -- so it is at each slot up to the path's place
  pub find_at : {c : ℕ} → (c ≡ count b) × (c ≤ 32) → (i : ℕ) → i ≤ place_of p (read_partition b) → Finding b p c i
  find_at e zero h = find-start f p e
  find_at {c} e (suc i) h =
      let inv : Finding b p c i = find_at e i (omega arith) in
      let k : i < c = omega (arith, place-count p b, e.0) in
      subst (Finding b p c) (add-one i) (find-step inv k (place-past inv k (omega arith)))

  -- a slot that comes before the path stands before its place
  pub place-behind : (k : ℕ) → k < count b → T (is_before (element_at b k).path p) → k + 1 ≤ place_of p (read_partition b)
  place-behind k h t =
      decide (leb (k + 1) (place_of p (read_partition b)))
      (λ (u : T (leb (k + 1) (place_of p (read_partition b)))). leb_yes u)
      (λ (u : T (not (leb (k + 1) (place_of p (read_partition b))))).
      let w : place_of p (read_partition b) < k + 1 = leb_no u in
      let m : element_at b k ∈ drop (place_of p (read_partition b)) (read_partition b) =
      rw (elements-from b (place_of p (read_partition b)) (place-count p b))
      (in-range (element_at b) (place_of p (read_partition b)) (count b - place_of p (read_partition b)) k (omega arith) (omega (arith, place-count p b))) in
      absurd (T_not (is_before (element_at b k).path p) t (place_after p (read_partition b) f.order (element_at b k) m)))

  -- slot k, read as x, compared with the path: a search may begin behind it, if it comes before the path
  pub behind-start : {k : ℕ} → k < count b → {x : List ℕ} → x ≡ slot_at b k → {s : ℕ} {t : Bool} → Compared (read_path x) p s t
      → t ≡ true → k + 1 ≤ place_of p (read_partition b)
  unfolding read_slot
  behind-start {k} h d {s} {t} m u =
      place-behind k h (subst (λ (y : Bool). T y) (sym u ∙ m.before-is ∙ ap (λ (l : List ℕ). is_before (read_path l) p) d) tt)

-- ---- the elements at a path's place that have it or extend it

-- the slots from at to i have the path or extend it
pub record Running (b : List ℕ) (p : List Step) (at c i : ℕ) : Type 0 where
  pub from : at ≤ i
  pub within : i ≤ c
  pub same : extending p (read_partition b) ≡ i - at + leading p (rest (element_at b) c i)

-- so it is at the path's place
pub run-start : {b : List ℕ} (f : InOrder b) (p : List Step) {at c : ℕ} → (c ≡ count b) × (c ≤ 32) → at ≡ place_of p (read_partition b) → Running b p at c at
run-start {b} f p {at} {c} e h =
    let w : at ≤ count b = omega (arith, place-count p b) in
    record {
      from = omega arith;
      within = omega (arith, e.0);
      same =
          count-place p (read_partition b) f.order
          ∙ ap (λ (m : ℕ). leading p (drop m (read_partition b))) (sym h)
          ∙ ap (leading p) (elements-from b at w ∙ ap (λ (m : ℕ). rest (element_at b) m at) (sym e.0))
          ∙ omega arith;
    }

module _ (q : List ℕ) {b : List ℕ} {at c i : ℕ} (inv : Running b (steps_of q) at c i) where
  -- where no slot is left, these are all
  pub run_end : c ≤ i → c - at ≡ extending (steps_of q) (read_partition b)
  run_end h = sym (inv.same ∙ ap (λ es. i - at + leading (steps_of q) es) (rest_end (element_at b) c i h) ∙ omega (arith, inv.within))

  module _ (h : i < c) {x : List ℕ} (d : x ≡ slot_at b i) {s : ℕ} {t : Bool} (m : Compared (read_path x) (steps_of q) s t) where
    here-leads : (l : Bool) → eqb s (length q / 3) ≡ l → leading (steps_of q) (rest (element_at b) c i) ≡ cond l (suc (leading (steps_of q) (rest (element_at b) c (i + 1)))) 0
    unfolding read_slot
    here-leads l e =
        ap (leading (steps_of q)) (rest_more (element_at b) c i h)
        ∙ ap (λ (r : Bool). cond r (suc (leading (steps_of q) (rest (element_at b) c (i + 1)))) 0)
        (common-prefix (steps_of q) (read_path (slot_at b i))
        ∙ ap₂ eqb (common-turned (steps_of q) (read_path (slot_at b i)) ∙ sym (m.shared-is ∙ ap (λ (y : List ℕ). common (read_path y) (steps_of q)) d)) (length-steps q)
        ∙ e)

    -- where slot i does not share the whole path, these are all
    pub run-stop : s < length q / 3 → i - at ≡ extending (steps_of q) (read_partition b)
    run-stop k = omega (arith, inv.same, here-leads false (ne_eqb s (length q / 3) (λ e. omega arith)))

    -- where it does, so it is at the next slot
    pub run-next : length q / 3 ≤ s → Running b (steps_of q) at c (i + 1)
    run-next k =
        let l : common (steps_of q) (read_path x) ≤ length (steps_of q) = common-first (steps_of q) (read_path x) in
        let u : common (read_path x) (steps_of q) ≡ common (steps_of q) (read_path x) = common-turned (read_path x) (steps_of q) in
        let n : s ≡ length q / 3 = omega (arith, m.shared-is, length-steps q) in
        record {
          from = omega (arith, inv.from);
          within = omega arith;
          same = omega (arith, inv.same, inv.from, here-leads true (eq-eqb s (length q / 3) n));
        }

-- what is to be taken out stands within the partition, and is what a removal takes
module _ {b : List ℕ} (f : Formed b) (p : List Step) {at k : ℕ} (e : at ≡ place_of p (read_partition b)) (h : k ≡ extending p (read_partition b)) where
  -- it stands within the partition
  pub run-within : at + k ≤ count b
  run-within =
      let r : extending p (read_partition b) ≡ leading p (drop at (read_partition b)) = rw e (count-place p (read_partition b) (formed-sorted f)) in
      let l : length (drop at (read_partition b)) ≡ length (read_partition b) - at = length-drop at (read_partition b) in
      omega (arith, leading-within p (drop at (read_partition b)), place-count p b, length-read b)

  -- it is the elements from the place on
  pub run-kept : keep (λ d. is_prefix p d.path) (read_partition b) ≡ range (element_at b) at k
  run-kept =
      keep-place p (read_partition b) (formed-sorted f)
      ∙ ap₂ (λ (m n : ℕ). take m (drop n (read_partition b))) (sym h) (sym e)
      ∙ ap (take k) (elements-from b at (omega (arith, run-within)))
      ∙ take_range (element_at b) k at (count b - at) (omega (arith, run-within))

  -- without it the set is the one that a removal leaves
  pub run-removed : {x : List ℕ} → x ≡ layout (take at (read_partition b) ++ drop (at + k) (read_partition b)) → x ≡ layout (remove p (read_partition b))
  run-removed g =
      g
      ∙ ap₂ (λ (i j : ℕ). layout (take i (read_partition b) ++ drop (i + j) (read_partition b))) e h
      ∙ ap layout (sym (remove-place p (read_partition b) (formed-sorted f)))

-- ---- an element that has a path or extends it

any-extending : (p : List Step) (es : List Element) → any (λ e. is_prefix p e.path) es ≡ ltb 0 (extending p es)
unfolding extending
any-extending p [] = refl
any-extending p (e ∷ es) =
    decide (is_prefix p e.path)
    (λ (t : T (is_prefix p e.path)).
    let z : 0 < suc (extending p es) = omega arith in
    rw (is_true (is_prefix p e.path) t) (sym (lt-ltb 0 (suc (extending p es)) z)))
    (λ (t : T (not (is_prefix p e.path))). rw (is_false (is_prefix p e.path) t) (any-extending p es))

module _ (q : List ℕ) {b : List ℕ} {at c : ℕ} (inv : Running b (steps_of q) at c at) where
  none-there : at - at ≡ extending (steps_of q) (read_partition b) → false ≡ any (λ e. is_prefix (steps_of q) e.path) (read_partition b)
  none-there e =
      let z : extending (steps_of q) (read_partition b) ≡ 0 = omega arith in
      sym (any-extending (steps_of q) (read_partition b) ∙ ap (ltb 0) z)

  -- where the place is behind all elements, none extends the path
  pub below_end : c ≤ at → false ≡ any (λ e. is_prefix (steps_of q) e.path) (read_partition b)
  below_end h = none-there (omega (arith, run_end q inv h))

  -- else the one at the place tells by the steps that it shares
  pub below-here : at < c → {x : List ℕ} → x ≡ slot_at b at → {s : ℕ} {t : Bool} → Compared (read_path x) (steps_of q) s t
      → leb (length q / 3) s ≡ any (λ e. is_prefix (steps_of q) e.path) (read_partition b)
  below-here h d {s} m = elim (dec_le (length q / 3) s) [
    | yes k ↦
        let r : Running b (steps_of q) at c (at + 1) = run-next q inv h d m k in
        let z : 0 < extending (steps_of q) (read_partition b) = omega (arith, r.same) in
        le-leb (length q / 3) s k ∙ sym (any-extending (steps_of q) (read_partition b) ∙ lt-ltb 0 (extending (steps_of q) (read_partition b)) z)
    | no k ↦
        let l : s < length q / 3 = omega arith in
        lt-leb (length q / 3) s l ∙ none-there (run-stop q inv h d m l)
  ]

-- no element is below a path where there is none, and any is below the root
module _ (q b : List ℕ) {c : ℕ} (e : (c ≡ count b) × (c ≤ 32)) where
  -- an empty partition has none
  pub none-held : c ≡ 0 → false ≡ any (λ d. is_prefix (steps_of q) d.path) (read_partition b)
  none-held z =
      let n : count b ≡ 0 = sym e.0 ∙ z in
      sym (ap (any (λ d. is_prefix (steps_of q) d.path)) (elements-range b ∙ ap (range (element_at b) 0) n))

  -- any other has one below the root
  pub root-held : length q < 3 → (c ≡ 0 → ⊥) → true ≡ any (λ d. is_prefix (steps_of q) d.path) (read_partition b)
  root-held h z = go (count b) e.0 (elements-range b)
    where
      go : (n : ℕ) → c ≡ n → read_partition b ≡ range (element_at b) 0 n → true ≡ any (λ d. is_prefix (steps_of q) d.path) (read_partition b)
      go zero f g = absurd (z f)
      go (suc n) f g = rw (g, root-steps q h)
