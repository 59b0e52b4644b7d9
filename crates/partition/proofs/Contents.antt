-- The content at a path that was found in a well-formed partition.
use mathlib.Core.Path.{◌≡◌, sym, ap, subst, ◌∙◌}
use mathlib.Core.Bool.{Bool, true, false, not, cond, ◌&&◌}
use mathlib.Core.Option.{some}
use mathlib.Core.List.{List}
use Prim.Native.Nat.{ℕ, zero, suc, ◌+◌, ◌<◌}
use native.Mathlib.Omega.{arith}
use lib.ListN.{length}
use lib.Dec.{T}
use Rattle.model.specs.Lists.{range}
use Rattle.model.specs.Sets.{ahead, sorted}
use Rattle.model.specs.Path.{Step, same_path, valid_path, ends_in}
use Rattle.model.specs.Value.{storable}
use Rattle.model.specs.Element.{Element, rank, valid_element, contains}
use Rattle.model.specs.Slot.{slot_size, read_path, read_content, read_slot}
use Rattle.model.specs.Partition.{count, slot_at, read_partition}
use Rattle.model.specs.View.{content_at}
use Rattle.model.proofs.Bools.{and_r, decide, cond_yes, cond_no, is_true, is_false}
use Rattle.path.specs.Common.{is_before}
use Rattle.partition.specs.Place.{Formed, place_of, Found}
use Rattle.partition.proofs.Placing.{after-other, contains-after, contains-here, stands}
use Rattle.partition.proofs.Finding.{element_at, elements-range, length-read, facts, formed-sorted, formed-valid}

-- of elements in order, the content at a path is that of the element at its place
range-content : (f : ℕ → Element) (p : List Step) (n i : ℕ) → T (sorted rank (range f i n)) → T (contains (range f i n) p)
    → content_at (range f i n) p ≡ some (f (i + place_of p (range f i n))).content
unfolding contains
range-content f p zero i s t = absurd t
range-content f p (suc n) i s t =
    decide (is_before (f i).path p)
    (λ (b : T (is_before (f i).path p)).
    let y : is_before (f i).path p ≡ true = is_true (is_before (f i).path p) b in
    let e : suc i + place_of p rest ≡ i + suc (place_of p rest) = omega arith in
    cond_no (same_path p (f i).path) (some (f i).content) (content_at rest p) (after-other p (f i) rest b)
    ∙ range-content f p n (suc i) (and_r (ahead rank (f i) rest) (sorted rank rest) s) (rw (contains-after p (f i) rest b) at t)
    ∙ ap (λ (k : ℕ). some (f k).content) (e ∙ sym (ap (λ (c : Bool). i + cond c (suc (place_of p rest)) 0) y)))
    (λ (b : T (not (is_before (f i).path p))).
    let y : is_before (f i).path p ≡ false = is_false (is_before (f i).path p) b in
    let e : i ≡ i + 0 = omega arith in
    cond_yes (same_path p (f i).path) (some (f i).content) (content_at rest p) (rw (contains-here p (f i) rest s b) at t)
    ∙ ap (λ (k : ℕ). some (f k).content) (e ∙ sym (ap (λ (c : Bool). i + cond c (suc (place_of p rest)) 0) y)))
  where
    rest : List Element
    rest = range f (suc i) n

-- a path that was found
module _ {x : List ℕ} (f : Formed x) {p : List Step} {at : ℕ} {found : Bool} (h : Found x p at found) (yes : found ≡ true) where
  has : T (contains (read_partition x) p)
  has = subst T (sym yes ∙ h.found-is) tt

  -- it is in a used slot
  found-used : at < count x
  found-used =
      let w : place_of p (read_partition x) < length (read_partition x) = (stands p (read_partition x) (formed-sorted f) has).within in
      omega (arith, h.at-is, length-read x)

  pub found-slot : at < 32
  found-slot = omega (arith, found-used, (facts f).few)

  -- what the slot holds may be stored
  pub found-storable : {z : List ℕ} → (z ≡ slot_at x at) × (length z ≡ slot_size) → (length z ≡ slot_size) × T (storable (read_content z))
  unfolding valid_element read_slot
  found-storable g =
      let path : Bool = valid_path (read_path (slot_at x at)) && ends_in f.label (read_path (slot_at x at)) in
      (g.1, rw g.0 (and_r path (storable (read_content (slot_at x at))) (formed-valid f at found-used)))

  -- and is the content at the path
  pub found-content : {z : List ℕ} → (z ≡ slot_at x at) × (length z ≡ slot_size) → content_at (read_partition x) p ≡ some (read_content z)
  unfolding read_slot
  found-content g =
      let place : 0 + place_of p (range (element_at x) 0 (count x)) ≡ place_of p (range (element_at x) 0 (count x)) = omega arith in
      ap (λ (es : List Element). content_at es p) (elements-range x)
      ∙ range-content (element_at x) p (count x) 0 (rw (elements-range x) at (formed-sorted f)) (rw (elements-range x) at has)
      ∙ ap (λ (k : ℕ). some (element_at x k).content) (place ∙ sym (h.at-is ∙ ap (place_of p) (elements-range x)))
      ∙ ap (λ (y : List ℕ). some (read_content y)) (sym g.0)
