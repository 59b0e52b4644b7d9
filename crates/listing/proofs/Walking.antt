-- The walk over the references: what is left of it, laid over what was written, gives the whole.
use mathlib.Core.Path.{◌≡◌, refl, sym, ap, ap₂, subst, ◌∙◌}
use mathlib.Core.Bool.{Bool}
use mathlib.Core.List.Memᴰ
use mathlib.Core.List.{List, [], ◌∷◌, ◌++◌, map}
use Prim.Native.Nat.{ℕ, zero, suc, ◌+◌, ◌-◌, ◌*◌, ◌/◌, ◌≤◌, ◌<◌}
use native.Mathlib.Omega.{arith}
use lib.ListN.{length, get_or, drop, drop_of_length-le, length-map}
use lib.Seq.{drop-cons}
use lib.Dec.{T}
use Rattle.model.specs.Lists.{gather}
use Rattle.model.specs.Path.{Step, is_prefix, parent, prefixes, steps_of}
use Rattle.model.specs.Element.{Element}
use Rattle.model.specs.Slot.{slot_size, depth, read_path, read_slot}
use Rattle.model.specs.Model.{open_model}
use Rattle.model.specs.View.{visible, path_line, seen_below}
use Rattle.model.proofs.Lists.{all_get_d}
use Rattle.path.specs.Common.{common, Compared}
use Rattle.slot.proofs.Reading.{length-path}
use Rattle.text.specs.Overlay.{Wrote}
use Rattle.text.proofs.Overlays.{Going, going_start, going_step, going_end}
use Rattle.store.specs.Opened.{Opened}
use Rattle.order.specs.Refs.{slot_of, element_of, refers, Refers}
use Rattle.order.proofs.Naming.{ref-valid}
use Rattle.listing.specs.Walk.{walk, element_lines, walk_lines}
use Rattle.listing.specs.Used.{Used, lines_from}
use Rattle.listing.specs.Listed.{path_above}
use Rattle.listing.proofs.Newer.{newer-drop, parent-common}
use Rattle.listing.proofs.Walks.{Rest, rest-start, rest-new, rest-next, length-walk}
use Rattle.listing.proofs.Visible.{visible-distinct, below-short}

module _ (s : ℕ) (b : List ℕ) (p : List Step) (rs : List ℕ) where
  -- the elements from reference i on
  abbrev pub from_ref : ℕ → List Element
  from_ref i = map (element_of b) (drop i rs)

  from_more : (i : ℕ) → i < length rs → from_ref i ≡ element_of b (get_or rs i 0) ∷ from_ref (suc i)
  from_more i h = ap (map (element_of b)) (drop-cons rs i 0 h)

  abbrev pub Left : ℕ → Type 0
  Left i = Rest (visible s (open_model b)) p (path_above b p rs i) (from_ref i)

  left-start : Refers s b rs (seen_below s (open_model b) p) → Left 0
  left-start r = rw r.named (rest-start p (visible-distinct s b))

  left-next : (i : ℕ) → i < length rs → Left i → Left (suc i)
  left-next i h f = rest-next (subst (λ (l : List Element). Rest (visible s (open_model b)) p (path_above b p rs i) l) (from_more i h) f)

  left_at : (r : Refers s b rs (seen_below s (open_model b) p)) (i : ℕ) → i ≤ length rs → Left i
  left_at r zero h = left-start r
  left_at r (suc i) h = left-next i (omega arith) (left_at r i (omega arith))

-- ---- reference i

module _ {s : ℕ} {b : List ℕ} (p : List Step) {rs : List ℕ} (r : Refers s b rs (seen_below s (open_model b) p)) (i : ℕ) (h : i < length rs) where
  here : Rest (visible s (open_model b)) p (path_above b p rs i) (element_of b (get_or rs i 0) ∷ from_ref s b p rs (suc i))
  here =
      subst (λ (l : List Element). Rest (visible s (open_model b)) p (path_above b p rs i) l) (from_more s b p rs i h)
      (left_at s b p rs r i (omega arith))

  pub here-refers : T (refers s b (get_or rs i 0))
  here-refers = all_get_d (refers s b) rs i 0 h r.valid

  -- the path listed is a prefix of the element's
  pub here-below : T (is_prefix p (element_of b (get_or rs i 0)).path)
  here-below = here.below (element_of b (get_or rs i 0)) (Memᴰ.head refl)

  module _ {x : List ℕ} (g : x ≡ slot_of b (get_or rs i 0)) where
    read_here : read_slot x ≡ element_of b (get_or rs i 0)
    unfolding element_of
    read_here = ap read_slot g

    path-here : read_path x ≡ (element_of b (get_or rs i 0)).path
    unfolding element_of read_slot
    path-here = ap read_path g

    pub here-used : Opened b s → length x ≡ slot_size → Used x
    here-used o w =
        record {
          size = w;
          label = get_or rs i 0 / 32;
          valid = rw read_here (ref-valid s b (get_or rs i 0) here-refers o);
        }

    module _ {k : ℕ} (e : k ≡ common (path_above b p rs i) (element_of b (get_or rs i 0)).path) where
      pub here-new : k < depth x
      here-new =
          let n : common (path_above b p rs i) (element_of b (get_or rs i 0)).path < length (element_of b (get_or rs i 0)).path = rest-new here in
          let d : length (element_of b (get_or rs i 0)).path ≡ depth x = ap length (sym path-here) ∙ length-path x in
          omega arith

      -- of the lines left, those of reference i, and the rest
      here-count : length (walk (path_above b p rs i) (from_ref s b p rs i)) ≡ depth x - k + length (walk (path_above b p rs (suc i)) (from_ref s b p rs (suc i)))
      here-count =
          let c : length (walk (path_above b p rs i) (from_ref s b p rs i))
          ≡ length (element_of b (get_or rs i 0)).path - common (path_above b p rs i) (element_of b (get_or rs i 0)).path
          + length (walk (element_of b (get_or rs i 0)).path (from_ref s b p rs (suc i))) =
          ap (λ (es : List Element). length (walk (path_above b p rs i) es)) (from_more s b p rs i h)
          ∙ length-walk (path_above b p rs i) (element_of b (get_or rs i 0)) (from_ref s b p rs (suc i)) in
          let q : length (element_of b (get_or rs i 0)).path ≡ depth x = ap length (sym path-here) ∙ length-path x in
          omega (arith, c, q, e)

      here-lines : lines_from k x ≡ element_lines (path_above b p rs i) (element_of b (get_or rs i 0))
      here-lines =
          ap (λ (d : Element). gather (path_line (d ∷ [])) (drop k (prefixes (read_path x)))) read_here
          ∙ ap (λ (q : List Step). gather (path_line (element_of b (get_or rs i 0) ∷ [])) (drop k (prefixes q))) path-here
          ∙ ap (gather (path_line (element_of b (get_or rs i 0) ∷ [])))
          (ap (λ (n : ℕ). drop n (prefixes (element_of b (get_or rs i 0)).path)) e ∙ sym (newer-drop (path_above b p rs i) (element_of b (get_or rs i 0)).path))

-- ---- what the path of reference i shares with the path before it

module _ {s : ℕ} {b : List ℕ} (q : List ℕ) {rs : List ℕ} (r : Refers s b rs (seen_below s (open_model b) (steps_of q))) {i : ℕ} (h : i < length rs) where
  pub first-shares : i ≡ 0 → common (path_above b (steps_of q) rs i) (element_of b (get_or rs i 0)).path ≡ length (parent (steps_of q))
  first-shares e =
      ap (λ (n : ℕ). common (path_above b (steps_of q) rs n) (element_of b (get_or rs i 0)).path) e
      ∙ parent-common (steps_of q) (element_of b (get_or rs i 0)).path (here-below (steps_of q) r i h)

  pub before-shares : (i ≡ 0 → ⊥) → {x y : List ℕ} → x ≡ slot_of b (get_or rs (i - 1) 0) → y ≡ slot_of b (get_or rs i 0)
      → {k : ℕ} {t : Bool} → Compared (read_path x) (read_path y) k t → k ≡ common (path_above b (steps_of q) rs i) (element_of b (get_or rs i 0)).path
  unfolding element_of read_slot
  before-shares z {x} {y} f g m =
      let j : i ≡ suc (i - 1) = omega (arith, z) in
      m.shared-is
      ∙ ap₂ (λ (l o : List ℕ). common (read_path l) (read_path o)) f g
      ∙ sym (ap (λ (n : ℕ). common (path_above b (steps_of q) rs n) (element_of b (get_or rs i 0)).path) j)

-- at most six lines for a reference
pub few-lines : {s : ℕ} {b : List ℕ} (p : List Step) {rs : List ℕ} → Refers s b rs (seen_below s (open_model b) p) → length (walk (parent p) (seen_below s (open_model b) p)) ≤ 6 * length rs
few-lines {s} {b} p {rs} r = omega (arith, (below-short s b p).1, ap length r.named, length-map rs (element_of b))

-- ---- the lines counted

pub record Counting (s : ℕ) (b : List ℕ) (p : List Step) (rs : List ℕ) (lines i : ℕ) : Type 0 where
  pub within : i ≤ length rs
  pub counted : lines + length (walk (path_above b p rs i) (from_ref s b p rs i)) ≡ length (walk (parent p) (seen_below s (open_model b) p))

pub count-start : {s : ℕ} {b : List ℕ} (p : List Step) {rs : List ℕ} → Refers s b rs (seen_below s (open_model b) p) → Counting s b p rs 0 0
count-start p r =
    record {
      within = omega arith;
      counted = omega (arith, ap (λ (l : List Element). length (walk (parent p) l)) r.named);
    }

module _ {s : ℕ} {b : List ℕ} (p : List Step) {rs : List ℕ} (r : Refers s b rs (seen_below s (open_model b) p)) {lines i : ℕ} (inv : Counting s b p rs lines i) where
  pub count_next : (h : i < length rs) {x : List ℕ} → x ≡ slot_of b (get_or rs i 0)
      → {k : ℕ} → k ≡ common (path_above b p rs i) (element_of b (get_or rs i 0)).path → {d : ℕ} → (d ≡ depth x) × (d < 256)
      → Counting s b p rs (lines + (d - k)) (i + 1)
  count_next h {x} g {k} e {d} f =
      let z : i + 1 ≡ suc i = omega arith in
      record {
        within = omega arith;
        counted = rw z (omega (arith, inv.counted, here-count p r i h g e, f.0));
      }

  -- at most six lines for a reference
  pub count-few : lines ≤ 6 * length rs
  count-few = omega (arith, inv.counted, few-lines p r)

  pub count-end : length rs ≤ i → lines ≡ length (walk (parent p) (seen_below s (open_model b) p))
  count-end h =
      let z : from_ref s b p rs i ≡ [] = ap (map (element_of b)) (drop_of_length-le rs h) in
      omega (arith, inv.counted, ap (λ (es : List Element). length (walk (path_above b p rs i) es)) z)

-- ---- the lines put

pub record Walking (s : ℕ) (b : List ℕ) (p : List Step) (rs out₀ : List ℕ) (at : ℕ) (out : List ℕ) (to i : ℕ) : Type 0 where
  pub within : i ≤ length rs
  pub going : Going out₀ at (walk_lines (parent p) (seen_below s (open_model b) p)) out to (walk_lines (path_above b p rs i) (from_ref s b p rs i))

pub walk_start : {s : ℕ} {b : List ℕ} (p : List Step) {rs : List ℕ} → Refers s b rs (seen_below s (open_model b) p) → (out : List ℕ) (at : ℕ) → Walking s b p rs out at out at 0
walk_start {s} {b} p r out at =
    record {
      within = omega arith;
      going = rw r.named (going_start out at (walk_lines (parent p) (seen_below s (open_model b) p)));
    }

module _ {s : ℕ} {b : List ℕ} (p : List Step) {rs : List ℕ} (r : Refers s b rs (seen_below s (open_model b) p)) {out₀ : List ℕ} {at : ℕ} {out : List ℕ} {to i : ℕ}
    (inv : Walking s b p rs out₀ at out to i) where
  pub walk-next : (h : i < length rs) {x : List ℕ} → x ≡ slot_of b (get_or rs i 0)
      → {k : ℕ} → k ≡ common (path_above b p rs i) (element_of b (get_or rs i 0)).path
      → {out' : List ℕ} {to' : ℕ} → Wrote out to (lines_from k x) out' to' → Walking s b p rs out₀ at out' to' (i + 1)
  walk-next h g e w =
      let z : i + 1 ≡ suc i = omega arith in
      let m : from_ref s b p rs i ≡ element_of b (get_or rs i 0) ∷ from_ref s b p rs (suc i) = from_more s b p rs i h in
      record {
        within = omega arith;
        going =
            rw z
            (going_step (walk_lines (element_of b (get_or rs i 0)).path (from_ref s b p rs (suc i)))
            (ap (walk_lines (path_above b p rs i)) m
            ∙ ap (λ (t : List ℕ). t ++ walk_lines (element_of b (get_or rs i 0)).path (from_ref s b p rs (suc i))) (sym (here-lines p r i h g e)))
            inv.going w);
      }

  pub walk_end : length rs ≤ i → Wrote out₀ at (walk_lines (parent p) (seen_below s (open_model b) p)) out to
  walk_end h =
      let z : from_ref s b p rs i ≡ [] = ap (map (element_of b)) (drop_of_length-le rs h) in
      going_end (ap (walk_lines (path_above b p rs i)) z) inv.going

  -- at most 384 bytes for a reference
  pub walk-room : to ≤ at + 384 * length rs
  walk-room = omega (arith, inv.going.ends, (below-short s b p).0, few-lines p r)
