-- References: the slots that they name are readable, which of two runs has the next element, and the first of them.
use mathlib.Core.Path.{◌≡◌, refl, sym, ap₂, ◌∙◌}
use mathlib.Core.Bool.{Bool, false, not}
use mathlib.Core.List.Memᴰ
use mathlib.Core.List.{List, [], ◌∷◌, map}
use Prim.Native.Nat.{ℕ, zero, suc, ◌*◌, ◌/◌, ◌%◌, ◌≤◌, ◌<◌, min}
use native.Mathlib.Omega.{arith}
use lib.ListN.{length, get_or, take, length-take}
use lib.Dec.{T, ltb}
use mir.Facts.{ltb_yes}
use Rattle.model.specs.Label.{dominates}
use Rattle.model.specs.Path.{path_rank}
use Rattle.model.specs.Element.{Element, valid_element}
use Rattle.model.specs.Slot.{read_path, read_slot}
use Rattle.model.specs.Partition.{count, slot_at}
use Rattle.model.specs.Store.{partition}
use Rattle.model.proofs.Bools.{and_l, and_r, decide}
use Rattle.model.specs.Lists.{◌∈◌}
use Rattle.model.proofs.Order.{precedes-total}
use Rattle.path.specs.Common.{is_before, Compared}
use Rattle.partition.specs.Place.{Formed}
use Rattle.partition.proofs.Finding.{formed-valid}
use Rattle.store.specs.Opened.{Opened}
use Rattle.store.proofs.Parts.{dominated-lt}
use Rattle.store.proofs.Viewing.{opened-formed}
use Rattle.order.specs.Refs.{Refers, slot_of, element_of, refers, Runs, Takes}

module _ (s : ℕ) (b : List ℕ) (r : ℕ) (t : T (refers s b r)) where
  pub ref-dominated : T (dominates s (r / 32))
  unfolding refers
  ref-dominated = and_l (dominates s (r / 32)) (ltb (r % 32) (count (partition (r / 32) b))) t

  pub ref-label : r / 32 < 32
  ref-label = dominated-lt s (r / 32) ref-dominated

  ref-used : r % 32 < count (partition (r / 32) b)
  unfolding refers
  ref-used = ltb_yes (and_r (dominates s (r / 32)) (ltb (r % 32) (count (partition (r / 32) b))) t)

  module _ {x : List ℕ} (p : x ≡ partition (r / 32) b) {j : ℕ} (i : j ≡ r % 32) where
    -- the slot that is read is used
    pub ref-lent : j < count x
    ref-lent = rw (p, i) ref-used

    -- and it is the one named
    pub ref-slot : {y : List ℕ} → y ≡ slot_at x j → y ≡ slot_of b r
    unfolding slot_of
    ref-slot q = q ∙ ap₂ slot_at p i

  -- and it holds a valid element of the label
  pub ref-valid : Opened b s → T (valid_element (r / 32) (element_of b r))
  unfolding element_of slot_of
  ref-valid o =
      let f : Formed (partition (r / 32) b) = record { label = r / 32; is = opened-formed o (r / 32) ref-dominated } in
      formed-valid f (r % 32) (omega (arith, ref-used))

-- ---- which of two runs has the next element

pub get_d-in : {B : Type 0} (f : ℕ → B) (l : List ℕ) (i : ℕ) → i < length l → f (get_or l i 0) ∈ map f l
get_d-in f [] i h = absurd (omega arith)
get_d-in f (x ∷ l) zero h = Memᴰ.head refl
get_d-in f (x ∷ l) (suc i) h = Memᴰ.tail (get_d-in f l i (omega arith))

module _ {s : ℕ} {b xs ys : List ℕ} (u : Runs s b xs ys) where
  module _ {i j : ℕ} where
    -- both have one: the slots are compared
    pub by_order : i < length xs → j < length ys → {x y : List ℕ} → x ≡ slot_of b (get_or xs i 0) → y ≡ slot_of b (get_or ys j 0)
        → {n : ℕ} {t : Bool} → Compared (read_path x) (read_path y) n t → Takes b xs i ys j t
    unfolding element_of read_slot
    by_order h k p q {n} {t} m =
        let e : t ≡ is_before (element_of b (get_or xs i 0)).path (element_of b (get_or ys j 0)).path =
        m.before-is ∙ ap₂ (λ (l o : List ℕ). is_before (read_path l) (read_path o)) p q in
        record {
          first = λ d. (h, λ l. rw (sym e ∙ d) tt);
          second = λ d. (k, λ l. later (sym e ∙ d));
        }
      where
        later : is_before (element_of b (get_or xs i 0)).path (element_of b (get_or ys j 0)).path ≡ false
            → T (is_before (element_of b (get_or ys j 0)).path (element_of b (get_or xs i 0)).path)
        later e =
            decide (is_before (element_of b (get_or ys j 0)).path (element_of b (get_or xs i 0)).path)
            (λ (a : T (is_before (element_of b (get_or ys j 0)).path (element_of b (get_or xs i 0)).path)). a)
            (λ (a : T (not (is_before (element_of b (get_or ys j 0)).path (element_of b (get_or xs i 0)).path))).
            absurd (u.apart (element_of b (get_or xs i 0)) (element_of b (get_or ys j 0)) (get_d-in (element_of b) xs i h) (get_d-in (element_of b) ys j k)
            (precedes-total (path_rank (element_of b (get_or xs i 0)).path) (path_rank (element_of b (get_or ys j 0)).path) (rw e tt) a)))

-- ---- the references behind the first n are not used

-- of at most 32 labels with 32 elements each
pub first-few : {n k : ℕ} (rs : List ℕ) → n ≤ 32 * k → k ≤ 32 → length (take n rs) ≤ 1024
first-few {n} rs h g =
    let l : length (take n rs) ≡ min n (length rs) = length-take n rs in
    omega arith

pub first-refs : {s : ℕ} {b : List ℕ} {es : List Element} (n : ℕ) (rs : List ℕ) → n ≤ 1024 → Refers s b (take n rs) es
    → (length (take n rs) ≤ 1024) × Refers s b (take n rs) es
first-refs n rs h r = (first-few {k = 32} rs h (omega arith), r)
