-- A partition's bytes: a well-formed partition is the layout of the set it is read as, and a valid set is read back from its
-- layout, which is well formed. So well-formedness, stated byte by byte, has a shorter equal form.
use mathlib.Core.Path.{◌≡◌, refl, sym, ap, ap₂, ◌∙◌}
use mathlib.Core.Bool.{Bool, ◌&&◌}
use mathlib.Core.List.{List, [], ◌∷◌, ◌++◌, map, append_assoc, append-nil}
use Prim.Native.Nat.{ℕ, zero, suc, ◌+◌, ◌-◌, ◌*◌, ◌≤◌, ◌<◌}
use native.Mathlib.Omega.{arith}
use lib.ListN.{length, take, drop, replicate, length-append, length-map}
use lib.Seq.{take_at, drop_at, drop-drop}
use lib.Dec.{T, eqb, leb}
use mir.Facts.{eqb_yes, leb_yes, yes_eqb, yes_leb}
use Rattle.model.specs.Lists.{all, gather, range, is_byte, all_zero, same_bytes, between, pad}
use Rattle.model.specs.Sets.{ascending}
use Rattle.model.specs.Path.{Step, keys}
use Rattle.model.specs.Element.{Element, valid_element, closed}
use Rattle.model.specs.Slot.{slot_size, slot_bytes, read_slot, unused_zero}
use Rattle.model.specs.Partition.{slots_at, partition_size, layout, count, slot_start, slot_at, slots, read_partition, well_formed_by}
use Rattle.model.proofs.Bools.{and_l, and_r, both, same_test}
use Rattle.model.proofs.Lists.{same_bytes-eq, same_bytes-refl, all_take, all_drop, length-pad, pad-short, Bytes, bytes_one}
use Rattle.model.proofs.Lists.{bytes-append, bytes-pad, length-between, between_none, between-one, between-all, joins, zeros-behind, pad-between, length-range}
use Rattle.model.proofs.Slots.{valid-fits, length-slot, read-slot, slot-forth, slot-unused, slot-bytes}

-- ---- well-formedness and validity, fact by fact

-- a set that partition n may hold, in the order of a key
unfoldable pub valid_set_by : (Step → List ℕ) → ℕ → List Element → Bool
valid_set_by k n es = leb (length es) 32 && all (valid_element n) es && ascending (λ e. keys k e.path) es && closed n es

pub record WellFormed (k : Step → List ℕ) (n : ℕ) (b : List ℕ) : Type 0 where
  pub size : length b ≡ partition_size
  pub bytes : T (all is_byte b)
  pub few : count b ≤ 32
  pub valid : T (all (valid_element n) (read_partition b))
  pub unused : T (all unused_zero (slots b))
  pub ascends : T (ascending (λ e. keys k e.path) (read_partition b))
  pub spare : T (all_zero (between (slot_start (count b)) partition_size b))
  pub head : T (all_zero (between 1 slots_at b))
  pub closes : T (closed n (read_partition b))

pub record ValidSet (k : Step → List ℕ) (n : ℕ) (es : List Element) : Type 0 where
  pub few : length es ≤ 32
  pub valid : T (all (valid_element n) es)
  pub ascends : T (ascending (λ e. keys k e.path) es)
  pub closes : T (closed n es)

module _ (k : Step → List ℕ) (n : ℕ) where
  pub well-formed : (b : List ℕ) → T (well_formed_by k n b) → WellFormed k n b
  unfolding well_formed_by
  well-formed b t =
      record {
        size = eqb_yes (search (and_l, and_r) depth 9);
        bytes = search (and_l, and_r) depth 9;
        few = leb_yes (search (and_l, and_r) depth 9);
        valid = search (and_l, and_r) depth 9;
        unused = search (and_l, and_r) depth 9;
        ascends = search (and_l, and_r) depth 9;
        spare = search (and_l, and_r) depth 9;
        head = search (and_l, and_r) depth 9;
        closes = search (and_l, and_r) depth 9;
      }

  pub yes-well-formed : (b : List ℕ) → WellFormed k n b → T (well_formed_by k n b)
  unfolding well_formed_by
  yes-well-formed b f =
      let size : T (eqb (length b) partition_size) = yes_eqb f.size in
      let bytes : T (all is_byte b) = f.bytes in
      let few : T (leb (count b) 32) = yes_leb f.few in
      let valid : T (all (valid_element n) (read_partition b)) = f.valid in
      let unused : T (all unused_zero (slots b)) = f.unused in
      let ascends : T (ascending (λ e. keys k e.path) (read_partition b)) = f.ascends in
      let spare : T (all_zero (between (slot_start (count b)) partition_size b)) = f.spare in
      let head : T (all_zero (between 1 slots_at b)) = f.head in
      let closes : T (closed n (read_partition b)) = f.closes in
      search both depth 9

  pub valid-set : (es : List Element) → T (valid_set_by k n es) → ValidSet k n es
  unfolding valid_set_by
  valid-set es t =
      record {
        few = leb_yes (search (and_l, and_r));
        valid = search (and_l, and_r);
        ascends = search (and_l, and_r);
        closes = search (and_l, and_r);
      }

  pub yes-valid-set : (es : List Element) → ValidSet k n es → T (valid_set_by k n es)
  unfolding valid_set_by
  yes-valid-set es f =
      let few : T (leb (length es) 32) = yes_leb f.few in
      let valid : T (all (valid_element n) es) = f.valid in
      let ascends : T (ascending (λ e. keys k e.path) es) = f.ascends in
      let closes : T (closed n es) = f.closes in
      search both

-- ---- a set laid out

module _ (es : List Element) where
  pub length-layout : length (layout es) ≡ 1284
  unfolding layout pad
  length-layout = ap (λ (n : ℕ). suc (suc (suc (suc n)))) (length-pad 1280 (gather slot_bytes es))

  pub count-layout : count (layout es) ≡ length es
  unfolding layout pad
  count-layout = refl

  at_slots : drop slots_at (layout es) ≡ pad 1280 (gather slot_bytes es)
  unfolding layout pad
  at_slots = refl

pub length-slots : (es : List Element) → length (gather slot_bytes es) ≡ slot_size * length es
length-slots [] = refl
length-slots (e ∷ es) =
    let h : length (gather slot_bytes es) ≡ slot_size * length es = length-slots es in
    length-append (slot_bytes e) (gather slot_bytes es) ∙ omega (arith, length-slot e)

-- the slots that begin at slot i's place
read-slots : (b : List ℕ) (es : List Element) (i : ℕ) (z : List ℕ) → drop (slot_start i) b ≡ gather slot_bytes es ++ z
    → range (slot_at b) i (length es) ≡ map slot_bytes es
read-slots b [] i z h = refl
read-slots b (e ∷ es) i z h =
    let g : drop (slot_start i) b ≡ slot_bytes e ++ (gather slot_bytes es ++ z) = h ∙ append_assoc (slot_bytes e) (gather slot_bytes es) z in
    let w : slot_start i + slot_size - slot_start i ≡ slot_size = omega arith in
    let s : slot_start i + slot_size ≡ slot_start (suc i) = omega arith in
    ap₂ (λ (x : List ℕ) (l : List (List ℕ)). x ∷ l)
    (ap₂ (λ (m : ℕ) (l : List ℕ). take m l) w g ∙ take_at (slot_bytes e) _ slot_size (length-slot e))
    (read-slots b es (suc i) z
    (ap (λ (m : ℕ). drop m b) (sym s) ∙ sym (drop-drop slot_size (slot_start i) b) ∙ ap (drop slot_size) g ∙ drop_at (slot_bytes e) _ slot_size (length-slot e)))

module _ (n : ℕ) where
  read_all : (es : List Element) → T (all (valid_element n) es) → map read_slot (map slot_bytes es) ≡ es
  read_all [] t = refl
  read_all (e ∷ es) t =
      ap₂ (λ (x : Element) (l : List Element). x ∷ l) (read-slot e (valid-fits n e (and_l (valid_element n e) (all (valid_element n) es) t)))
      (read_all es (and_r (valid_element n e) (all (valid_element n) es) t))

  unused-all : (es : List Element) → T (all (valid_element n) es) → T (all unused_zero (map slot_bytes es))
  unused-all [] t = tt
  unused-all (e ∷ es) t =
      both (unused_zero (slot_bytes e)) (all unused_zero (map slot_bytes es))
      (slot-unused e (valid-fits n e (and_l (valid_element n e) (all (valid_element n) es) t)))
      (unused-all es (and_r (valid_element n e) (all (valid_element n) es) t))

  bytes-all : (es : List Element) → T (all (valid_element n) es) → Bytes (gather slot_bytes es)
  bytes-all [] t = record { bytes = tt }
  bytes-all (e ∷ es) t =
      bytes-append (slot-bytes n e (and_l (valid_element n e) (all (valid_element n) es) t)) (bytes-all es (and_r (valid_element n e) (all (valid_element n) es) t))

-- at most 32 valid elements, in any order
module _ (n : ℕ) (es : List Element) (few : length es ≤ 32) (valid : T (all (valid_element n) es)) where
  slots-short : length (gather slot_bytes es) ≤ 1280
  slots-short = rw length-slots (omega arith)

  slots-behind : drop slots_at (layout es) ≡ gather slot_bytes es ++ (replicate (1280 - length (gather slot_bytes es)) 0 ++ [])
  slots-behind = at_slots es ∙ pad-short 1280 (gather slot_bytes es) slots-short ∙ sym (ap (λ (l : List ℕ). gather slot_bytes es ++ l) (append-nil _))

  slots-layout : slots (layout es) ≡ map slot_bytes es
  unfolding slots
  slots-layout = ap (range (slot_at (layout es)) 0) (count-layout es) ∙ read-slots (layout es) es 0 _ slots-behind

  -- they are read back from their layout
  pub read-elements : read_partition (layout es) ≡ es
  unfolding read_partition
  read-elements = ap (map read_slot) slots-layout ∙ read_all n es valid

  layout-bytes : Bytes (layout es)
  unfolding layout
  layout-bytes =
      let h : length es < 256 = omega arith in
      let none : Bytes [] = record { bytes = tt } in
      bytes-append (bytes-append (bytes-pad 1 (bytes_one h)) (bytes-pad 3 none)) (bytes-pad 1280 (bytes-all n es valid))

module _ (k : Step → List ℕ) (n : ℕ) (es : List Element) (f : ValidSet k n es) where
  -- a valid set is read back from its layout
  pub read-layout : read_partition (layout es) ≡ es
  read-layout = read-elements n es f.few f.valid

  pub layout-well-formed : WellFormed k n (layout es)
  unfolding layout pad
  layout-well-formed =
      record {
        size = length-layout es;
        bytes = (layout-bytes n es f.few f.valid).bytes;
        few = rw (count-layout es) f.few;
        valid = rw read-layout f.valid;
        unused = rw (slots-layout n es f.few f.valid) (unused-all n es f.valid);
        ascends = rw read-layout f.ascends;
        spare =
            rw (count-layout es)
            (zeros-behind (layout es) slots_at (1280 - length (gather slot_bytes es)) (gather slot_bytes es) [] (slots-behind n es f.few f.valid)
            (slot_start (length es)) partition_size (rw length-slots) (rw length-slots (omega (arith, f.few))));
        head = tt;
        closes = rw read-layout f.closes;
      }

-- ---- and read from well-formed bytes

module _ (n : ℕ) (b : List ℕ) (bytes : T (all is_byte b)) where
  one-forth : (i : ℕ) → slot_start i + slot_size ≤ length b → T (valid_element n (read_slot (slot_at b i))) → T (unused_zero (slot_at b i))
      → slot_bytes (read_slot (slot_at b i)) ≡ slot_at b i
  one-forth i h v u =
      slot-forth (slot_at b i) (length-between (slot_start i) (slot_start i + slot_size) b (omega arith) h ∙ omega arith)
      (all_take is_byte (slot_start i + slot_size - slot_start i) (drop (slot_start i) b) (all_drop is_byte (slot_start i) b bytes))
      (valid-fits n (read_slot (slot_at b i)) v) u

  slots-forth : (c i : ℕ) → slot_start (i + c) ≤ length b → T (all (valid_element n) (map read_slot (range (slot_at b) i c)))
      → T (all unused_zero (range (slot_at b) i c)) → gather slot_bytes (map read_slot (range (slot_at b) i c)) ≡ between (slot_start i) (slot_start (i + c)) b
  slots-forth zero i h v u = sym (between_none (slot_start i) (slot_start (i + 0)) b (omega arith))
  slots-forth (suc c) i h v u =
      let x : Element = read_slot (slot_at b i) in
      let more : List Element = map read_slot (range (slot_at b) (suc i) c) in
      let e : suc i + c ≡ i + suc c = omega arith in
      let s : slot_start (suc i) ≡ slot_start i + slot_size = omega arith in
      joins (slot_start i) (slot_start i + slot_size) (slot_start (i + suc c)) b (omega arith) (omega arith)
      (one-forth i (omega arith) (and_l (valid_element n x) (all (valid_element n) more) v)
      (and_l (unused_zero (slot_at b i)) (all unused_zero (range (slot_at b) (suc i) c)) u))
      (slots-forth c (suc i) (omega arith) (and_r (valid_element n x) (all (valid_element n) more) v)
      (and_r (unused_zero (slot_at b i)) (all unused_zero (range (slot_at b) (suc i) c)) u)
      ∙ ap₂ (λ (y z : ℕ). between y (slot_start z) b) s e)

module _ (k : Step → List ℕ) (n : ℕ) (b : List ℕ) (f : WellFormed k n b) where
  length-read : length (read_partition b) ≡ count b
  unfolding read_partition slots
  length-read = length-map (slots b) read_slot ∙ length-range (slot_at b) 0 (count b)

  -- a well-formed partition is the layout of what is read from it
  pub layout-read : layout (read_partition b) ≡ b
  unfolding layout pad read_partition slots
  layout-read =
      let c : count b ≤ 32 = f.few in
      let z : length b ≡ 1284 = f.size in
      let o : 0 + count b ≡ count b = omega arith in
      joins 0 slots_at partition_size b (omega arith) (omega arith)
      (joins 0 1 slots_at b (omega arith) (omega arith)
      (ap (λ (m : ℕ). m ∷ []) length-read ∙ sym (between-one 0 b (omega arith)))
      (pad-between 1 1 slots_at b (omega arith) (omega arith) (omega arith) f.head))
      (ap (pad 1280) (slots-forth n b f.bytes (count b) 0 (omega arith) f.valid f.unused ∙ ap (λ (m : ℕ). between slots_at (slot_start m) b) o)
      ∙ pad-between slots_at (slot_start (count b)) partition_size b (omega arith) (omega arith) (omega arith) f.spare)
      ∙ between-all partition_size b z

  -- which is a valid set
  pub read-valid : ValidSet k n (read_partition b)
  read-valid = record { few = rw length-read f.few; valid = f.valid; ascends = f.ascends; closes = f.closes }

-- ---- the shorter form

-- a valid set laid out: the bytes are those of the set that they are read as
unfoldable pub laid_out_by : (Step → List ℕ) → ℕ → List ℕ → Bool
laid_out_by k n b = valid_set_by k n (read_partition b) && same_bytes (layout (read_partition b)) b

pub well-formed-laid-out : (k : Step → List ℕ) (n : ℕ) (b : List ℕ) → well_formed_by k n b ≡ laid_out_by k n b
unfolding laid_out_by
well-formed-laid-out k n b =
    same_test (well_formed_by k n b) (laid_out_by k n b)
    (λ (t : T (well_formed_by k n b)).
    let f : WellFormed k n b = well-formed k n b t in
    both (valid_set_by k n (read_partition b)) (same_bytes (layout (read_partition b)) b)
    (yes-valid-set k n (read_partition b) (read-valid k n b f)) (rw (layout-read k n b f) (same_bytes-refl b)))
    (λ (t : T (laid_out_by k n b)).
    let v : ValidSet k n (read_partition b) = valid-set k n (read_partition b) (search (and_l, and_r)) in
    let e : layout (read_partition b) ≡ b = same_bytes-eq (layout (read_partition b)) b (search (and_l, and_r)) in
    yes-well-formed k n b (rw e at (layout-well-formed k n (read_partition b) v)))
