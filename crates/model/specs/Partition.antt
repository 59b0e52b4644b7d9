-- A partition (document 01: a shelf): the 1,284 bytes of one label (document 01, "The store's bytes").
use Rattle.std.specs.Prelude.{Bool, ◌&&◌, List, [], ◌∷◌, ◌++◌, map, ℕ, ◌+◌, ◌*◌, length, get_or, eqb, leb}
use Rattle.model.specs.Lists.{all, gather, range, is_byte, all_zero, between}
use Rattle.model.specs.Sets.{ascending}
use Rattle.model.specs.Path.{Step, key, keys}
use Rattle.model.specs.Element.{Element, valid_element, closed}
use Rattle.model.specs.Slot.{slot_size, field, slot_bytes, read_slot, unused_zero}

-- one count byte, three zero bytes, then 32 slots
abbrev pub count_at : ℕ
count_at = 0

abbrev pub slots_at : ℕ
slots_at = 4

abbrev pub partition_size : ℕ
partition_size = 1284

-- ---- a set of elements laid out

unfoldable pub layout : List Element → List ℕ
layout es =
    field count_at 1 (length es ∷ [])
    ++ field 1 slots_at []
    ++ field slots_at partition_size (gather slot_bytes es)

-- ---- and read

abbrev pub count : List ℕ → ℕ
count b = get_or b count_at 0

-- where slot i begins
abbrev pub slot_start : ℕ → ℕ
slot_start i = slots_at + slot_size * i

abbrev pub slot_at : List ℕ → ℕ → List ℕ
slot_at b i = between (slot_start i) (slot_start i + slot_size) b

-- the slots that the count says are used
unfoldable pub slots : List ℕ → List (List ℕ)
slots b = range (slot_at b) 0 (count b)

unfoldable pub read_partition : List ℕ → List Element
read_partition b = map read_slot (slots b)

-- ---- well formed (document 01: sound), in the order of a key

unfoldable pub well_formed_by : (Step → List ℕ) → ℕ → List ℕ → Bool
well_formed_by k n b =
    eqb (length b) partition_size
    && all is_byte b
    && leb (count b) 32
    && all (valid_element n) (read_partition b)
    && all unused_zero (slots b)
    && ascending (λ e. keys k e.path) (read_partition b)
    && all_zero (between (slot_start (count b)) partition_size b)
    && all_zero (between 1 slots_at b)
    && closed n (read_partition b)

abbrev pub well_formed : ℕ → List ℕ → Bool
well_formed n b = well_formed_by key n b
