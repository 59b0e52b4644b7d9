-- A slot (document 01: a place): the 40 bytes of one element (document 01, "The store's bytes").
use Rattle.std.specs.Prelude.{Bool, ◌&&◌, List, [], ◌∷◌, ◌++◌, map, ℕ, ◌+◌, ◌-◌, ◌*◌, ◌/◌, ◌%◌, length, get_or}
use Rattle.model.specs.Lists.{gather, range, all_zero, between, pad}
use Rattle.model.specs.Path.{Step}
use Rattle.model.specs.Value.{Content}
use Rattle.model.specs.Element.{Element}

-- ---- where each field begins; each ends where the next begins

-- byte 0: the depth
abbrev pub depth_at : ℕ
depth_at = 0

-- 1 to 12: six names of two bytes, lowest first
abbrev pub names_at : ℕ
names_at = 1

-- 13 to 18: six labels
abbrev pub labels_at : ℕ
labels_at = 13

-- 19: the kind
abbrev pub kind_at : ℕ
kind_at = 19

-- 20: the value's length
abbrev pub length_at : ℕ
length_at = 20

-- 21 to 36: the value
abbrev pub value_at : ℕ
value_at = 21

-- 37 to 39: zero
abbrev pub spare_at : ℕ
spare_at = 37

abbrev pub slot_size : ℕ
slot_size = 40

-- ---- an element laid out

-- the bytes a to e - 1: those of l, then zeros
abbrev pub field : ℕ → ℕ → List ℕ → List ℕ
field a e l = pad (e - a) l

abbrev pub name_bytes : Step → List ℕ
name_bytes a = a.name % 256 ∷ a.name / 256 ∷ []

unfoldable pub path_bytes : List Step → List ℕ
path_bytes p =
    field depth_at names_at (length p ∷ [])
    ++ field names_at labels_at (gather name_bytes p)
    ++ field labels_at kind_at (map (λ a. a.label) p)

unfoldable pub content_bytes : Content → List ℕ
content_bytes c =
    field kind_at length_at (c.kind ∷ [])
    ++ field length_at value_at (length c.value ∷ [])
    ++ field value_at spare_at c.value
    ++ field spare_at slot_size []

unfoldable pub slot_bytes : Element → List ℕ
slot_bytes e = path_bytes e.path ++ content_bytes e.content

-- ---- and read

abbrev pub depth : List ℕ → ℕ
depth b = get_or b depth_at 0

abbrev pub step_at : List ℕ → ℕ → Step
step_at b i = record { name = get_or b (names_at + 2 * i) 0 + 256 * get_or b (names_at + 2 * i + 1) 0; label = get_or b (labels_at + i) 0 }

abbrev pub value_length : List ℕ → ℕ
value_length b = get_or b length_at 0

unfoldable pub read_path : List ℕ → List Step
read_path b = range (step_at b) 0 (depth b)

unfoldable pub read_content : List ℕ → Content
read_content b = record { kind = get_or b kind_at 0; value = between value_at (value_at + value_length b) b }

unfoldable pub read_slot : List ℕ → Element
read_slot b = record { path = read_path b; content = read_content b }

-- the bytes for steps and value that are not used, and the last three, are zero
unfoldable pub unused_zero : List ℕ → Bool
unused_zero b =
    all_zero (between (names_at + 2 * depth b) labels_at b)
    && all_zero (between (labels_at + depth b) kind_at b)
    && all_zero (between (value_at + value_length b) spare_at b)
    && all_zero (between spare_at slot_size b)
