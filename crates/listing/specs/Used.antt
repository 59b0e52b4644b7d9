-- Slots that hold elements, and the lines of one.
use Rattle.std.specs.Prelude.{◌≡◌, List, [], ◌∷◌, ℕ, length, drop, T}
use Rattle.model.specs.Lists.{gather}
use Rattle.model.specs.Path.{prefixes}
use Rattle.model.specs.Element.{valid_element}
use Rattle.model.specs.Slot.{slot_size, read_path, read_slot}
use Rattle.model.specs.View.{path_line}

-- a slot that holds a valid element
pub record Used (b : List ℕ) : Type 0 where
  pub size : length b ≡ slot_size
  pub label : ℕ
  pub valid : T (valid_element label (read_slot b))

-- the lines of the prefixes of a slot's path that have more than d steps
abbrev pub lines_from : ℕ → List ℕ → List ℕ
lines_from d b = gather (path_line (read_slot b ∷ [])) (drop d (prefixes (read_path b)))
