-- Slots as the code takes them.
use Rattle.std.specs.Prelude.{◌≡◌, List, ℕ, ◌≤◌, length}
use Rattle.model.specs.Slot.{slot_size, depth}

-- a slot whose path has at most six steps
pub record Readable (b : List ℕ) : Type 0 where
  pub size : length b ≡ slot_size
  pub steps : depth b ≤ 6
