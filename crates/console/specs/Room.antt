-- What stands in the room to work in.
use Rattle.std.specs.Prelude.{List, ℕ, take}
use Rattle.console.specs.declared.space.Room.{Room}

-- what is kept of the line begun
abbrev pub kept_in : Room → List ℕ
kept_in room = take room.line.kept room.line.bytes

-- the output that is not yet written
abbrev pub left_in : Room → List ℕ
left_in room = take room.at room.out
