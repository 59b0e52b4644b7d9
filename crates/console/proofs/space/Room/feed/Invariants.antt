-- `console::space::Room::feed`: each line leads on from the one before it.
use Rattle.std.proofs.Common.{◌≡◌, ◌-◌, length}
use Rattle.console.specs.Turns.{TakenUpTo}
use Rattle.console.specs.Room.{kept_in, left_in}
use Rattle.console.proofs.space.Room.feed.Given as goal

abbrev pub invariant-loop-from : goal.invariant-loop-from
invariant-loop-from g l =
    (length l.store ≡ length l.fn.store)
    × TakenUpTo (kept_in l.fn.self) l.fn.store (left_in l.fn.self) l.input l.from (kept_in l.self) l.store (left_in l.self)

abbrev pub decreases-loop-from : goal.decreases-loop-from
decreases-loop-from g l = length l.input - l.from
