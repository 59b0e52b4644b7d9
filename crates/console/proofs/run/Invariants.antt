-- `console::run`: each turn leads on from the one before it.
use Rattle.std.proofs.Common.{◌≡◌, length}
use Rattle.console.proofs.Turning.{Running}
use Rattle.console.proofs.run.Given as goal

abbrev pub invariant-loop-turn : goal.invariant-loop-turn
invariant-loop-turn g l =
    (length l.store ≡ length l.fn.store) × Running l.fn.store l.room.line.bytes l.store l.room.out l.room.line.kept l.room.at
