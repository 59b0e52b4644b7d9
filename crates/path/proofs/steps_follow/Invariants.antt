-- `path::steps_follow`: what is left of the steps follows if the whole does.
use Prim.Native.Nat.{◌/◌}
use lib.ListN.{length}
use Rattle.model.specs.Path.{steps_of}
use Rattle.path.specs.Steps.{lent_step, all_follow}
use Rattle.path.proofs.Steps.{Following}
use Rattle.path.proofs.steps_follow.Given as goal

abbrev pub invariant-loop-i : goal.invariant-loop-i
invariant-loop-i l = Following (lent_step l.path) (all_follow 0 (steps_of l.path)) (length l.path / 3) l.before l.i
