-- `reach::steps_before`: none of the steps before step i bears the label.
use Prim.Native.Nat.{◌/◌}
use lib.ListN.{length}
use Rattle.model.specs.Path.{steps_of}
use Rattle.path.specs.Steps.{lent_step}
use Rattle.reach.specs.Before.{steps_before}
use Rattle.reach.proofs.Before.{Passed}
use Rattle.reach.proofs.steps_before.Given as goal

abbrev pub invariant-loop-i : goal.invariant-loop-i
invariant-loop-i l = Passed (lent_step l.path) l.label (steps_before l.label (steps_of l.path)) (length l.path / 3) l.i
