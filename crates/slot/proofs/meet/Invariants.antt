-- `slot::meet`: the paths agree up to i.
use Rattle.path.proofs.Common.{Sharing}
use Rattle.slot.proofs.meet.Given as goal

abbrev pub invariant-loop-i : goal.invariant-loop-i
invariant-loop-i g l = Sharing g.O.StepOrder.key (g.A.HasSteps.step l.a) (g.B.HasSteps.step l.b) l.x l.y l.i
