-- `Partition::slots_good`: what is left from slot i on is good if the whole is.
use Rattle.partition.proofs.Checking.{Linking}
use Rattle.partition.proofs.Partition.slots_good.Given as goal

abbrev pub invariant-loop-i : goal.invariant-loop-i
invariant-loop-i g l = Linking g.O.StepOrder.key l.self.bytes.now l.n l.c l.i
