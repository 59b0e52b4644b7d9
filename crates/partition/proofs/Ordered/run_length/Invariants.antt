-- `Ordered::run_length`: the slots from at to i have the path or extend it.
use Rattle.model.specs.Path.{steps_of}
use Rattle.partition.proofs.Finding.{Running}
use Rattle.partition.proofs.Ordered.run_length.Given as goal

abbrev pub invariant-loop-i : goal.invariant-loop-i
invariant-loop-i l = Running l.self.bytes.now (steps_of l.path) l.at l.c l.i
