-- `Ordered::find_near`: the elements before slot i come before the path.
use Rattle.model.specs.Path.{steps_of}
use Rattle.partition.proofs.Finding.{Finding}
use Rattle.partition.proofs.Ordered.find_near.Given as goal

abbrev pub invariant-loop-i : goal.invariant-loop-i
invariant-loop-i l = Finding l.self.bytes.now (steps_of l.path) l.c l.i
