-- `order::occupied`: over the labels up to the subject.
use Rattle.model.specs.Path.{steps_of}
use Rattle.order.proofs.Occupying.{Filled}
use Rattle.order.proofs.occupied.occupied.Given as goal

abbrev pub invariant-loop-n : goal.invariant-loop-n
invariant-loop-n l = Filled l.reader.subject l.reader.store.now (steps_of l.path) l.initial.found l.found l.k l.n
