-- `Reader::holds_below`: dominance first, then the partition.
use Rattle.model.specs.Path.{steps_of}
use Rattle.store.proofs.Viewing.{by-below}
use Rattle.store.proofs.Reader.holds_below.Goals as goal

pub returns-then-dominates : goal.returns-then-dominates
returns-then-dominates c = by-below c.args.self.now.opened (steps_of c.args.path.now) _ c.dominates.ensures c.if-dominates.true c.partition_of.ensures c.has_below.ensures
