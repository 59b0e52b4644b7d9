-- `listing::put_walk`: what is left of the walk, laid over what was written, gives the whole.
use mathlib.Core.Path.{◌≡◌}
use Rattle.model.specs.Path.{steps_of}
use Rattle.listing.proofs.Walking.{Walking}
use Rattle.listing.proofs.put_walk.Given as goal

abbrev pub invariant-loop-i : goal.invariant-loop-i
invariant-loop-i l =
    (l.out.bytes.ghost_name ≡ l.initial.out.bytes.ghost_name)
    × Walking l.seen.reader.subject l.seen.reader.store.now (steps_of l.seen.path.now) l.seen.refs.now l.initial.out.bytes.now l.initial.out.at l.out.bytes.now l.out.at l.i
