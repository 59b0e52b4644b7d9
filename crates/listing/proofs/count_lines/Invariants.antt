-- `listing::count_lines`: the lines counted, and those of the references left, are all.
use Rattle.model.specs.Path.{steps_of}
use Rattle.listing.proofs.Walking.{Counting}
use Rattle.listing.proofs.count_lines.Given as goal

abbrev pub invariant-loop-i : goal.invariant-loop-i
invariant-loop-i l = Counting l.seen.reader.subject l.seen.reader.store.now (steps_of l.seen.path.now) l.seen.refs.now l.lines l.i
