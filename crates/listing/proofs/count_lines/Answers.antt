-- `listing::count_lines`: the lines counted, and those of the references left, are all.
use borrow.Author.Rules.{rules}
use native.Mathlib.Omega.{arith}
use Rattle.model.specs.Path.{steps_of}
use Rattle.listing.proofs.Walking.{here-new, count_next, count-few}
use Rattle.listing.proofs.count_lines.Goals as goal

pub overflow_sub-lines : goal.overflow_sub-lines
overflow_sub-lines c = omega (arith, here-new (steps_of c.args.seen.now.path.now) c.args.seen.now.refers _ c.loop-i-test.true c.slot.ensures c.shared_above.ensures, c.depth.ensures.0)

pub overflow_add-lines : goal.overflow_add-lines
overflow_add-lines c = search (rules, count-few (steps_of c.args.seen.now.path.now) c.args.seen.now.refers c.loop-i.invariant, c.depth.ensures.1, c.args.seen.now.few)

pub loop-i-preserved : goal.loop-i-preserved
loop-i-preserved c =
    count_next (steps_of c.args.seen.now.path.now) c.args.seen.now.refers c.loop-i.invariant c.loop-i-test.true c.slot.ensures c.shared_above.ensures c.depth.ensures

pub returns-clause-upper_bound : goal.returns-clause-upper_bound
returns-clause-upper_bound c = omega (arith, count-few (steps_of c.args.seen.now.path.now) c.args.seen.now.refers c.loop-i.invariant, c.args.seen.now.few)
