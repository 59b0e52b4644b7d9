-- `partition::take_out`: the slots behind move up, zeros come in, and the count falls.
use native.Mathlib.Omega.{arith}
use Rattle.partition.proofs.Finding.{facts}
use Rattle.partition.proofs.Layouts.{lent-size, taken_out}
use Rattle.partition.proofs.take_out.Goals as goal

pub bounds-part-0 : goal.bounds-part-0
bounds-part-0 c = omega (arith, facts c.requires.0)

pub overflow_mul-start : goal.overflow_mul-start
overflow_mul-start c = omega (arith, facts c.requires.0)

pub overflow_add-start : goal.overflow_add-start
overflow_add-start c = omega (arith, facts c.requires.0)

pub slice_bounds-shift_down-count : goal.slice_bounds-shift_down-count
slice_bounds-shift_down-count c = omega (arith, facts c.requires.0)

pub slice_bounds-shift_down-start : goal.slice_bounds-shift_down-start
slice_bounds-shift_down-start c = omega (arith, facts c.requires.0)

pub slice_bounds-shift_down-end : goal.slice_bounds-shift_down-end
slice_bounds-shift_down-end c = omega (arith, facts c.requires.0)

pub overflow_mul-k : goal.overflow_mul-k
overflow_mul-k c = omega (arith, facts c.requires.0)

pub shift_down-requires : goal.shift_down-requires
shift_down-requires c = omega (arith, lent-size c.requires.0 c.args.at (omega (arith, c.requires.1)), c.requires.1, (facts c.requires.0).few)

pub bounds-part-0-2 : goal.bounds-part-0-2
bounds-part-0-2 c = omega (arith, (facts c.requires.0).size, c.part-1.given)

pub returns : goal.returns
returns c = taken_out c.requires.0 _ _ c.requires.1 c.shift_down.ensures
