-- `sorting::move_behind`: the slots from i on, up to slot to, are turned.
use native.Mathlib.Omega.{arith}
use Rattle.sorting.proofs.Places.{laid-size}
use Rattle.sorting.proofs.Moving.{part_filled, moved-bytes}
use Rattle.sorting.proofs.move_behind.Goals as goal

pub overflow_mul-start : goal.overflow_mul-start
overflow_mul-start c = omega (arith, c.requires.0.few, c.requires)

pub overflow_add-start : goal.overflow_add-start
overflow_add-start c = omega (arith, c.requires.0.few, c.requires)

pub overflow_mul-end : goal.overflow_mul-end
overflow_mul-end c = omega (arith, c.requires.0.few, c.requires)

pub overflow_add-end : goal.overflow_add-end
overflow_add-end c = omega (arith, c.requires.0.few, c.requires)

pub slice_bounds-turn-end : goal.slice_bounds-turn-end
slice_bounds-turn-end c = omega (arith, laid-size c.requires.0, c.requires.0.few, c.requires.2)

pub turn-requires : goal.turn-requires
turn-requires c = part_filled c.requires.0 _ _ c.requires.1 c.requires.2

pub returns : goal.returns
returns c = moved-bytes c.requires.0 _ _ c.requires.1 c.requires.2 c.turn.ensures
