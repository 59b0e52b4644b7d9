-- `sorting::back_from`: the slots from j on do not come before slot i.
use Rattle.sorting.proofs.Places.{Backing}
use Rattle.sorting.proofs.back_from.Given as goal

abbrev pub invariant-loop-j : goal.invariant-loop-j
invariant-loop-j l = Backing l.part l.i l.from l.j
