-- `sorting::forth_from`: the slots before slot j come before slot i.
use Rattle.sorting.proofs.Places.{Forward}
use Rattle.sorting.proofs.forth_from.Given as goal

abbrev pub invariant-loop-j : goal.invariant-loop-j
invariant-loop-j l = Forward l.part l.i l.j
