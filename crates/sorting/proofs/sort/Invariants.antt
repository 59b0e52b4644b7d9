-- `sorting::sort`: from slot i on the elements are sorted.
use Rattle.sorting.proofs.Whole.{Turned}
use Rattle.sorting.proofs.sort.Given as goal

abbrev pub invariant-loop-i : goal.invariant-loop-i
invariant-loop-i l = Turned l.initial.part l.part l.i l.near
