-- `skips::skip`: the bytes passed over leave some elements open.
use Rattle.siblings.proofs.Passing.{Passed}
use Rattle.siblings.proofs.skips.skip.Given as goal

abbrev pub invariant-loop-i : goal.invariant-loop-i
invariant-loop-i l = Passed l.text l.at l.i l.depth
