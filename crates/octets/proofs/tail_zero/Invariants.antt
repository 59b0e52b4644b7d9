-- `octets::tail_zero` meets its contract. Assumes nothing.
use Prim.Native.Nat.{◌-◌}
use lib.ListN.{length, drop}
use lib.Dec.{eqb}
use Rattle.octets.proofs.Tests.{Tested}
use Rattle.octets.proofs.tail_zero.Given as goal

abbrev pub invariant-loop-i : goal.invariant-loop-i
invariant-loop-i l = Tested (λ x. eqb x 0) (drop l.from l.s) (eqb l.acc 0) (l.i - l.from)

abbrev pub decreases-loop-i : goal.decreases-loop-i
decreases-loop-i l = length l.s - l.i
