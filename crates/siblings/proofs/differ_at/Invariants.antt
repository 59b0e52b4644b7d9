-- `differ_at`: the elements of the blocks passed differ from all.
use Prim.Native.Nat.{◌-◌}
use lib.ListN.{length}
use Rattle.siblings.proofs.Groups.{Compared}
use Rattle.siblings.proofs.differ_at.Given as goal

abbrev pub invariant-loop-n : goal.invariant-loop-n
invariant-loop-n l = Compared l.text l.at l.i

abbrev pub decreases-loop-n : goal.decreases-loop-n
decreases-loop-n l = length l.text - l.i
