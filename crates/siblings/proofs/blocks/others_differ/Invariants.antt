-- `blocks::others_differ`: the elements passed have none of the keys.
use Prim.Native.Nat.{◌-◌}
use lib.ListN.{length}
use Rattle.siblings.proofs.Groups.{Cleared}
use Rattle.siblings.proofs.blocks.others_differ.Given as goal

abbrev pub invariant-loop-key : goal.invariant-loop-key
invariant-loop-key l = Cleared l.text l.at l.keys l.i

abbrev pub decreases-loop-key : goal.decreases-loop-key
decreases-loop-key l = length l.text - l.i
