-- `text_at`: the characters passed stand in the buffer.
use Prim.Native.Nat.{◌-◌}
use lib.ListN.{length}
use Rattle.scan_value.proofs.Texts.{Passed}
use Rattle.scan_value.proofs.text_at.Given as goal

abbrev pub invariant-loop-at : goal.invariant-loop-at
invariant-loop-at l = Passed l.text l.at l.initial.value l.value l.i l.n

abbrev pub decreases-loop-at : goal.decreases-loop-at
decreases-loop-at l = length l.text - l.i
