-- `paths::steps_at`: the steps passed stand in the buffer.
use Prim.Native.Nat.{◌-◌, suc}
use lib.ListN.{length}
use Rattle.script.proofs.Trails.{Trail}
use Rattle.script.proofs.paths.steps_at.Given as goal

abbrev pub invariant-loop-name : goal.invariant-loop-name
invariant-loop-name l = Trail l.line l.at l.initial.path l.path l.i l.n

abbrev pub decreases-loop-name : goal.decreases-loop-name
decreases-loop-name l = suc (length l.line) - l.i
