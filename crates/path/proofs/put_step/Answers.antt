-- `path::put_step`: three bytes are written.
use native.Mathlib.Omega.{arith}
use lib.ListN.{length-set}
use Rattle.path.proofs.put_step.Goals as goal

pub bounds-buffer-n-2 : goal.bounds-buffer-n-2
bounds-buffer-n-2 c = simp length-set (omega arith)

pub bounds-buffer-n-3 : goal.bounds-buffer-n-3
bounds-buffer-n-3 c = simp length-set (omega arith)
