-- `rows::put_top`: the path is copied, and the step written behind it.
use borrow.Author.Rules.{rules}
use mathlib.Core.Path.{ap}
use mathlib.Core.List.{List, ◌++◌}
use Prim.Native.Nat.{ℕ}
use lib.ListN.{length, drop}
use Rattle.dossier_intake.proofs.Placing.{top-put}
use Rattle.dossier_intake.proofs.rows.put_top.Goals as goal

pub returns : goal.returns
returns c = rw (← c.from.ensures) (top-put _ _ _ _ c.requires.0 c.requires.1 (search rules) (ap (λ (l : List ℕ). l ++ drop (length c.args.path.now) c.args.buffer.now) c.copy_from_slice.ensures.after) c.put_step.ensures)
