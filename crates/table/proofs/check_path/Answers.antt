-- `table::check_path`: the path.
use mathlib.Core.List.{[], ◌∷◌}
use Rattle.model.specs.Rows.{row}
use Rattle.model.proofs.Rows.{row-applies, rows_end}
use Rattle.table.proofs.Walking.{failed, held}
use Rattle.table.proofs.check_path.Goals as goal

pub returns-then-not-is_path : goal.returns-then-not-is_path
returns-then-not-is_path c = row-applies _ _ (failed c.is_path.ensures c.if-not-is_path.true)

pub returns : goal.returns
returns c = rows_end (row 4 _ ∷ []) (held c.is_path.ensures c.if-not-is_path.false, tt)
