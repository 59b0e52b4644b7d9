-- `table::check_seen`: the path, then the view.
use mathlib.Core.List.{[], ◌∷◌}
use mathlib.Core.Path.{refl}
use Rattle.model.specs.Rows.{row, view_path_rows}
use Rattle.model.proofs.Rows.{row-applies, rows_behind, rows_pass, rows_end}
use Rattle.promise.proofs.Refusing.{exit-err, err-stops}
use Rattle.table.proofs.Walking.{failed, held}
use Rattle.table.proofs.look.check_seen.Goals as goal

pub returns-in_err-check_view_path : goal.returns-in_err-check_view_path
returns-in_err-check_view_path c = rw (exit-err c.from_residual.ensures.1) (err-stops (view_path_rows _) _ _ c.in_err-check_view_path.ensures)

pub returns-then-not-in_view : goal.returns-then-not-in_view
returns-then-not-in_view c =
    rows_behind (view_path_rows _) _ (rows_pass (view_path_rows _) tt c.in_ok-check_view_path.ensures refl) (row-applies _ _ (failed c.in_view.ensures c.if-not-in_view.true))

pub returns : goal.returns
returns c =
    rows_end (row 4 _ ∷ row 7 _ ∷ []) ((rows_pass (view_path_rows _) tt c.in_ok-check_view_path.ensures refl).0, (held c.in_view.ensures c.if-not-in_view.false, tt))
