-- `table::check_brought`: the path, then the kind and the value.
use mathlib.Core.List.{[], ◌∷◌}
use mathlib.Core.Path.{refl, ap, ◌∙◌}
use Rattle.model.specs.Value.{allowed}
use Rattle.model.specs.Rows.{row, path_rows}
use Rattle.model.proofs.Rows.{row-applies, rows_behind, rows_pass, rows_end}
use Rattle.kind.proofs.Rules.{unknown-kind}
use Rattle.promise.proofs.Refusing.{exit-err, err-stops}
use Rattle.table.proofs.Walking.{failed, held, brings}
use Rattle.table.proofs.check_brought.Goals as goal

pub returns-in_err-check_path-clause-refused : goal.returns-in_err-check_path-clause-refused
returns-in_err-check_path-clause-refused c = rw (exit-err c.from_residual.ensures.1) (err-stops (path_rows _) _ _ c.in_err-check_path.ensures)

pub returns-in-Ok-clause-refused : goal.returns-in-Ok-clause-refused
returns-in-Ok-clause-refused c =
    let brought = brings (record { kind = c.args.kind; value = c.args.value.now }) (c.allows.ensures ∙ ap (λ k. allowed k c.args.value.now) c.in-Ok.ensures) in
    rows_end (row 4 _ ∷ row 5 _ ∷ []) ((rows_pass (path_rows _) tt c.in_ok-check_path.ensures refl).0, (held brought c.if-allows.true, tt))

pub returns-in_default-clause-refused : goal.returns-in_default-clause-refused
returns-in_default-clause-refused c =
    let brought = brings (record { kind = c.args.kind; value = c.args.value.now }) (c.allows.ensures ∙ ap (λ k. allowed k c.args.value.now) c.in-Ok.ensures) in
    rows_behind (path_rows _) _ (rows_pass (path_rows _) tt c.in_ok-check_path.ensures refl) (row-applies _ _ (failed brought c.if-allows.false))

pub returns-in_default-2-clause-refused : goal.returns-in_default-2-clause-refused
returns-in_default-2-clause-refused c =
    let brought = brings (record { kind = c.args.kind; value = c.args.value.now }) (unknown-kind c.args.kind c.args.value.now c.in_default.ensures) in
    rows_behind (path_rows _) _ (rows_pass (path_rows _) tt c.in_ok-check_path.ensures refl) (row-applies _ _ (failed brought refl))
