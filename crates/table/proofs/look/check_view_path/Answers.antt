-- `table::check_view_path`: the root, or a path.
use Rattle.std.proofs.lemmas.Bool.{eqb-true, eqb-false}
use mathlib.Core.Bool.{Bool, not}
use mathlib.Core.List.{[], ◌∷◌}
use mathlib.Core.Path.{refl, sym, ap, ◌∙◌}
use Rattle.model.specs.Rows.{row, row_code}
use Rattle.model.proofs.Rows.{rows_end}
use Rattle.table.proofs.Walking.{held, root-path, other_path}
use Rattle.table.proofs.look.check_view_path.Goals as goal

pub returns-then-is_empty : goal.returns-then-is_empty
returns-then-is_empty c = rows_end (row 4 _ ∷ []) (held (root-path c.args.path.now (eqb-true _ 0 (sym c.is_empty.ensures ∙ c.if-is_empty.true))) refl, tt)

pub returns : goal.returns
returns c = c.check_path.ensures ∙ ap (λ (t : Bool). row_code (row 4 (not t) ∷ [])) (other_path c.args.path.now (eqb-false _ 0 (sym c.is_empty.ensures ∙ c.if-is_empty.false)) refl)
