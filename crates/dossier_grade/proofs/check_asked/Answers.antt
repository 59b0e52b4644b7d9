-- `dossier_grade::check_asked`: row by row.
use native.Mathlib.Omega.{arith}
use Rattle.promise.proofs.Refusing.{exit-err}
use Rattle.dossier_grade.proofs.Telling.{asked-base, asked-top, asked-few, asked-many, asked-none}
use Rattle.dossier_grade.proofs.check_asked.Goals.{then-n-lt1-via-then-n-lt1, then-n-lt1-via-else-n-lt1+then-n-gt64}
use Rattle.dossier_grade.proofs.check_asked.Goals as goal

pub returns-in_err-check_view_path : goal.returns-in_err-check_view_path
returns-in_err-check_view_path c = rw (exit-err c.from_residual.ensures.1) (asked-base _ _ c.args.n _ c.in_err-check_view_path.ensures)

pub returns-in_err-check_view_path-2 : goal.returns-in_err-check_view_path-2
returns-in_err-check_view_path-2 c =
    rw (exit-err c.from_residual-in_err-check_view_path-2.ensures.1) (asked-top _ _ c.args.n c.in_ok-check_view_path.ensures _ c.in_err-check_view_path-2.ensures)

pub returns-then-n-lt1 : goal.returns-then-n-lt1
returns-then-n-lt1 c = elim c.then-n-lt1.branch [
  | then-n-lt1-via-then-n-lt1 w ↦ asked-few _ _ _ c.in_ok-check_view_path.ensures c.in_ok-check_view_path-2.ensures w.if-n-lt1.true
  | then-n-lt1-via-else-n-lt1+then-n-gt64 w ↦ asked-many _ _ c.args.n c.in_ok-check_view_path.ensures c.in_ok-check_view_path-2.ensures (omega (arith, w.if-n-gt64.true))
]

pub returns : goal.returns
returns c = asked-none _ _ c.args.n c.in_ok-check_view_path.ensures c.in_ok-check_view_path-2.ensures c.if-n-lt1.false (omega (arith, c.if-n-gt64.false))
