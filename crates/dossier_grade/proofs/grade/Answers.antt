-- `dossier_grade::grade`: rows 1 to 4 and 11, then what is seen at the two paths.
use mathlib.Core.Path.{◌≡◌, refl}
use native.Mathlib.Omega.{arith}
use Rattle.std.specs.Prelude.{Some, None}
use Rattle.promise.specs.declared.Refusal.TheVariants.{NoMeasure}
use Rattle.promise.proofs.Refusing.{exit-err}
use Rattle.table.proofs.Entering.{entry-refused, entry-lent, entry-unformed, entry-did}
use Rattle.dossier_grade.proofs.Telling.{told-seven, evenly-told, grade-stops, asked-paths, some-sizes, grade-acts}
use Rattle.dossier_grade.proofs.grade.Goals as goal

pub check_formed-requires : goal.check_formed-requires
check_formed-requires c = entry-lent c.in_ok-label.ensures

pub returns-in_err-label : goal.returns-in_err-label
returns-in_err-label c = rw (exit-err c.from_residual.ensures.1) (entry-refused _ _ _ c.in_err-label.ensures _ _)

pub returns-in_err-reader : goal.returns-in_err-reader
returns-in_err-reader c = rw (exit-err c.from_residual-in_err-reader.ensures.1) (entry-unformed c.in_ok-label.ensures _ c.in_err-reader.ensures.formed _ _)

pub returns-in_err-check_asked : goal.returns-in_err-check_asked
returns-in_err-check_asked c =
    rw (exit-err c.from_residual-in_err-check_asked.ensures.1)
    (entry-did c.in_ok-label.ensures _ (grade-stops c.in_ok-reader.ensures.formed _ _ _ _ c.in_err-check_asked.ensures))

pub seen_at-requires : goal.seen_at-requires
seen_at-requires c = (asked-paths c.in_ok-reader.ensures.formed _ _ c.args.n c.in_ok-check_asked.ensures).0

pub returns-in_err-at_base : goal.returns-in_err-at_base
returns-in_err-at_base c =
    let same = c.in_ok-reader.ensures.same in
    rw (exit-err c.from_residual-in_err-at_base.ensures.1)
    (entry-did c.in_ok-label.ensures _ (grade-acts c.in_ok-reader.ensures.formed _ _ _ c.in_ok-check_asked.ensures (rw (same.0, same.1) at c.in_err-at_base.ensures) refl
    (told-seven _ _ _ (rw (same.0, same.1) at c.in_err-at_base.ensures))))

pub seen_at-requires-2 : goal.seen_at-requires-2
seen_at-requires-2 c = (asked-paths c.in_ok-reader.ensures.formed _ _ c.args.n c.in_ok-check_asked.ensures).1

pub returns-in_err-at_top : goal.returns-in_err-at_top
returns-in_err-at_top c =
    let same = c.in_ok-reader.ensures.same in
    rw (exit-err c.from_residual-in_err-at_top.ensures.1)
    (entry-did c.in_ok-label.ensures _
    (grade-acts c.in_ok-reader.ensures.formed _ _ _ c.in_ok-check_asked.ensures (rw (same.0, same.1) at c.in_ok-at_base.ensures) (rw (same.0, same.1) at c.in_err-at_top.ensures)
    (told-seven _ _ _ (rw (same.0, same.1) at c.in_err-at_top.ensures))))

pub returns-in_err-from : goal.returns-in_err-from
returns-in_err-from c =
    let same = c.in_ok-reader.ensures.same in
    let none : c.in_ok-at_base.at_base ≡ None = grind arith in
    let is : c.in_err-from.field-0.0 ≡ NoMeasure = grind arith in
    rw (exit-err c.from_residual-in_err-from.ensures.1, is)
    (entry-did c.in_ok-label.ensures _
    (grade-acts c.in_ok-reader.ensures.formed _ _ _ c.in_ok-check_asked.ensures (rw (same.0, same.1, none) at c.in_ok-at_base.ensures) (rw (same.0, same.1) at c.in_ok-at_top.ensures)
    refl))

pub returns-in_err-to : goal.returns-in_err-to
returns-in_err-to c =
    let same = c.in_ok-reader.ensures.same in
    let some : c.in_ok-at_base.at_base ≡ Some c.in_ok-from.from = grind arith in
    let none : c.in_ok-at_top.at_top ≡ None = grind arith in
    let is : c.in_err-to.field-0.0 ≡ NoMeasure = grind arith in
    rw (exit-err c.from_residual-in_err-to.ensures.1, is)
    (entry-did c.in_ok-label.ensures _
    (grade-acts c.in_ok-reader.ensures.formed _ _ _ c.in_ok-check_asked.ensures (rw (same.0, same.1, some) at c.in_ok-at_base.ensures)
    (rw (same.0, same.1, none) at c.in_ok-at_top.ensures) refl))

pub between-requires : goal.between-requires
between-requires c = some-sizes c.in_ok-reader.ensures.formed _ _ _ c.in_ok-check_asked.ensures

pub returns : goal.returns
returns c =
    let same = c.in_ok-reader.ensures.same in
    let some : c.in_ok-at_base.at_base ≡ Some c.in_ok-from.from = grind arith in
    let other : c.in_ok-at_top.at_top ≡ Some c.in_ok-to.to = grind arith in
    entry-did c.in_ok-label.ensures _
    (grade-acts c.in_ok-reader.ensures.formed _ _ _ c.in_ok-check_asked.ensures (rw (same.0, same.1, some) at c.in_ok-at_base.ensures)
    (rw (same.0, same.1, other) at c.in_ok-at_top.ensures)
    (evenly-told _ _ c.args.n (some-sizes c.in_ok-reader.ensures.formed _ _ _ c.in_ok-check_asked.ensures) c.between.ensures))
