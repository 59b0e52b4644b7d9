-- `dossier::insert`: the rows, then the subject's partition.
use mathlib.Core.Path.{◌∙◌}
use Rattle.promise.proofs.Refusing.{exit-err}
use Rattle.table.proofs.Entering.{entry-refused, entry-lent, entry-unformed, entry-did}
use native.Mathlib.Omega.{arith}
use Rattle.dossier.proofs.Doing.{brought, brought-short, insert-stops, insert-refused, insert-short, insert-vacant, insert-done}
use Rattle.dossier.proofs.inserting.insert.Goals as goal

pub check_formed-requires : goal.check_formed-requires
check_formed-requires c = entry-lent c.in_ok-label.ensures

pub returns-in_err-label : goal.returns-in_err-label
returns-in_err-label c = rw (exit-err c.from_residual.ensures.1) (entry-refused _ _ _ c.in_err-label.ensures _ _)

pub returns-in_err-reader : goal.returns-in_err-reader
returns-in_err-reader c = rw (exit-err c.from_residual-in_err-reader.ensures.1) (entry-unformed c.in_ok-label.ensures _ c.in_err-reader.ensures.formed _ _)

pub returns-in_err-known : goal.returns-in_err-known
returns-in_err-known c =
    rw (exit-err c.from_residual-in_err-known.ensures.1)
    (entry-did c.in_ok-label.ensures _ (insert-stops c.in_ok-reader.ensures.formed _ _ _ c.in_err-known.ensures.refused))

pub place-requires : goal.place-requires
place-requires c = (brought _ _ c.in_ok-known.ensures.refused).path

pub returns-in_err-place : goal.returns-in_err-place
returns-in_err-place c =
    let same = c.in_ok-reader.ensures.same in
    rw (exit-err c.from_residual-in_err-place.ensures.1)
    (entry-did c.in_ok-label.ensures _ (insert-refused c.in_ok-reader.ensures.formed _ _ c.in_ok-known.ensures.refused _ (rw (same.0, same.1) at c.in_err-place.ensures)))

pub insert-requires : goal.insert-requires
insert-requires c =
    let same = c.in_ok-reader.ensures.same in
    record {
      vacant = rw (c.from.ensures ∙ c.in_ok-known.ensures.known) (insert-vacant c.in_ok-reader.ensures.formed _ _ c.in_ok-known.ensures.refused (rw (same.0, same.1) at c.in_ok-place.ensures));
      path_len_bound = brought-short _ _ c.in_ok-known.ensures.refused;
    }

pub overflow_sub-result-2 : goal.overflow_sub-result-2
overflow_sub-result-2 c =
    let same = c.in_ok-reader.ensures.same in
    omega (arith, insert-short c.in_ok-reader.ensures.formed _ _ c.in_ok-known.ensures.refused (rw (same.0, same.1) at c.in_ok-place.ensures))

pub overflow_sub-result : goal.overflow_sub-result
overflow_sub-result c =
    let same = c.in_ok-reader.ensures.same in
    omega (arith, insert-short c.in_ok-reader.ensures.formed _ _ c.in_ok-known.ensures.refused (rw (same.0, same.1) at c.in_ok-place.ensures))

pub returns : goal.returns
returns c =
    let same = c.in_ok-reader.ensures.same in
    entry-did c.in_ok-label.ensures _
    (insert-done c.in_ok-reader.ensures.formed _ _ c.in_ok-known.ensures.refused (rw (same.0, same.1) at c.in_ok-place.ensures) (rw (c.from.ensures ∙ c.in_ok-known.ensures.known) at c.insert.ensures))
