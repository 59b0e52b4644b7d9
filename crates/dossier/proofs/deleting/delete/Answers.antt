-- `dossier::delete`: the rows, then the subject's partition.
use Rattle.promise.proofs.Refusing.{exit-err}
use Rattle.table.proofs.Entering.{entry-refused, entry-lent, entry-unformed, entry-did}
use Rattle.table.proofs.Walking.{opened-own}
use Rattle.dossier.proofs.Doing.{delete-stops, delete-path, delete-none, delete-done}
use Rattle.dossier.proofs.deleting.delete.Goals as goal

pub check_formed-requires : goal.check_formed-requires
check_formed-requires c = entry-lent c.in_ok-label.ensures

pub returns-in_err-label : goal.returns-in_err-label
returns-in_err-label c = rw (exit-err c.from_residual.ensures.1) (entry-refused _ _ _ c.in_err-label.ensures _ _)

pub returns-in_err-reader : goal.returns-in_err-reader
returns-in_err-reader c = rw (exit-err c.from_residual-in_err-reader.ensures.1) (entry-unformed c.in_ok-label.ensures _ c.in_err-reader.ensures.formed _ _)

pub returns-in_err-check_path : goal.returns-in_err-check_path
returns-in_err-check_path c =
    rw (exit-err c.from_residual-in_err-check_path.ensures.1)
    (entry-did c.in_ok-label.ensures _ (delete-stops c.in_ok-reader.ensures.formed _ _ c.in_err-check_path.ensures))

pub own_slot-requires : goal.own_slot-requires
own_slot-requires c = delete-path c.in_ok-reader.ensures.formed _ c.in_ok-check_path.ensures

pub returns-in_err-at : goal.returns-in_err-at
returns-in_err-at c =
    let same = c.in_ok-reader.ensures.same in
    rw (exit-err c.from_residual-in_err-at.ensures.1)
    (entry-did c.in_ok-label.ensures _ (delete-none c.in_ok-reader.ensures.formed _ c.in_ok-check_path.ensures _ (rw (same.0, same.1) at c.in_err-at.ensures)))

pub remove-requires : goal.remove-requires
remove-requires c =
    let same = c.in_ok-reader.ensures.same in
    (opened-own c.in_ok-reader.ensures.formed, (rw (same.0, same.1) at c.in_ok-at.ensures.1))

pub returns : goal.returns
returns c =
    let same = c.in_ok-reader.ensures.same in
    entry-did c.in_ok-label.ensures _
    (delete-done c.in_ok-reader.ensures.formed _ c.in_ok-check_path.ensures (rw (same.0, same.1) at c.in_ok-at.ensures.0) (c.remove.ensures.value, c.remove.ensures.store_after))
