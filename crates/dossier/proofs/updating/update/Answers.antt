-- `dossier::update`: the rows, then the element's slot.
use mathlib.Core.Path.{◌∙◌}
use Rattle.promise.proofs.Refusing.{exit-err}
use Rattle.table.proofs.Entering.{entry-refused, entry-lent, entry-unformed, entry-did}
use Rattle.model.specs.Path.{steps_of}
use Rattle.table.proofs.Walking.{opened-own}
use Rattle.table.proofs.Owning.{own-used, own-replaced}
use Rattle.dossier.proofs.Doing.{brought, brought-short, update-stops, update-none, update-done}
use Rattle.dossier.proofs.updating.update.Goals as goal

pub check_formed-requires : goal.check_formed-requires
check_formed-requires c = entry-lent c.in_ok-label.ensures

pub returns-in_err-label : goal.returns-in_err-label
returns-in_err-label c = rw (exit-err c.from_residual.ensures.1) (entry-refused _ _ _ c.in_err-label.ensures _ _)

pub returns-in_err-reader : goal.returns-in_err-reader
returns-in_err-reader c = rw (exit-err c.from_residual-in_err-reader.ensures.1) (entry-unformed c.in_ok-label.ensures _ c.in_err-reader.ensures.formed _ _)

pub returns-in_err-known : goal.returns-in_err-known
returns-in_err-known c =
    rw (exit-err c.from_residual-in_err-known.ensures.1)
    (entry-did c.in_ok-label.ensures _ (update-stops c.in_ok-reader.ensures.formed _ _ _ c.in_err-known.ensures.refused))

pub own_slot-requires : goal.own_slot-requires
own_slot-requires c = (brought _ _ c.in_ok-known.ensures.refused).path

pub returns-in_err-at : goal.returns-in_err-at
returns-in_err-at c =
    let same = c.in_ok-reader.ensures.same in
    rw (exit-err c.from_residual-in_err-at.ensures.1)
    (entry-did c.in_ok-label.ensures _ (update-none c.in_ok-reader.ensures.formed _ _ c.in_ok-known.ensures.refused _ (rw (same.0, same.1) at c.in_err-at.ensures)))

pub replace-requires : goal.replace-requires
replace-requires c =
    let same = c.in_ok-reader.ensures.same in
    (opened-own c.in_ok-reader.ensures.formed, own-used _ _ (steps_of c.args.path.now) (rw (same.0, same.1) at c.in_ok-at.ensures), (brought-short _ _ c.in_ok-known.ensures.refused).1)

pub returns : goal.returns
returns c =
    let same = c.in_ok-reader.ensures.same in
    entry-did c.in_ok-label.ensures _
    (update-done c.in_ok-reader.ensures.formed _ _ c.in_ok-known.ensures.refused (rw (same.0, same.1) at c.in_ok-at.ensures.0)
    (own-replaced _ _ (steps_of c.args.path.now) (rw (same.0, same.1) at c.in_ok-at.ensures) _ (rw (c.from.ensures ∙ c.in_ok-known.ensures.known) at c.replace.ensures)))
