-- `dossier_xml::view_xml`: the rows, then the XML; the last row is its length.
use borrow.Author.Rules.{rules}
use Rattle.promise.proofs.Refusing.{exit-err}
use Rattle.table.proofs.Entering.{entry-refused, entry-lent, entry-unformed, entry-did}
use mathlib.Core.Path.{refl}
use Rattle.promise.proofs.Refusing.{code-some}
use Rattle.table.proofs.Looking.{look-stops, look-short, look-done}
use Rattle.dossier_xml.proofs.Doing.{xml-looks}
use Rattle.dossier_xml.proofs.view_xml.Goals as goal

pub check_formed-requires : goal.check_formed-requires
check_formed-requires c = entry-lent c.in_ok-label.ensures

pub returns-in_err-label : goal.returns-in_err-label
returns-in_err-label c = rw (exit-err c.from_residual.ensures.1) (entry-refused _ _ _ c.in_err-label.ensures _ _)

pub returns-in_err-reader : goal.returns-in_err-reader
returns-in_err-reader c = rw (exit-err c.from_residual-in_err-reader.ensures.1) (entry-unformed c.in_ok-label.ensures _ c.in_err-reader.ensures.formed _ _)

pub returns-in_err-check_seen : goal.returns-in_err-check_seen
returns-in_err-check_seen c =
    let same = c.in_ok-reader.ensures.same in
    rw (exit-err c.from_residual-in_err-check_seen.ensures.1)
    (entry-did c.in_ok-label.ensures _ (look-stops (xml-looks _ _ _ _) c.in_ok-reader.ensures.formed (rw (same.0, same.1) at c.in_err-check_seen.ensures) (code-some _)))

pub returns-then-output-total : goal.returns-then-output-total
returns-then-output-total c =
    let same = c.in_ok-reader.ensures.same in
    entry-did c.in_ok-label.ensures _
    (look-short (xml-looks _ _ _ _) c.in_ok-reader.ensures.formed (rw (same.0, same.1) at c.in_ok-check_seen.ensures) refl
    (rw (same.0, same.1) at c.write-total.ensures.value) (search rules) (rw (same.0, same.1) at c.write-total.ensures.out_after) c.if-output-total.true)

pub returns : goal.returns
returns c =
    let same = c.in_ok-reader.ensures.same in
    entry-did c.in_ok-label.ensures _
    (look-done (xml-looks _ _ _ _) c.in_ok-reader.ensures.formed (rw (same.0, same.1) at c.in_ok-check_seen.ensures) refl
    (rw (same.0, same.1) at c.write-total.ensures.value) (search rules) (rw (same.0, same.1) at c.write-total.ensures.out_after) c.if-output-total.false)
