-- `insert_xml`: rows 1 to 4, the text, then the tree that it sends.
use Rattle.std.proofs.lemmas.Bool.{not-false, not-true}
use mathlib.Core.Path.{refl}
use Rattle.promise.proofs.Refusing.{exit-err}
use Rattle.table.proofs.Entering.{entry-lent}
use Rattle.dossier_intake.proofs.Doing.{take-raw, take-stray, take-unread, take-foreign, take-ready, take-shut, take_open}
use Rattle.dossier_intake.proofs.insert_xml.Goals as goal

pub check_formed-requires : goal.check_formed-requires
check_formed-requires c = entry-lent c.in_ok-label.ensures

pub returns-in_err-label : goal.returns-in_err-label
returns-in_err-label c = rw (exit-err c.from_residual.ensures.1) (take-shut _ _ _ _ _ c.in_err-label.ensures)

pub returns-in_err-check_formed : goal.returns-in_err-check_formed
returns-in_err-check_formed c =
    rw (exit-err c.from_residual-in_err-check_formed.ensures.1) (take_open c.in_ok-label.ensures (take-raw _ _ _ _ _ c.in_err-check_formed.ensures.formed))

pub returns-in_err-check_view_path : goal.returns-in_err-check_view_path
returns-in_err-check_view_path c =
    rw (exit-err c.from_residual-in_err-check_view_path.ensures.1)
    (take_open c.in_ok-label.ensures (take-stray c.in_ok-check_formed.ensures.formed _ _ _ c.in_err-check_view_path.ensures))

pub returns-in_default : goal.returns-in_default
returns-in_default c =
    take_open c.in_ok-label.ensures
    (take-unread c.in_ok-check_formed.ensures.formed _ _ c.in_ok-check_view_path.ensures _ refl c.in_default.ensures)

pub returns-then-not-tree : goal.returns-then-not-tree
returns-then-not-tree c =
    take_open c.in_ok-label.ensures
    (take-foreign c.in_ok-check_formed.ensures.formed _ _ c.in_ok-check_view_path.ensures _ refl c.in-Some.ensures (not-true _ c.if-not-tree.true))

pub take-requires : goal.take-requires
take-requires c =
    take-ready c.in_ok-check_formed.ensures.formed _ _ c.in_ok-check_view_path.ensures _ refl c.in-Some.ensures (not-false _ c.if-not-tree.false)

pub returns : goal.returns
returns c = take_open c.in_ok-label.ensures c.take.ensures
