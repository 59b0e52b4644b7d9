-- `take`: the path of the tree's own element, rows 7 to 9, then the subject's partition.
use mathlib.Core.Path.{refl}
use native.Mathlib.Omega.{arith}
use Rattle.model.proofs.Dominance.{label-lt}
use Rattle.store.proofs.Lending.{lent-good, lent-set, own-changed}
use Rattle.promise.proofs.Refusing.{exit-err}
use Rattle.table.proofs.Walking.{opened-own}
use Rattle.dossier_intake.proofs.Doing.{ready-path, take-refused, few, take-comes, take_done}
use Rattle.dossier_intake.proofs.take.Goals as goal

pub put_top-requires : goal.put_top-requires
put_top-requires c = ready-path c.requires

pub slice_bounds-check_tree-end : goal.slice_bounds-check_tree-end
slice_bounds-check_tree-end c = omega (arith, c.put_top.ensures.size, (ready-path c.requires).1)

pub invariant_of-reader : goal.invariant_of-reader
invariant_of-reader c = record { opened = c.requires.opened }

pub returns-in_err-check_tree : goal.returns-in_err-check_tree
returns-in_err-check_tree c = rw (exit-err c.from_residual.ensures.1) (take-refused c.requires c.put_top.ensures c.in_err-check_tree.ensures _ refl)

pub slice_bounds-put_all-end : goal.slice_bounds-put_all-end
slice_bounds-put_all-end c = omega (arith, label-lt _ c.requires.opened.label, c.requires.opened.size, c.from-start.ensures)

pub shared_ref_as_front-put_all : goal.shared_ref_as_front-put_all
shared_ref_as_front-put_all c = few c.requires c.put_top.ensures c.in_ok-check_tree.ensures refl

pub put_all-requires : goal.put_all-requires
put_all-requires c =
    let own = opened-own c.requires.opened in
    let at = c.from-start.ensures in
    take-comes c.requires c.put_top.ensures c.in_ok-check_tree.ensures refl (lent-good own at) (lent-set own at)

pub returns : goal.returns
returns c =
    let own = opened-own c.requires.opened in
    let at = c.from-start.ensures in
    take_done c.requires c.put_top.ensures c.in_ok-check_tree.ensures refl _ (lent-set own at) c.put_all.ensures (λ g e. own-changed own at g e)
