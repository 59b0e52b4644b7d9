-- `rows::check_tree`: the parent, then the subject's own partition.
use Rattle.model.proofs.Dominance.{dominates-refl}
use Rattle.partition.proofs.Finding.{found-ok, found-err}
use Rattle.dossier_intake.proofs.Placing.{row-unseen, row-there, row-full, row-free}
use Rattle.dossier_intake.proofs.rows.check_tree.Goals as goal

pub returns-then-not-in_view : goal.returns-then-not-in_view
returns-then-not-in_view c = search row-unseen

pub partition_of-part-requires : goal.partition_of-part-requires
partition_of-part-requires c = dominates-refl _ c.args.reader.now.opened.label

pub returns-in-Ok : goal.returns-in-Ok
returns-in-Ok c = let found = found-ok c.in-Ok.is c.find.ensures in search row-there

pub overflow_sub-used : goal.overflow_sub-used
overflow_sub-used c = c.count-used.ensures.1

pub returns-then-used-count : goal.returns-then-used-count
returns-then-used-count c = let found = found-err c.in_default.is c.find.ensures in search row-full

pub returns : goal.returns
returns c = let found = found-err c.in_default.is c.find.ensures in search row-free
