-- `table::own_slot`: the last label, then the subject's own partition.
use mathlib.Core.Path.{refl}
use mathlib.Core.List.{[], ◌∷◌}
use Rattle.model.specs.Path.{steps_of}
use Rattle.model.specs.Rows.{row}
use Rattle.model.proofs.Dominance.{dominates-refl}
use Rattle.model.proofs.Rows.{row-applies, rows_behind, rows_end}
use Rattle.partition.proofs.Finding.{found-ok, found-err}
use Rattle.table.proofs.Walking.{failed, held, found-live, found-place}
use Rattle.table.proofs.own.own_slot.Goals as goal

pub returns-then-not-ends_in : goal.returns-then-not-ends_in
returns-then-not-ends_in c = row-applies _ _ (failed c.ends_in.ensures c.if-not-ends_in.true)

pub partition_of-requires : goal.partition_of-requires
partition_of-requires c = dominates-refl _ c.args.reader.now.opened.label

pub returns-in-Err : goal.returns-in-Err
returns-in-Err c =
    let found = found-live c.args.reader.now.opened c.partition_of.ensures (steps_of c.args.path.now) c.ends_in.ensures c.if-not-ends_in.false (found-err c.in-Err.is c.find.ensures) in
    rows_behind (row 6 _ ∷ []) _ (held c.ends_in.ensures c.if-not-ends_in.false, tt) (row-applies _ _ (failed found refl))

pub returns-in-Ok : goal.returns-in-Ok
returns-in-Ok c =
    let path = steps_of c.args.path.now in
    let found = found-live c.args.reader.now.opened c.partition_of.ensures path c.ends_in.ensures c.if-not-ends_in.false (found-ok c.in-Ok.is c.find.ensures) in (
      rows_end (row 6 _ ∷ row 7 _ ∷ []) (held c.ends_in.ensures c.if-not-ends_in.false, (held found refl, tt)),
      found-place c.args.reader.now.opened c.partition_of.ensures path (found-ok c.in-Ok.is c.find.ensures),
    )
