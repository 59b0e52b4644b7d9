-- `table::place`: the last label, the subject's own partition, then the other rows.
use mathlib.Core.Path.{refl}
use Rattle.model.specs.Path.{steps_of}
use Rattle.model.proofs.Dominance.{dominates-refl}
use Rattle.partition.proofs.Finding.{found-ok, found-err}
use Rattle.table.proofs.Coming.{place-six, place-eight, place-absent}
use Rattle.table.proofs.placing.place.Goals as goal

pub returns-then-not-ends_in : goal.returns-then-not-ends_in
returns-then-not-ends_in c = place-six _ _ (steps_of c.args.path.now) c.ends_in.ensures c.if-not-ends_in.true

pub partition_of-requires : goal.partition_of-requires
partition_of-requires c = dominates-refl _ c.args.reader.now.opened.label

pub returns-in-Ok : goal.returns-in-Ok
returns-in-Ok c = place-eight c.args.reader.now.opened c.args.path.now c.requires c.ends_in.ensures c.if-not-ends_in.false c.partition_of.ensures (found-ok c.in-Ok.is c.find.ensures) refl

pub room_at-requires : goal.room_at-requires
room_at-requires c = place-absent c.args.reader.now.opened c.args.path.now c.requires c.ends_in.ensures c.if-not-ends_in.false c.partition_of.ensures (found-err c.in-Err.is c.find.ensures) refl
