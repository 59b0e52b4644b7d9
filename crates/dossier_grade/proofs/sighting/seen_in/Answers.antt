-- `dossier_grade::sighting::seen_in`: an element that is found, or one that is not.
use mathlib.Core.Path.{refl}
use Rattle.partition.proofs.Contents.{found-slot, found-storable}
use Rattle.partition.proofs.Finding.{found-ok, found-err}
use Rattle.dossier_grade.proofs.Seeing.{path-partition-formed, sees-found, sees-removed, sees-nothing}
use Rattle.dossier_grade.proofs.sighting.seen_in.Goals as goal

pub invariant_of-slot : goal.invariant_of-slot
invariant_of-slot c = record { whole = c.requires.size }

pub slot-requires : goal.slot-requires
slot-requires c = found-slot (path-partition-formed _ c.requires) (found-ok c.in-Ok.is c.find.ensures) refl

pub content_of-requires : goal.content_of-requires
content_of-requires c = (found-storable (path-partition-formed _ c.requires) (found-ok c.in-Ok.is c.find.ensures) refl (c.slot.ensures, c.slot.result.whole)).1

pub returns-in-Ok : goal.returns-in-Ok
returns-in-Ok c = sees-found _ c.requires (found-ok c.in-Ok.is c.find.ensures) refl (c.slot.ensures, c.slot.result.whole) c.content_of.ensures

pub returns-then-in_view : goal.returns-then-in_view
returns-then-in_view c = sees-removed _ c.requires (found-err c.in_default.is c.find.ensures) c.in_view.ensures refl c.if-in_view.true

pub returns : goal.returns
returns c = sees-nothing _ c.requires (found-err c.in_default.is c.find.ensures) c.in_view.ensures c.if-in_view.false
