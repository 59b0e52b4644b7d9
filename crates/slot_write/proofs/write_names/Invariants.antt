-- `slot::write_names`: the names of the first i steps are written.
use Rattle.model.specs.Lists.{gather}
use Rattle.model.specs.Slot.{name_bytes}
use Rattle.slot_write.proofs.Filling.{Laid}
use Rattle.slot_write.proofs.write_names.Given as goal

abbrev pub invariant-loop-i : goal.invariant-loop-i
invariant-loop-i l = Laid 12 (gather name_bytes) l.path l.names l.i
