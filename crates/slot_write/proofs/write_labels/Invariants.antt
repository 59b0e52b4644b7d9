-- `slot::write_labels`: the labels of the first i steps are written.
use Rattle.slot_write.proofs.Filling.{labels, Laid}
use Rattle.slot_write.proofs.write_labels.Given as goal

abbrev pub invariant-loop-i : goal.invariant-loop-i
invariant-loop-i l = Laid 6 labels l.path l.labels l.i
