-- `put_all`: an element in each turn, up to the last.
use lib.ListN.{drop}
use Rattle.model.specs.Tree.{Forest}
use Rattle.model.specs.Partition.{read_partition}
use Rattle.model.specs.Intake.{Sends, elements_of, with_all}
use Rattle.intake.specs.Putting.{above}
use Rattle.intake.specs.Progress.{Left}
use Rattle.intake.proofs.put_all.Given as goal

abbrev pub invariant-loop-mark : goal.invariant-loop-mark
invariant-loop-mark l =
    (f : Forest) → Sends l.d l.text f
    → Left (with_all (elements_of (above l.d l.initial.path) f) (read_partition l.initial.part)) l.label l.part l.text l.path (drop l.mark-index l.marks)
