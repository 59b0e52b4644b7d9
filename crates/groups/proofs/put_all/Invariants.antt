-- `put_all`: a group in each turn, a step longer than the one before, then the element.
use Prim.Native.Nat.{◌+◌, ◌-◌}
use Rattle.model.specs.Path.{steps_of}
use Rattle.model.specs.Partition.{read_partition}
use Rattle.model.specs.Intake.{with_all}
use Rattle.model.specs.Groups.{with_groups}
use Rattle.groups.proofs.Putting.{Going}
use Rattle.groups.proofs.put_all.Given as goal

abbrev pub invariant-loop-k : goal.invariant-loop-k
invariant-loop-k l = Going (with_all (with_groups l.seen (steps_of l.path) (record { kind = l.kind; value = l.value })) (read_partition l.initial.part)) l.part (steps_of l.path) (l.at + (l.k - l.seen)) l.k
    (record { kind = l.kind; value = l.value })
