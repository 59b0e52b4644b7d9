-- `intake::put`: a partition with room is well formed.
use Rattle.partition.proofs.Finding.{formed-order}
use Rattle.intake.proofs.put.Goals as goal

pub invariant_of-find_near : goal.invariant_of-find_near
invariant_of-find_near c = record { in_order = formed-order c.requires.room.formed }
