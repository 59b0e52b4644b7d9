-- `Partition::slot_good`: valid, and behind the root or the slot before.
use Rattle.partition.proofs.Checking.{slot-bad, slot-few, first_slot, later-slot}
use Rattle.partition.proofs.Partition.slot_good.Goals as goal

pub returns-then-not-is_valid : goal.returns-then-not-is_valid
returns-then-not-is_valid g c = slot-bad _ c.slot-s.ensures c.is_valid.ensures _ _ c.if-not-is_valid.true

pub returns-then-i-eq0 : goal.returns-then-i-eq0
returns-then-i-eq0 g c = first_slot _ c.slot-s.ensures c.is_valid.ensures c.if-not-is_valid.false g.met.O.StepOrder.keyed _ c.if-i-eq0.true c.parent_ends_in.ensures

pub returns : goal.returns
returns g c = later-slot _ c.slot-s.ensures c.is_valid.ensures c.if-not-is_valid.false _ _ c.if-i-eq0.false c.slot-before.ensures c.may_follow.ensures

pub invariant_of-parent_ends_in : goal.invariant_of-parent_ends_in
invariant_of-parent_ends_in g c = record { few = slot-few _ c.slot-s.ensures c.is_valid.ensures c.if-not-is_valid.false }

pub invariant_of-may_follow-2 : goal.invariant_of-may_follow-2
invariant_of-may_follow-2 g c = record { few = slot-few _ c.slot-s.ensures c.is_valid.ensures c.if-not-is_valid.false }
