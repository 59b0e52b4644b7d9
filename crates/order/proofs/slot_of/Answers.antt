-- `order::slot_of`: the label's partition, then the slot.
use native.Mathlib.Omega.{arith}
use Rattle.order.proofs.Naming.{ref-dominated, ref-label, ref-lent, ref-slot}
use Rattle.order.proofs.slot_of.Goals as goal

pub overflow_cast-r : goal.overflow_cast-r
overflow_cast-r c = omega (arith, ref-label _ _ _ c.requires)

pub partition_of-part-requires : goal.partition_of-part-requires
partition_of-part-requires c = ref-dominated _ _ _ c.requires

pub path-requires : goal.path-requires
path-requires c = ref-lent _ _ _ c.requires c.partition_of-part.ensures.0 c.from.ensures

pub returns : goal.returns
returns c = ref-slot _ _ _ c.requires c.partition_of-part.ensures.0 c.from.ensures c.path.ensures
