-- `Partition::slots_good`: what is left from slot i on is good if the whole is.
use Rattle.partition.proofs.Checking.{link_start, link-fails, link-next, link-end}
use Rattle.partition.proofs.Partition.slots_good.Goals as goal

pub loop-i-init : goal.loop-i-init
loop-i-init g c = link_start _ _ _ c.requires.0

pub slot_good-requires-clause-by_index : goal.slot_good-requires-clause-by_index
slot_good-requires-clause-by_index g c = c.loop-i.invariant.deep

pub returns-then-not-slot_good : goal.returns-then-not-slot_good
returns-then-not-slot_good g c = link-fails c.loop-i.invariant c.loop-i-test.true c.slot_good.ensures c.if-not-slot_good.true

pub loop-i-preserved : goal.loop-i-preserved
loop-i-preserved g c = link-next c.loop-i.invariant c.loop-i-test.true c.slot_good.ensures c.if-not-slot_good.false

pub returns : goal.returns
returns g c = link-end c.loop-i.invariant c.loop-i-test.false
