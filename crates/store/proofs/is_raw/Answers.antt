-- `store::is_raw`: dominance first, then the partition.
use Rattle.store.proofs.Parts.{dominated-lt, is-dominated, by-formed}
use Rattle.store.proofs.is_raw.Goals as goal

pub is_well_formed-requires : goal.is_well_formed-requires
is_well_formed-requires c = dominated-lt _ _ (is-dominated _ _ c.args.store.now c.dominates.ensures c.if-dominates.true)

pub returns-then-dominates : goal.returns-then-dominates
returns-then-dominates c = by-formed _ _ _ c.dominates.ensures c.if-dominates.true c.partition_of.ensures c.is_well_formed.ensures
