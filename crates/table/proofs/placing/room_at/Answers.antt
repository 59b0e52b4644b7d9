-- `table::placing::room_at`: what the subject's own elements share, the steps of other labels, then the free slots.
use native.Mathlib.Omega.{arith}
use Rattle.model.proofs.Dominance.{dominates-refl}
use Rattle.table.proofs.Coming.{absent-part, absent-searched, place-seven, place_short, place-nine, place-free}
use Rattle.table.proofs.placing.room_at.Goals as goal

pub partition_of-part-requires : goal.partition_of-part-requires
partition_of-part-requires c = dominates-refl _ c.requires.opened.label

pub steps_held-held-requires : goal.steps_held-held-requires
steps_held-held-requires c = absent-part c.requires c.partition_of-part.ensures

pub lacks_other-requires : goal.lacks_other-requires
lacks_other-requires c = absent-searched c.requires c.partition_of-part.ensures c.steps_held-held.ensures c.steps_before-lower.ensures

pub returns-then-lacks_other : goal.returns-then-lacks_other
returns-then-lacks_other c =
    place-seven c.requires c.partition_of-part.ensures c.steps_held-held.ensures c.steps_before-lower.ensures
    c.lacks_other.ensures c.if-lacks_other.true

pub overflow_sub-wanted : goal.overflow_sub-wanted
overflow_sub-wanted c =
    omega (
      arith,
      place_short c.requires c.partition_of-part.ensures c.steps_held-held.ensures c.steps_before-lower.ensures
          c.lacks_other.ensures c.if-lacks_other.false c.max-seen.ensures,
    )

pub overflow_sub-count : goal.overflow_sub-count
overflow_sub-count c = c.count-count.ensures.1

pub returns-then-count-wanted : goal.returns-then-count-wanted
returns-then-count-wanted c =
    place-nine c.requires c.partition_of-part.ensures c.steps_held-held.ensures c.steps_before-lower.ensures
    c.lacks_other.ensures c.if-lacks_other.false c.max-seen.ensures c.count-count.ensures.0 c.if-count-wanted.true

pub returns : goal.returns
returns c =
    place-free c.requires c.partition_of-part.ensures c.steps_held-held.ensures c.steps_before-lower.ensures
    c.lacks_other.ensures c.if-lacks_other.false c.max-seen.ensures c.count-count.ensures.0 c.if-count-wanted.false
