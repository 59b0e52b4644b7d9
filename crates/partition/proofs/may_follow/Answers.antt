-- `partition::may_follow`: the order, then the parent.
use Rattle.std.proofs.lemmas.Bool.{not-false, not-true}
use native.Mathlib.Omega.{arith}
use Rattle.partition.proofs.Checking.{not_after, free-parent, shared-parent, shared-small}
use Rattle.partition.proofs.may_follow.Goals as goal

pub returns-then-not-m : goal.returns-then-not-m
returns-then-not-m g c = not_after _ _ _ _ c.compare_by-m.ensures (not-true _ c.if-not-m.true)

pub returns-then-not-parent_ends_in : goal.returns-then-not-parent_ends_in
returns-then-not-parent_ends_in g c = free-parent _ _ _ _ c.compare_by-m.ensures (not-false _ c.if-not-m.false) c.parent_ends_in.ensures c.if-not-parent_ends_in.true

pub overflow_add-result : goal.overflow_add-result
overflow_add-result g c = omega (arith, shared-small _ _ c.compare_by-m.ensures c.args.a.few)

pub returns : goal.returns
returns g c = shared-parent _ _ _ _ c.compare_by-m.ensures (not-false _ c.if-not-m.false) c.parent_ends_in.ensures c.if-not-parent_ends_in.false c.depth.ensures
