-- `table::placing::lacks_other`: the subject's own elements, then the labels before his.
use native.Mathlib.Omega.{arith}
use Rattle.table.proofs.Coming.{other-shared, other-end, other-within, other-asked}
use Rattle.table.proofs.placing.lacks_other.Goals as goal

pub returns-then-lower-held : goal.returns-then-lower-held
returns-then-lower-held c = other-shared c.requires c.if-lower-held.true

pub overflow_mul-end : goal.overflow_mul-end
overflow_mul-end c = omega (arith, other-end c.requires c.if-lower-held.false)

pub slice_bounds-in_view_before-end : goal.slice_bounds-in_view_before-end
slice_bounds-in_view_before-end c = other-end c.requires c.if-lower-held.false

pub in_view_before-requires : goal.in_view_before-requires
in_view_before-requires c = other-within c.requires c.if-lower-held.false

pub returns : goal.returns
returns c = other-asked c.requires c.if-lower-held.false c.in_view_before.ensures
