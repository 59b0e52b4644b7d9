-- `slot::write`: depth, names and labels, then the content behind them.
use mathlib.Core.Path.{◌∙◌}
use native.Mathlib.Omega.{arith}
use lib.ListN.{length-set}
use Rattle.slot_write.proofs.Filling.{slot-written}
use Rattle.slot_write.proofs.write.Goals as goal

pub slice_bounds-write_names-end : goal.slice_bounds-write_names-end
slice_bounds-write_names-end c = simp length-set (omega arith)

pub slice_bounds-write_labels-end : goal.slice_bounds-write_labels-end
slice_bounds-write_labels-end c = omega (arith, simp length-set at c.slot-1.given.1)

pub replace_content-requires : goal.replace_content-requires
replace_content-requires c = (c.slot-2-1.given.1 ∙ c.slot-1.given.1 ∙ simp length-set c.requires.0, c.requires.2)

pub shape_of-slot : goal.shape_of-slot
shape_of-slot c = c.slot-3-1.given ∙ c.slot-2-1.given.1 ∙ c.slot-1.given.1 ∙ simp length-set

pub returns : goal.returns
returns c =
    slot-written c.args.slot.now c.requires.0 c.args.path.now (record { kind = c.args.kind; value = c.args.value.now })
    c.write_names.ensures c.write_labels.ensures c.replace_content.ensures
