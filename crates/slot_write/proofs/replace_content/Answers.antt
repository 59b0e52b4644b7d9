-- `slot::replace_content`: kind, length and value behind the path.
use mathlib.Core.Path.{◌∙◌}
use native.Mathlib.Omega.{arith}
use lib.ListN.{length-set}
use Rattle.slot_write.proofs.Filling.{content-written}
use Rattle.slot_write.proofs.replace_content.Goals as goal

pub slice_bounds-write_value-end : goal.slice_bounds-write_value-end
slice_bounds-write_value-end c = simp length-set (omega arith)

pub shape_of-slot : goal.shape_of-slot
shape_of-slot c = c.slot-1.given.1 ∙ simp length-set

pub returns : goal.returns
returns c = content-written c.args.slot.now c.requires.0 c.args.kind c.args.value.now c.write_value.ensures
