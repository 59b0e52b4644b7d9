-- `slot::rest_zero`: the bytes from the value's end to the slot's.
use Rattle.slot_valid.proofs.Unused.{value-rest}
use Rattle.slot_valid.proofs.rest_zero.Goals as goal

pub returns : goal.returns
returns c = value-rest c.args.slot.bytes.now c.args.slot.whole c.value_length-n.ensures c.requires c.tail_zero.ensures
