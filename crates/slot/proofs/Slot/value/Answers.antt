-- `Slot::value`: as many bytes from 21 on as byte 20 says.
use Rattle.slot.proofs.Reading.{value-part}
use Rattle.slot.proofs.Slot.value.Goals as goal

pub returns : goal.returns
returns c = value-part _ c.value_length-end.ensures
