-- `carry::put_unread`: the bytes of the line.
use Rattle.text.proofs.Overlays.{wrote_as}
use Rattle.carry.proofs.Answering.{unread-line}
use Rattle.carry.proofs.put_unread.Goals as goal

pub returns : goal.returns
returns c = wrote_as unread-line c.put_bytes.ensures
