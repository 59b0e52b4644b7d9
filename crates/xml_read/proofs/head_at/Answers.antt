-- `head_at`: a tag and a value.
use Rattle.xml_read.proofs.Heads.{head-untagged, head-unvalued, head-found}
use Rattle.xml_read.proofs.head_at.Goals as goal

pub returns-in_err-tag : goal.returns-in_err-tag
returns-in_err-tag c = rw c.from_residual.ensures (search (head-untagged, c.in_err-tag.ensures))

pub returns-in_err-next : goal.returns-in_err-next
returns-in_err-next c = rw c.from_residual-in_err-next.ensures (search (head-unvalued, c.in_ok-tag.ensures, c.in_err-next.ensures))

pub returns : goal.returns
returns c = search (head-found, c.in_ok-tag.ensures, c.in_ok-next.ensures)
