-- `read`: no tree, something behind it, or the tree.
use Rattle.xml_read.proofs.Reading.{sent-none, sent-more, sent-found}
use Rattle.xml_read.proofs.read.Goals as goal

pub returns-in_err-t : goal.returns-in_err-t
returns-in_err-t c = rw c.from_residual.ensures (search (sent-none, c.in_err-t.ensures))

pub returns-then-t-text : goal.returns-then-t-text
returns-then-t-text c = search (sent-more, c.in_ok-t.ensures)

pub returns : goal.returns
returns c = rw (← c.from.ensures) (search (sent-found, c.in_ok-t.ensures))
