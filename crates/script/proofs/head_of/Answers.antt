-- `head_of`: a number, a tab, a byte and a tab.
use Rattle.script.proofs.Callings.{head-none, head-untabbed, head-unparted, head-found}
use Rattle.script.proofs.head_of.Goals as goal

pub returns-in_err-subject : goal.returns-in_err-subject
returns-in_err-subject c = rw c.from_residual.ensures (search (head-none, c.in_err-subject.ensures))

pub returns-then-not-holds : goal.returns-then-not-holds
returns-then-not-holds c = search (head-untabbed, c.in_ok-subject.ensures)

pub returns-then-not-holds-2 : goal.returns-then-not-holds-2
returns-then-not-holds-2 c = search (head-unparted, c.in_ok-subject.ensures)

pub returns : goal.returns
returns c = search (head-found, c.in_ok-subject.ensures)
