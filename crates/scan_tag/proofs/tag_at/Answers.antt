-- `tag_at`: a name that is not 0, a label and the attributes.
use Rattle.scan_tag.proofs.Starting.{tag-nameless, tag-zero, tag-unlabelled, tag-unmarked, tag-found}
use Rattle.scan_tag.proofs.tag_at.Goals as goal

pub returns-in_err-name : goal.returns-in_err-name
returns-in_err-name c = rw c.from_residual.ensures (search (tag-nameless, c.in_err-name.ensures))

pub returns-then-name-eq0 : goal.returns-then-name-eq0
returns-then-name-eq0 c = search (tag-zero, c.in_ok-name.ensures)

pub returns-in_err-label : goal.returns-in_err-label
returns-in_err-label c = rw c.from_residual-in_err-label.ensures (search (tag-unlabelled, c.in_ok-name.ensures, c.in_err-label.ensures))

pub returns-in_err-shown : goal.returns-in_err-shown
returns-in_err-shown c = rw c.from_residual-in_err-shown.ensures (search (tag-unmarked, c.in_ok-name.ensures, c.in_ok-label.ensures, c.in_err-shown.ensures))

pub returns : goal.returns
returns c = search (tag-found, c.in_ok-name.ensures, c.in_ok-label.ensures, c.in_ok-shown.ensures)
