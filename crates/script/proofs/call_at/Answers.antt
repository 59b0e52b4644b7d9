-- `call_at`: the path ends the line, or a value follows.
use Rattle.script.proofs.Callings.{call-bare, call-valueless, call-insert, call-update, call-other}
use Rattle.script.proofs.call_at.Goals as goal

pub returns-then-at-line : goal.returns-then-at-line
returns-then-at-line c = search call-bare

pub returns-in_err-value : goal.returns-in_err-value
returns-in_err-value c = rw c.from_residual.ensures (search (call-valueless, c.in_err-value.ensures))

pub returns-in-73 : goal.returns-in-73
returns-in-73 c = search (call-insert, c.in_ok-value.ensures)

pub returns-in-85 : goal.returns-in-85
returns-in-85 c = search (call-update, c.in_ok-value.ensures)

pub returns-in_default : goal.returns-in_default
returns-in_default c = search call-other
