-- `paths::step_at`: a name, a colon and a label.
use Rattle.script.proofs.Trails.{step-nameless, step-alone, step-unlabelled, step-found}
use Rattle.script.proofs.paths.step_at.Goals as goal

pub returns-in_err-name : goal.returns-in_err-name
returns-in_err-name c = rw c.from_residual.ensures (search (step-nameless, c.in_err-name.ensures))

pub returns-then-not-holds : goal.returns-then-not-holds
returns-then-not-holds c = search (step-alone, c.in_ok-name.ensures)

pub returns-in_err-label : goal.returns-in_err-label
returns-in_err-label c = rw c.from_residual-in_err-label.ensures (search (step-unlabelled, c.in_ok-name.ensures, c.in_err-label.ensures))

pub returns : goal.returns
returns c = search (step-found, c.in_ok-name.ensures, c.in_ok-label.ensures)
