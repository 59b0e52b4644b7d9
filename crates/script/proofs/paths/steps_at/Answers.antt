-- `paths::steps_at`: the steps passed stand in the buffer.
use Rattle.std.proofs.Common.{ap, not}
use Rattle.script.proofs.Trails.{trail-none, trail-end, trail-stop, trail-next}
use Rattle.script.proofs.paths.steps_at.Goals as goal

pub returns-in_err-name : goal.returns-in_err-name
returns-in_err-name c = rw c.from_residual.ensures (search (trail-none, c.in_err-name.ensures))

pub returns-then-is_closed : goal.returns-then-is_closed
returns-then-is_closed c = search (trail-end, c.in_ok-name.ensures)

pub returns-then-not-holds : goal.returns-then-not-holds
returns-then-not-holds c = search (trail-stop, c.in_ok-name.ensures)

pub loop-name-preserved : goal.loop-name-preserved
loop-name-preserved c =
    trail-next c.loop-name.invariant c.requires.at_in_bounds.1 c.requires.in_bounds c.in_ok-name.ensures
    c.put_step.ensures c.is_closed.ensures c.if-is_closed.false c.holds.ensures (ap not c.if-not-holds.false)
