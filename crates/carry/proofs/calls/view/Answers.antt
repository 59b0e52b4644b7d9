-- `calls::view`: the call on the first part of the output.
use Rattle.carry.proofs.Doings.{view-performed}
use Rattle.carry.proofs.calls.view.Goals as goal

pub returns-in-Ok : goal.returns-in-Ok
returns-in-Ok c = view-performed _ _ c.args.path.now c.args.out.now 16384 c.requires (rw c.in-Ok.is at c.view-answer.ensures)

pub returns-in-Err : goal.returns-in-Err
returns-in-Err c = rw c.in-Err.is (view-performed _ _ c.args.path.now c.args.out.now 16384 c.requires (rw c.in-Err.is at c.view-answer.ensures))
