-- `console::run`: a turn leads on from those before it, and the last ends the run.
use Rattle.std.proofs.Common.{◌∙◌, refl, []}
use Rattle.console.specs.Room.{kept_in, left_in}
use Rattle.console.proofs.Turning.{run-begun, run-next, run-ended, run_out, came-taken, came-closed, ran-broken}
use Rattle.console.proofs.run.Goals as goal

pub loop-turn-init : goal.loop-turn-init
loop-turn-init g c = (refl, run-begun _ _ _ c.new.ensures.0)

pub returns-then-branch-eq0 : goal.returns-then-branch-eq0
returns-then-branch-eq0 g c =
    run-ended c.loop-turn.invariant.1 []
    (came-closed _ (left_in c.loop-turn.room) c.turn.new.input (kept_in c.turn.new.self) (left_in c.turn.new.self) c.if-branch-eq0.true c.in_ok-turn.ensures)

pub returns-in_err-turn : goal.returns-in_err-turn
returns-in_err-turn g c = ran-broken c.from_residual.result c.from_residual.ensures.0 (run-ended c.loop-turn.invariant.1 _ c.in_err-turn.ensures.1)

pub loop-turn-preserved : goal.loop-turn-preserved
loop-turn-preserved g c =
    (c.turn.auto.store ∙ c.loop-turn.invariant.0, run-next c.loop-turn.invariant.1 _ (came-taken _ c.turn.new.input c.if-branch-eq0.false c.in_ok-turn.ensures))

pub returns : goal.returns
returns g c = run_out c.loop-turn.invariant.1
