-- `path::is_path`: the length first, then the steps.
use Rattle.path.proofs.Steps.{odd-path, short-path, long_path, fit-path}
use Rattle.path.proofs.is_path.Goals as goal

pub returns-then-n-ne0 : goal.returns-then-n-ne0
returns-then-n-ne0 c = odd-path _ c.if-n-ne0.true

pub returns-then-n-lt3 : goal.returns-then-n-lt3
returns-then-n-lt3 c = short-path _ c.if-n-ne0.false c.if-n-lt3.true

pub returns-then-n-gt18 : goal.returns-then-n-gt18
returns-then-n-gt18 c = long_path _ c.if-n-ne0.false c.if-n-gt18.true

pub returns : goal.returns
returns c = fit-path _ c.if-n-ne0.false c.if-n-lt3.false c.if-n-gt18.false c.steps_follow.ensures
