-- `slot::path_valid`: the depth, then the steps, then the last label.
use Rattle.slot_valid.proofs.Validity.{path-none, path-long, path-unfit, path-ends}
use Rattle.slot_valid.proofs.path_valid.Goals as goal

pub returns-then-d-lt1 : goal.returns-then-d-lt1
returns-then-d-lt1 c = path-none _ _ c.depth-d.ensures c.if-d-lt1.true

pub returns-then-d-gt6 : goal.returns-then-d-gt6
returns-then-d-gt6 c = path-long _ _ c.depth-d.ensures c.if-d-lt1.false c.if-d-gt6.true

pub returns-then-not-steps_good : goal.returns-then-not-steps_good
returns-then-not-steps_good c = path-unfit _ _ c.depth-d.ensures c.if-d-lt1.false c.if-d-gt6.false c.steps_good.ensures c.if-not-steps_good.true

pub returns : goal.returns
returns c =
    path-ends _ _ c.depth-d.ensures c.if-d-lt1.false c.if-d-gt6.false
    c.steps_good.ensures c.if-not-steps_good.false c.step_label.ensures
