-- `table::open`: the length, then the subject.
use Rattle.table.proofs.Walking.{open-one, open-two, open-both}
use Rattle.table.proofs.open.Goals as goal

pub returns-then-store-ne41088 : goal.returns-then-store-ne41088
returns-then-store-ne41088 c = open-one _ _ c.if-store-ne41088.true

pub returns-then-subject-ge32 : goal.returns-then-subject-ge32
returns-then-subject-ge32 c = open-two _ _ c.if-store-ne41088.false c.if-subject-ge32.true

pub returns : goal.returns
returns c = open-both _ _ c.if-store-ne41088.false c.if-subject-ge32.false
