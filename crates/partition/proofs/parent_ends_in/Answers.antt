-- `partition::parent_ends_in`: the label of the last step but one.
use Rattle.partition.proofs.Checking.{no-parent, parent-ends}
use Rattle.partition.proofs.parent_ends_in.Goals as goal

pub returns-then-d-lt2 : goal.returns-then-d-lt2
returns-then-d-lt2 c = no-parent _ _ c.depth-d.ensures c.if-d-lt2.true

pub returns : goal.returns
returns c = parent-ends _ _ c.depth-d.ensures c.if-d-lt2.false c.step_label.ensures
