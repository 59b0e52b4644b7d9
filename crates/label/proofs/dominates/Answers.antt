-- `label::dominates` meets its contract. Assumes nothing.
use Rattle.label.proofs.Mask.{by_mask}
use Rattle.label.proofs.dominates.Goals as goal

pub returns : goal.returns
returns c = by_mask _ _
