-- `reach::shared_before`: none before the first slot, else the slot of the number before.
use Rattle.reach.proofs.Shared.{shared-less}
use Rattle.reach.proofs.shared_before.Goals as goal

pub returns : goal.returns
returns c = shared-less _ _ _ c.if-i-eq0.false c.shared_at.ensures
