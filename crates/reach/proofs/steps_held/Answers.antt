-- `reach::steps_held`: the greater of what the elements beside the place share.
use Rattle.reach.proofs.Shared.{held-seen}
use Rattle.reach.proofs.steps_held.Goals as goal

pub returns : goal.returns
returns c = held-seen c.args.part.in_order _ c.requires c.shared_before.ensures c.shared_at.ensures c.max.ensures
