-- `listing::shared_above`: the parent's steps before the first element, then the two slots compared.
use mathlib.Core.Path.{sym, ◌∙◌}
use Rattle.listing.proofs.Walking.{first-shares, before-shares}
use Rattle.listing.proofs.shared_above.Goals as goal

pub returns-then-i-eq0 : goal.returns-then-i-eq0
returns-then-i-eq0 c = c.steps_above.ensures ∙ sym (first-shares c.args.seen.now.path.now c.args.seen.now.refers c.requires c.if-i-eq0.true)

pub returns : goal.returns
returns c = before-shares c.args.seen.now.path.now c.args.seen.now.refers c.requires c.if-i-eq0.false c.slot.ensures c.slot-2.ensures c.compare.ensures
