-- `listing::step`: the name and the label as they are read.
use mathlib.Core.Path.{◌∙◌}
use Rattle.listing.proofs.lines.step.Goals as goal

pub returns : goal.returns
returns c = λ i. record { name = c.step_name.ensures.0 i; label = (c.from.ensures ∙ c.step_label.ensures) i }
