-- `Seen::steps_above`: the root's parent is the root, another has one step less.
use native.Mathlib.Omega.{arith}
use Rattle.model.specs.Path.{steps_of}
use Rattle.model.proofs.Prefixes.{length-parent}
use Rattle.path.proofs.Steps.{length-steps}
use Rattle.order.proofs.Seen.steps_above.Goals as goal

pub returns : goal.returns
returns c = omega (arith, length-parent (steps_of c.args.self.now.path.now), length-steps c.args.self.now.path.now, c.saturating_sub.ensures)
