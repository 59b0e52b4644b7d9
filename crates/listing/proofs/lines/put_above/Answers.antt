-- `listing::put_above`: the line of a path above the slot's own.
use mathlib.Core.Path.{refl}
use native.Mathlib.Omega.{arith}
use Rattle.text.proofs.Overlays.{puts_as}
use Rattle.listing.proofs.Drawing.{used-steps, above-line}
use Rattle.listing.proofs.lines.put_above.Goals as goal

pub step-requires : goal.step-requires
step-requires c = omega (arith, used-steps)

pub overflow_add-d : goal.overflow_add-d
overflow_add-d c = omega (arith, used-steps)

pub overflow_cast-d : goal.overflow_cast-d
overflow_cast-d c = omega (arith, used-steps)

pub returns : goal.returns
returns c =
    let shows = above-line _ _ c.requires.at_bound.1 refl c.step.ensures in
    puts_as shows c.removed.ensures
