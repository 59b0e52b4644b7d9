-- `listing::put_own`: the line of the slot's own path.
use mathlib.Core.Path.{refl}
use native.Mathlib.Omega.{arith}
use mathlib.Core.Path.{◌∙◌}
use Rattle.kind.proofs.Rules.{known-kind}
use Rattle.text.proofs.Overlays.{puts_as}
use Rattle.listing.proofs.Drawing.{used-some, used-steps, used-value, used-content, own_line}
use Rattle.listing.proofs.lines.put_own.Goals as goal

pub overflow_sub-depth : goal.overflow_sub-depth
overflow_sub-depth c = omega (arith, used-some)

pub step-last-requires : goal.step-last-requires
step-last-requires c = omega (arith, c.depth-depth.ensures.0, used-some c.requires.used, used-steps c.requires.used)

pub numbered-kind-requires : goal.numbered-kind-requires
numbered-kind-requires c = known-kind _ _ (used-content c.requires.used c.kind.ensures refl)

pub value-value-requires : goal.value-value-requires
value-value-requires c = omega (arith, used-value)

pub live-requires-clause-t : goal.live-requires-clause-t
live-requires-clause-t c = used-content c.requires.used (c.numbered-kind.ensures ∙ c.kind.ensures) c.value-value.ensures

pub returns : goal.returns
returns c =
    let some = used-some c.requires.used in
    let shows = own_line _ some c.depth-depth.ensures refl c.step-last.ensures (c.numbered-kind.ensures ∙ c.kind.ensures) c.value-value.ensures in
    puts_as shows c.live.ensures
