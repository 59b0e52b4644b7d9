-- `listing::put_element`: the lines of the prefixes with up to d steps are written.
use mathlib.Core.Path.{refl, ◌∙◌}
use native.Mathlib.Omega.{arith}
use Rattle.text.proofs.Overlays.{going_step, going_end}
use Rattle.listing.proofs.Drawing.{used-steps, lines_more, lines-last, above-short}
use Rattle.listing.proofs.lines.put_element.Goals as goal

pub put_above-requires-clause-at_bound : goal.put_above-requires-clause-at_bound
put_above-requires-clause-at_bound c = (omega (arith, used-steps), omega arith)

pub loop-d-preserved : goal.loop-d-preserved
loop-d-preserved c = (
  omega arith,
  omega arith,
  omega (arith, c.loop-d.invariant, c.put_above.ensures.1, above-short c.requires.used c.loop-d.d (omega arith)),
  c.put_above.ensures.0 ∙ c.loop-d.invariant.3,
  going_step _ (lines_more _ c.loop-d.d (omega arith)) c.loop-d.invariant.4 c.put_above.ensures.1,
)

pub put_own-requires-clause-at_bound : goal.put_own-requires-clause-at_bound
put_own-requires-clause-at_bound c = omega (arith, used-steps)

pub returns : goal.returns
returns c = (
  c.put_own.ensures.0 ∙ c.loop-d.invariant.3,
  going_end refl (going_step _ (lines-last _ c.loop-d.d (omega arith)) c.loop-d.invariant.4 c.put_own.ensures.1),
)
