-- `line::start`: three numbers, each with its tab.
use native.Mathlib.Omega.{arith}
use Rattle.text.proofs.Overlays.{puts}
use Rattle.line.proofs.Widths.{field-short}
use Rattle.line.proofs.start.Goals as goal

pub field-requires-2 : goal.field-requires-2
field-requires-2 c = omega (arith, c.field.ensures.1, field-short)

pub field-requires-3 : goal.field-requires-3
field-requires-3 c = omega (arith, c.field.ensures.1, c.field-2.ensures.1, field-short _ c.ranges.depth, field-short _ (record { fits = c.args.step.fits.0 }))

pub returns : goal.returns
returns c = puts c.field.ensures (puts c.field-2.ensures c.field-3.ensures)
