-- `line::removed`: depth, name and label, then the mark.
use native.Mathlib.Omega.{arith}
use Rattle.line.proofs.Lines.{removed-line}
use Rattle.line.proofs.Widths.{start-short}
use Rattle.text.proofs.Overlays.{puts, puts_as}
use Rattle.line.proofs.removed.Goals as goal

pub put_bytes-requires : goal.put_bytes-requires
put_bytes-requires c = omega (arith, c.start.ensures.1, start-short c.ranges.depth c.args.step.fits)

pub returns : goal.returns
returns c = puts_as (removed-line _ _) (puts c.start.ensures c.put_bytes.ensures)
