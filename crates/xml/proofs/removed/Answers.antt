-- `xml::removed`: name and label, then the mark.
use native.Mathlib.Omega.{arith}
use Rattle.text.proofs.Overlays.{puts, puts_as}
use Rattle.xml.proofs.Tags.{removed-tag}
use Rattle.xml.proofs.Widths.{start-short}
use Rattle.xml.proofs.removed.Goals as goal

pub put_bytes-requires : goal.put_bytes-requires
put_bytes-requires c = omega (arith, c.start.ensures.1, start-short _ c.args.step.fits)

pub returns : goal.returns
returns c = puts_as (removed-tag _) (puts c.start.ensures c.put_bytes.ensures)
