-- `xml::head`: the subject between two pieces.
use native.Mathlib.Omega.{arith}
use Rattle.text.proofs.Overlays.{puts, puts_as, ends_by}
use Rattle.text.proofs.Widths.{decimal-short}
use Rattle.xml.proofs.Tags.{outer-parts}
use Rattle.xml.proofs.head.Goals as goal

pub put_bytes-requires-2 : goal.put_bytes-requires-2
put_bytes-requires-2 c = omega (arith, c.put_bytes.ensures.1, ends_by c.put_decimal.ensures.1 (decimal-short _ c.ranges.subject))

pub returns : goal.returns
returns c = puts_as (outer-parts _) (puts c.put_bytes.ensures (puts c.put_decimal.ensures c.put_bytes-2.ensures))
