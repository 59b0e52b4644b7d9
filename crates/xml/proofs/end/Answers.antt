-- `xml::end`: the name between two pieces.
use native.Mathlib.Omega.{arith}
use Rattle.text.proofs.Overlays.{puts, puts_as, ends_by}
use Rattle.text.proofs.Widths.{decimal-short}
use Rattle.xml.proofs.Tags.{end-parts}
use Rattle.xml.proofs.end.Goals as goal

pub put_byte-requires : goal.put_byte-requires
put_byte-requires c = omega (arith, c.put_bytes.ensures.1, ends_by c.put_decimal.ensures.1 (decimal-short _ c.ranges.name))

pub returns : goal.returns
returns c = puts_as (end-parts _) (puts c.put_bytes.ensures (puts c.put_decimal.ensures c.put_byte.ensures))
