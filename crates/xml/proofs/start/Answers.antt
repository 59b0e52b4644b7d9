-- `xml::start`: two pieces, each with a number behind it.
use native.Mathlib.Omega.{arith}
use Rattle.text.proofs.Overlays.{puts, puts_as, ends_by}
use Rattle.text.proofs.Widths.{decimal-short}
use Rattle.xml.proofs.Tags.{start-parts}
use Rattle.xml.proofs.start.Goals as goal

pub put_bytes-requires-2 : goal.put_bytes-requires-2
put_bytes-requires-2 c = omega (arith, c.put_bytes.ensures.1, ends_by c.put_decimal.ensures.1 (decimal-short _ (record { fits = c.args.step.fits.0 })))

pub put_decimal-requires-2 : goal.put_decimal-requires-2
put_decimal-requires-2 c = omega (arith, c.put_bytes.ensures.1, ends_by c.put_decimal.ensures.1 (decimal-short _ (record { fits = c.args.step.fits.0 })), c.put_bytes-2.ensures.1)

pub returns : goal.returns
returns c = puts_as (start-parts _) (puts c.put_bytes.ensures (puts c.put_decimal.ensures (puts c.put_bytes-2.ensures c.put_decimal-2.ensures)))
