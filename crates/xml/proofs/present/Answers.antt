-- `xml::present`: name and label, then the mark and the letter of the kind.
use native.Mathlib.Omega.{arith}
use Rattle.text.proofs.Overlays.{puts, puts_as}
use Rattle.xml.proofs.Tags.{present-tag}
use Rattle.xml.proofs.Widths.{start-short}
use Rattle.xml.proofs.present.Goals as goal

pub put_bytes-requires : goal.put_bytes-requires
put_bytes-requires c = omega (arith, c.start.ensures.1, start-short _ c.args.step.fits)

pub put_byte-requires : goal.put_byte-requires
put_byte-requires c = omega (arith, c.start.ensures.1, start-short _ c.args.step.fits, c.put_bytes.ensures.1)

pub put_bytes-requires-2 : goal.put_bytes-requires-2
put_bytes-requires-2 c =
    omega (arith, c.start.ensures.1, start-short _ c.args.step.fits, c.put_bytes.ensures.1, c.put_byte.ensures.1)

pub returns : goal.returns
returns c =
    puts_as (present-tag _ _ c.letter.ensures) (puts c.start.ensures (puts c.put_bytes.ensures (puts c.put_byte.ensures c.put_bytes-2.ensures)))
