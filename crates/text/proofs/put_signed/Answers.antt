-- `text::put_signed`: the number as it is, or the minus sign and what is missing to 2^32.
use Rattle.text.proofs.Numbers.{signed-plus, signed-minus}
use Rattle.text.proofs.Overlays.{then, wrote_as}
use Rattle.text.proofs.put_signed.Goals as goal

pub returns-then-m-lt2147483648 : goal.returns-then-m-lt2147483648
returns-then-m-lt2147483648 c = wrote_as (signed-plus _ c.if-m-lt2147483648.true) c.put_decimal.ensures

pub returns : goal.returns
returns c = wrote_as (signed-minus _ c.if-m-lt2147483648.false c.ranges.m.fits) (then c.put_byte-digits.ensures c.put_decimal-2.ensures)
