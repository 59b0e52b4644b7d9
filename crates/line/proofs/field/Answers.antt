-- `line::field`: the number, then the tab.
use native.Mathlib.Omega.{arith}
use Rattle.text.proofs.Overlays.{puts}
use Rattle.text.proofs.Widths.{decimal-short}
use Rattle.line.proofs.field.Goals as goal

pub put_byte-requires : goal.put_byte-requires
put_byte-requires c = omega (arith, c.put_decimal.ensures.1, decimal-short)

pub returns : goal.returns
returns c = puts c.put_decimal.ensures c.put_byte.ensures
