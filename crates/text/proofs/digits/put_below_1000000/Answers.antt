-- `text::digits::put_below_1000000`: below ten thousand, or the ten thousands and four digits.
use native.Mathlib.Omega.{arith}
use mathlib.Core.Path.{sym}
use Rattle.text.proofs.Numbers.{decimal-myriads}
use Rattle.text.proofs.Overlays.{then, wrote_as, ends_by}
use Rattle.text.proofs.Widths.{decimal-width}
use Rattle.text.proofs.digits.put_below_1000000.Goals as goal

pub put_four-requires : goal.put_four-requires
put_four-requires c = (omega (arith, ends_by c.put_below_100-last.ensures (decimal-width _ 1 (omega arith))), omega arith)

pub returns : goal.returns
returns c = wrote_as (sym (decimal-myriads _ c.if-n-lt10000.false)) (then c.put_below_100-last.ensures c.put_four.ensures)
