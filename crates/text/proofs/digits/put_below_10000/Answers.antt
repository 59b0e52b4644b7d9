-- `text::digits::put_below_10000`: below a hundred, or the hundreds and two digits.
use native.Mathlib.Omega.{arith}
use mathlib.Core.Path.{sym}
use Rattle.text.proofs.Numbers.{decimal-hundreds}
use Rattle.text.proofs.Overlays.{then, wrote_as, ends_by}
use Rattle.text.proofs.Widths.{decimal-width}
use Rattle.text.proofs.digits.put_below_10000.Goals as goal

pub put_pair-requires : goal.put_pair-requires
put_pair-requires c = (omega (arith, ends_by c.put_below_100-last.ensures (decimal-width _ 1 (omega arith))), omega arith)

pub returns : goal.returns
returns c = wrote_as (sym (decimal-hundreds _ c.if-n-lt100.false)) (then c.put_below_100-last.ensures c.put_pair.ensures)
