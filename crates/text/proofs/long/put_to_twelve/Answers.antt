-- `text::long::put_to_twelve`: what 32 bits hold, or the hundred millions and eight digits.
use native.Mathlib.Omega.{arith}
use mathlib.Core.Path.{sym}
use Rattle.text.proofs.Numbers.{decimal-eights}
use Rattle.text.proofs.Overlays.{then, wrote_as, ends_by}
use Rattle.text.proofs.Widths.{decimal-width}
use Rattle.text.proofs.long.put_to_twelve.Goals as goal

pub put_eight-requires : goal.put_eight-requires
put_eight-requires c = (omega (arith, ends_by c.put_decimal-last.ensures (decimal-width _ 3 (omega arith))), omega arith)

pub returns : goal.returns
returns c = wrote_as (sym (decimal-eights _ (omega arith))) (then c.put_decimal-last.ensures c.put_eight.ensures)
