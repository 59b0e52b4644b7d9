-- `line::head`: the word, then two numbers.
use native.Mathlib.Omega.{arith}
use Rattle.line.proofs.Lines.{head-line}
use Rattle.line.proofs.Widths.{field-short}
use Rattle.text.proofs.Overlays.{puts, puts_as, ends_by}
use Rattle.text.proofs.Widths.{decimal-short}
use Rattle.line.proofs.head.Goals as goal

pub put_decimal-requires : goal.put_decimal-requires
put_decimal-requires c = omega (arith, c.put_bytes.ensures.1, c.field.ensures.1, field-short)

pub put_byte-requires : goal.put_byte-requires
put_byte-requires c =
    omega (arith, c.put_bytes.ensures.1, c.field.ensures.1, field-short _ c.ranges.subject, ends_by c.put_decimal.ensures.1 (decimal-short _ (record { fits = omega arith })))

pub returns : goal.returns
returns c = puts_as (head-line _ _) (puts c.put_bytes.ensures (puts c.field.ensures (puts c.put_decimal.ensures c.put_byte.ensures)))
