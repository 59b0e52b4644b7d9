-- `carry::put_answer`: the letter, then two numbers.
use native.Mathlib.Omega.{arith}
use Rattle.text.proofs.Overlays.{then, wrote_as}
use Rattle.text.proofs.Widths.{decimal-short}
use Rattle.carry.proofs.Answering.{answer-line}
use Rattle.carry.proofs.put_answer.Goals as goal

pub put_byte-c-requires : goal.put_byte-c-requires
put_byte-c-requires c = omega (arith, decimal-short)

pub put_decimal-d-requires : goal.put_decimal-d-requires
put_decimal-d-requires c = omega (arith, decimal-short)

pub put_byte-requires : goal.put_byte-requires
put_byte-requires c = omega (arith, decimal-short)

pub returns : goal.returns
returns c = wrote_as (answer-line _ _) (then c.put_bytes-a.ensures (then c.put_decimal-b.ensures (then c.put_byte-c.ensures (then c.put_decimal-d.ensures c.put_byte.ensures))))
