-- `text::long::put_signed_i64`: the number as it is, or the minus sign and one more than what is missing to -1.
use native.Mathlib.Omega.{arith}
use Rattle.text.proofs.Numbers.{plus-cast, plus-text, minus-fits, minus-cast, minus-below, minus-text}
use Rattle.text.proofs.Overlays.{then, wrote_as}
use Rattle.text.proofs.long.put_signed_i64.Goals as goal

pub overflow_cast-n : goal.overflow_cast-n
overflow_cast-n c = plus-cast c.ranges.n c.if-n-ge0.true

pub returns-then-n-ge0 : goal.returns-then-n-ge0
returns-then-n-ge0 c = wrote_as (plus-text c.ranges.n c.if-n-ge0.true) c.put_decimal_u64.ensures

pub overflow_sub-n : goal.overflow_sub-n
overflow_sub-n c = minus-fits c.ranges.n c.if-n-ge0.false

pub overflow_cast-n-2 : goal.overflow_cast-n-2
overflow_cast-n-2 c = minus-cast c.ranges.n c.if-n-ge0.false

pub overflow_add-n : goal.overflow_add-n
overflow_add-n c = omega (arith, minus-below c.ranges.n c.if-n-ge0.false)

pub returns : goal.returns
returns c = wrote_as (minus-text c.ranges.n c.if-n-ge0.false) (then c.put_byte-digits.ensures c.put_decimal_u64-2.ensures)
