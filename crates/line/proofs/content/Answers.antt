-- `line::content`: the letter, the value, and what parts and ends them.
use native.Mathlib.Omega.{arith}
use Rattle.line.proofs.Lines.{content-end}
use Rattle.text.proofs.Overlays.{puts, puts_as}
use Rattle.text.proofs.Widths.{shown-short}
use Rattle.line.proofs.content.Goals as goal

pub put_byte-requires-3 : goal.put_byte-requires-3
put_byte-requires-3 c = omega (arith, c.put_value.ensures.1, shown-short)

pub returns : goal.returns
returns c =
    puts_as (content-end _ _ c.letter.ensures)
    (puts c.put_byte.ensures (puts c.put_byte-2.ensures (puts c.put_value.ensures c.put_byte-3.ensures)))
