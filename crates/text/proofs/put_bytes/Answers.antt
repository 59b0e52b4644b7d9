-- `text::put_bytes`: all bytes, those that the output has room for, or none.
use native.Mathlib.Omega.{arith}
use Rattle.text.proofs.Overlays.{wrote-past, wrote-room, wrote-cut}
use Rattle.text.proofs.put_bytes.Goals as goal

pub returns-then-end-out : goal.returns-then-end-out
returns-then-end-out c = wrote-room _ _ _ c.copy_from_slice.ensures.after c.if-end-out.true

pub returns-then-at-out : goal.returns-then-at-out
returns-then-at-out c = wrote-cut _ _ _ c.copy_from_slice-then-at-out.ensures.after (omega (arith, c.if-at-out.true)) (omega (arith, c.if-end-out.false))

pub returns-else-at-out : goal.returns-else-at-out
returns-else-at-out c = wrote-past _ _ _ (omega (arith, c.if-at-out.false))
