-- `text::put_byte`: skipped past the end, else written.
use Rattle.text.proofs.Overlays.{wrote-past, wrote-set}
use Rattle.text.proofs.put_byte.Goals as goal

pub returns-then-out-at : goal.returns-then-out-at
returns-then-out-at c = wrote-past _ _ _ c.if-out-at.true

pub returns : goal.returns
returns c = wrote-set _ _ _ c.if-out-at.false
