-- `char_at`: an escape, the end, or a byte that stands for itself or not.
use Rattle.scan_value.proofs.Characters.{char-past, char-other, char-plain}
use Rattle.scan_value.proofs.char_at.Goals as goal

pub returns-then-text-at : goal.returns-then-text-at
returns-then-text-at c = search char-past

pub returns-then-not-is_plain : goal.returns-then-not-is_plain
returns-then-not-is_plain c = search char-other

pub returns : goal.returns
returns c = search char-plain
