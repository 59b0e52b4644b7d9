-- `Slot::kind`: byte 19.
use mathlib.Core.Path.{refl}
use Rattle.model.specs.Slot.{read_content}
use Rattle.slot.proofs.Slot.kind.Goals as goal

pub returns : goal.returns
unfolding read_content
returns c = refl
