-- `slot::content_valid`: a length that no kind allows, or the rule of the kind.
use mathlib.Core.Path.{◌∙◌}
use Rattle.slot_valid.proofs.Validity.{value-long, value-short}
use Rattle.slot_valid.proofs.content_valid.Goals as goal

pub returns-then-len-gt16 : goal.returns-then-len-gt16
returns-then-len-gt16 c = value-long _ c.args.slot.whole c.value_length-len.ensures c.if-len-gt16.true

pub returns : goal.returns
returns c = value-short _ c.args.slot.whole c.value_length-len.ensures (c.from.ensures ∙ c.kind.ensures) c.is_allowed.ensures
