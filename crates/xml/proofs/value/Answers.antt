-- `xml::value`: as the rule of the kind says.
use Rattle.model.proofs.Slots.{allowed-length}
use Rattle.text.proofs.Overlays.{puts_as}
use Rattle.text.proofs.Showing.{measure-length}
use Rattle.xml.proofs.Tags.{xml-as-number, xml-as-text}
use Rattle.xml.proofs.value.Goals as goal

pub measure_of-requires : goal.measure_of-requires
measure_of-requires c = measure-length _ _ c.requires.t c.rule-rule.ensures c.if-rule.true

pub returns-then-rule : goal.returns-then-rule
returns-then-rule c = puts_as (xml-as-number _ _ c.requires.t c.rule-rule.ensures c.if-rule.true c.measure_of.ensures) c.put_signed.ensures

pub characters-requires : goal.characters-requires
characters-requires c = (c.requires.at_bound, allowed-length _ _ c.requires.t)

pub returns-else-rule : goal.returns-else-rule
returns-else-rule c = puts_as (xml-as-text _ _ c.requires.t c.rule-rule.ensures c.if-rule.false) c.characters.ensures
