-- `partition::is_formed_by`: the count, the zeros, then the slots.
use borrow.Author.Rules.{rules}
use mathlib.Core.Path.{◌∙◌}
use Rattle.octets.proofs.Tests.{slice-bytes}
use Rattle.partition.proofs.Checking.{too_many, head-used, spare-used, formed-by-slots}
use Rattle.partition.proofs.is_formed_by.Goals as goal

pub returns-then-c-gt32 : goal.returns-then-c-gt32
returns-then-c-gt32 g c = too_many _ _ _ (search rules)

pub returns-then-not-is_zero : goal.returns-then-not-is_zero
returns-then-not-is_zero g c = head-used _ _ _ c.is_zero.ensures c.if-not-is_zero.true

pub returns-then-not-spare_zero : goal.returns-then-not-spare_zero
returns-then-not-spare_zero g c = spare-used _ _ _ c.count-c.ensures c.spare_zero.ensures c.if-not-spare_zero.true

pub returns : goal.returns
returns g c =
    c.slots_good.ensures
    ∙ formed-by-slots g.met.O.StepOrder.keyed _ _ c.requires.0 (slice-bytes c.args.bytes.now c.type_inv.bytes).bytes c.requires.1 c.count-c.ensures c.if-c-gt32.false
    c.is_zero.ensures c.if-not-is_zero.false c.spare_zero.ensures c.if-not-spare_zero.false
