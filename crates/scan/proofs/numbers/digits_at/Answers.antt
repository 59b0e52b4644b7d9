-- `numbers::digits_at`: the digits passed stand for the value.
use Rattle.scan.proofs.Numerals.{ran-next, digit-least}
use Rattle.scan.proofs.numbers.digits_at.Goals as goal

pub digit-requires : goal.digit-requires
digit-requires c = search digit-least

pub loop-i-preserved : goal.loop-i-preserved
loop-i-preserved c = search ran-next
