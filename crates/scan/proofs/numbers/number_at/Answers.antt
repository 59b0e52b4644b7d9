-- `numbers::number_at`: the digits stand for too much, do not begin well, or are the number.
use Rattle.scan.proofs.Numerals.{number-over, number-unled, number-found}
use Rattle.scan.proofs.numbers.number_at.Goals as goal

pub returns-then-most-value : goal.returns-then-most-value
returns-then-most-value c = search number-over

pub returns-then-not-is_led : goal.returns-then-not-is_led
returns-then-not-is_led c = search number-unled

pub returns : goal.returns
returns c = search number-found
