-- `numbers::is_led`: no digit, one, or more.
use Rattle.scan.proofs.Numerals.{led-more}
use Rattle.scan.proofs.numbers.is_led.Goals as goal

pub returns : goal.returns
returns c = search led-more
