-- `numbers::digits_at`: the digits passed stand for the value.
use Rattle.scan.proofs.Numerals.{Ran}
use Rattle.scan.proofs.numbers.digits_at.Given as goal

abbrev pub invariant-loop-i : goal.invariant-loop-i
invariant-loop-i l = Ran l.text l.at l.value l.i
