-- `letter_at`: the tag does not end behind one byte, or that byte tells the kind, or none.
use borrow.Author.Rules.{rules}
use Rattle.scan_tag.proofs.Marking.{letter-open, letter-inside, letter-is, letter-other}
use Rattle.scan_tag.proofs.letter_at.Goals as goal

pub returns-then-not-starts : goal.returns-then-not-starts
returns-then-not-starts c = search letter-open

pub bounds-text-at : goal.bounds-text-at
bounds-text-at c = search letter-inside

pub returns-in-71 : goal.returns-in-71
returns-in-71 c = search (letter-is, rules)

pub returns-in-77 : goal.returns-in-77
returns-in-77 c = search (letter-is, rules)

pub returns-in-84 : goal.returns-in-84
returns-in-84 c = search (letter-is, rules)

pub returns-in_default : goal.returns-in_default
returns-in_default c = search letter-other
