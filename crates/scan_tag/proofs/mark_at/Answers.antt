-- `mark_at`: a removed element, a live one and its letter, or neither.
use Rattle.scan_tag.proofs.Marking.{mark-removed, mark-unremoved, mark-none, present-within, mark-present, mark-letterless}
use Rattle.scan_tag.proofs.mark_at.Goals as goal

pub returns-then-not-starts : goal.returns-then-not-starts
returns-then-not-starts c = search mark-unremoved

pub returns-then-holds : goal.returns-then-holds
returns-then-holds c = search mark-removed

pub returns-then-not-starts-2 : goal.returns-then-not-starts-2
returns-then-not-starts-2 c = search mark-none

pub letter_at-requires : goal.letter_at-requires
letter_at-requires c = search present-within

pub returns-in_err-kind : goal.returns-in_err-kind
returns-in_err-kind c = rw c.from_residual.ensures (search (mark-letterless, c.in_err-kind.ensures))

pub returns : goal.returns
returns c = search (mark-present, c.in_ok-kind.ensures)
