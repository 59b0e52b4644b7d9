-- `signed::signed_at`: a number without a sign, or one behind a minus sign.
use borrow.Author.Rules.{rules}
use Rattle.scan.proofs.Signs.{signed-plain, signed-none, signed-zero, signed-found}
use Rattle.scan.proofs.signed.signed_at.Goals as goal

pub returns-then-not-holds : goal.returns-then-not-holds
returns-then-not-holds c = search signed-plain

pub returns-in_err-n : goal.returns-in_err-n
returns-in_err-n c = rw c.from_residual.ensures (search (signed-none, c.in_err-n.ensures))

pub returns-then-n-eq0 : goal.returns-then-n-eq0
returns-then-n-eq0 c = search (rules, signed-zero, c.in_ok-n.ensures)

pub returns : goal.returns
returns c = search (signed-found, c.in_ok-n.ensures)
