-- `text_at`: the characters passed stand in the buffer.
use borrow.Author.Rules.{rules}
use Rattle.scan_value.proofs.Texts.{text-over, text-stop, text-empty, text-found}
use Rattle.scan_value.proofs.text_at.Goals as goal

pub returns-then-n-ge16 : goal.returns-then-n-ge16
returns-then-n-ge16 c = search (rules, text-over)

pub returns-in_err-x : goal.returns-in_err-x
returns-in_err-x c = rw c.from_residual.ensures (search (rules, text-stop, c.in_err-x.ensures))

pub returns-then-n-eq0 : goal.returns-then-n-eq0
returns-then-n-eq0 c = search text-empty

pub returns : goal.returns
returns c = search text-found
