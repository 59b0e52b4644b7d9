-- `end_at`: the number, which is the name's, and the end of the tag.
use Rattle.std.proofs.Common.{ap, not, arith}
use Rattle.scan.proofs.Goings.{begins-within}
use Rattle.scan_tag.proofs.Ending.{end-nameless, end-other, end-open, end-found}
use Rattle.scan_tag.proofs.end_at.Goals as goal

pub returns-in_err-read : goal.returns-in_err-read
returns-in_err-read c = rw c.from_residual.ensures (search (end-nameless, c.in_err-read.ensures))

pub returns-then-read-name : goal.returns-then-read-name
returns-then-read-name c = search (end-other, c.in_ok-read.ensures)

pub returns-then-not-holds : goal.returns-then-not-holds
returns-then-not-holds c = search (end-open, c.in_ok-read.ensures)

pub overflow_add-result : goal.overflow_add-result
overflow_add-result c = omega (arith, begins-within c.args.text.now c.in_ok-read.end 62 c.holds.ensures (ap not c.if-not-holds.false))

pub returns : goal.returns
returns c = search (end-found, c.in_ok-read.ensures)
