-- `values::measure_at`: a number, and the line's end.
use Rattle.script.proofs.Showings.{measure-none, measure-more, measure-found}
use Rattle.script.proofs.values.measure_at.Goals as goal

pub returns-in_err-m : goal.returns-in_err-m
returns-in_err-m c = rw c.from_residual.ensures (search (measure-none, c.in_err-m.ensures))

pub returns-then-next-line : goal.returns-then-next-line
returns-then-next-line c = search (measure-more, c.in_ok-m.ensures)

pub returns : goal.returns
returns c = search (measure-found, c.in_ok-m.ensures)
