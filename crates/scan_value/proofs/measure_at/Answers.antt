-- `measure_at`: a number, and a tag behind it.
use mathlib.Core.List.{[]}
use Rattle.scan_value.proofs.Valuing.{measure-none, measure-more, measure-found}
use Rattle.scan_value.proofs.measure_at.Goals as goal

pub returns-in_err-m : goal.returns-in_err-m
returns-in_err-m c = rw c.from_residual.ensures (measure-none c.args.text.now c.args.at c.in_err-m.ensures [])

pub returns-then-not-holds : goal.returns-then-not-holds
returns-then-not-holds c = search (measure-more, c.in_ok-m.ensures)

pub returns : goal.returns
returns c = search (measure-found, c.in_ok-m.ensures)
