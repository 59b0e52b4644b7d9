-- `values::group_at`: a minus sign, and the line's end.
use Rattle.script.proofs.Showings.{group-more, group-found}
use Rattle.script.proofs.values.group_at.Goals as goal

pub returns-then-at-line : goal.returns-then-at-line
returns-then-at-line c = search group-more

pub returns : goal.returns
returns c = search group-found
