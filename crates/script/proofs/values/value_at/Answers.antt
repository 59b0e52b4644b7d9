-- `values::value_at`: a letter, a tab and what stands for the value.
use Rattle.script.proofs.Showings.{value-untabbed, value-shown}
use Rattle.script.proofs.values.value_at.Goals as goal

pub returns-then-not-holds : goal.returns-then-not-holds
returns-then-not-holds c = search value-untabbed

pub returns-in-71 : goal.returns-in-71
returns-in-71 c = search value-shown

pub returns-in-77 : goal.returns-in-77
returns-in-77 c = search value-shown

pub returns-in-84 : goal.returns-in-84
returns-in-84 c = search value-shown
