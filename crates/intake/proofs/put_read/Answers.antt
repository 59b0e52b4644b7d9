-- `put_read`: the value that is read is the element's, and it is put in.
use Rattle.intake.proofs.Entering.{next-asked, next-shows, next-below, next-value, next-size, next-on}
use Rattle.intake.proofs.put_read.Goals as goal

pub value_at-requires : goal.value_at-requires
value_at-requires c = next-asked c.requires.going c.requires.tells

pub returns-in_default : goal.returns-in_default
returns-in_default c = absurd (next-shows c.requires.going c.requires.tells c.in_default.is)

pub returns-in_default-value_at : goal.returns-in_default-value_at
returns-in_default-value_at c =
    absurd (next-value c.requires.going c.requires.tells c.in-Some.is c.value_at.new.value c.in_default-value_at.ensures)

pub put_below-requires : goal.put_below-requires
put_below-requires c =
    (next-below c.requires.going c.requires.tells, next-size c.requires.going c.requires.tells c.in-Some.is _ c.in-Some-value_at.ensures)

pub returns : goal.returns
returns c = λ goal i is going tells.
    next-on going tells c.in-Some.is _ c.in-Some-value_at.ensures c.put_below.ensures.stepped c.put_below.ensures.part_after
