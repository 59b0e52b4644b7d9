-- `keys::key_at`: no room, no name, no room behind it, no label, or the key of both.
use Rattle.siblings.proofs.Reading.{key-short, key-nameless, key-cut, key-unlabelled, key-found}
use Rattle.siblings.proofs.keys.key_at.Goals as goal

pub returns-then-text-at-lt2 : goal.returns-then-text-at-lt2
returns-then-text-at-lt2 c = search key-short

pub returns-in_err-name : goal.returns-in_err-name
returns-in_err-name c = rw c.from_residual.ensures (search (key-nameless, c.in_err-name.ensures))

pub returns-then-text-gap-lt8 : goal.returns-then-text-gap-lt8
returns-then-text-gap-lt8 c = search (key-cut, c.in_ok-name.ensures)

pub returns-in_err-label : goal.returns-in_err-label
returns-in_err-label c = rw c.from_residual-in_err-label.ensures (search (key-unlabelled, c.in_ok-name.ensures, c.in_err-label.ensures))

pub returns : goal.returns
returns c = search (key-found, c.in_ok-name.ensures, c.in_ok-label.ensures)
