-- `xml::characters`: the characters so far are written.
use mathlib.Core.Path.{◌≡◌}
use Rattle.xml.proofs.Tags.{Escaping}
use Rattle.xml.proofs.characters.Given as goal

abbrev pub invariant-loop-x : goal.invariant-loop-x
invariant-loop-x l =
    (l.out.bytes.ghost_name ≡ l.initial.out.bytes.ghost_name) × Escaping l.s l.initial.out.bytes.now l.initial.out.at l.out.bytes.now l.out.at l.x-index
