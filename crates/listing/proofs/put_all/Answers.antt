-- `listing::put_all`: the head, then the lines behind it.
use borrow.Author.Rules.{rules}
use native.Mathlib.Omega.{arith}
use Rattle.model.specs.Path.{steps_of}
use Rattle.model.proofs.Dominance.{label-lt}
use Rattle.text.proofs.Overlays.{puts, puts_as, ends_by}
use Rattle.line.proofs.Widths.{head-short}
use Rattle.listing.proofs.Putting.{head-lines}
use Rattle.listing.proofs.put_all.Goals as goal

pub put_walk-requires : goal.put_walk-requires
put_walk-requires c =
    let short = head-short (record { fits = omega (arith, c.from.ensures, label-lt _ c.args.seen.now.reader.opened.label) }) (record { fits = omega (arith, c.ranges) }) in
    omega (arith, ends_by c.head.ensures.1 short)

pub returns : goal.returns
returns c =
    let lines = head-lines _ _ (steps_of c.args.seen.now.path.now) c.requires c.from.ensures in
    search (rules, puts_as lines (puts c.head.ensures c.put_walk.ensures))
