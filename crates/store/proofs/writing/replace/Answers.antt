-- `store::replace`: the subject's partition is lent.
use native.Mathlib.Omega.{arith}
use Rattle.model.proofs.Dominance.{label-lt}
use Rattle.partition.specs.Place.{replaced_at}
use Rattle.store.proofs.Lending.{lent-formed, lent-used, own-changed}
use Rattle.store.proofs.writing.replace.Goals as goal

pub slice_bounds-replace-end : goal.slice_bounds-replace-end
slice_bounds-replace-end c = omega (arith, label-lt _ c.requires.0.label, c.requires.0.size, c.from-start.ensures)

pub replace-requires : goal.replace-requires
replace-requires c = (lent-formed c.requires.0 c.from-start.ensures, lent-used c.requires.0 c.from-start.ensures c.requires.1, c.requires.2)

pub returns : goal.returns
returns c = own-changed c.requires.0 c.from-start.ensures (replaced_at c.args.at _) c.replace.ensures
