-- `store::partition_of`: the part of the label.
use native.Mathlib.Omega.{arith}
use Rattle.store.proofs.Parts.{dominated-lt, part-lent}
use Rattle.store.proofs.partition_of.Goals as goal

pub slice_bounds-result-end : goal.slice_bounds-result-end
slice_bounds-result-end c = omega (arith, dominated-lt _ _ c.requires.1)

pub returns : goal.returns
returns c = part-lent _ _ _ c.requires.0 c.requires.1 c.from-at.ensures
