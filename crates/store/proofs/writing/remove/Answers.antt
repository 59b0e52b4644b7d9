-- `store::remove`: the subject's partition is lent.
use native.Mathlib.Omega.{arith}
use Rattle.model.specs.Path.{steps_of}
use Rattle.model.specs.Element.{remove}
use Rattle.model.specs.Call.{extending}
use Rattle.model.proofs.Dominance.{label-lt}
use mathlib.Core.Path.{ap, ◌∙◌}
use Rattle.store.proofs.Lending.{lent-formed, lent-set, lent-place, own-changed}
use Rattle.store.proofs.writing.remove.Goals as goal

pub slice_bounds-remove-end : goal.slice_bounds-remove-end
slice_bounds-remove-end c = omega (arith, label-lt _ c.requires.0.label, c.requires.0.size, c.from-start.ensures)

pub remove-requires : goal.remove-requires
remove-requires c = (lent-formed c.requires.0 c.from-start.ensures, lent-place c.requires.0 c.from-start.ensures (steps_of c.args.path.now) c.requires.1)

pub returns : goal.returns
returns c =
    let path = steps_of c.args.path.now in
    record {
      value = c.remove.ensures.value ∙ ap (extending path) (lent-set c.requires.0 c.from-start.ensures);
      store_after = own-changed c.requires.0 c.from-start.ensures (remove path) c.remove.ensures.part_after;
    }
