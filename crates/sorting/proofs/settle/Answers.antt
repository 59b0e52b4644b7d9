-- `sorting::settle`: the place is found; where it is not the slot's own, the slot is moved there.
use mathlib.Core.Path.{ap, ◌∙◌}
use native.Mathlib.Omega.{arith}
use Rattle.model.specs.Partition.{layout}
use Rattle.sorting.proofs.Places.{place-most}
use Rattle.sorting.proofs.Moving.{stays-sorted, moved-sorted}
use Rattle.sorting.proofs.settle.Goals as goal

pub returns-then-to-i : goal.returns-then-to-i
returns-then-to-i c =
    record {
      lower_bound = (omega arith, c.requires.0.used);
      part_after = stays-sorted c.requires.0 c.place_of-to.ensures c.if-to-i.true;
    }

pub move_behind-requires : goal.move_behind-requires
move_behind-requires c = (c.requires.0.laid, omega arith, omega (arith, c.place_of-to.ensures, place-most c.requires.0))

pub returns : goal.returns
returns c =
    let most = place-most c.requires.0 in
    record {
      lower_bound = (omega arith, omega (arith, c.place_of-to.ensures, most));
      part_after = c.move_behind.ensures ∙ ap layout (moved-sorted c.requires.0 c.place_of-to.ensures);
    }
