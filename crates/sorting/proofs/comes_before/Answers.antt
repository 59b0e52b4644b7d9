-- `sorting::comes_before`: two slots read and compared.
use Rattle.sorting.proofs.Places.{laid-size, laid-few, compared_at}
use native.Mathlib.Omega.{arith}
use Rattle.sorting.proofs.comes_before.Goals as goal

pub invariant_of-part : goal.invariant_of-part
invariant_of-part c = record { whole = laid-size c.requires.0 }

pub slot-requires : goal.slot-requires
slot-requires c = omega (arith, c.requires.0.few)

pub slot-requires-2 : goal.slot-requires-2
slot-requires-2 c = omega (arith, c.requires.0.few)

pub invariant_of-a : goal.invariant_of-a
invariant_of-a c = record { few = laid-few c.requires.0 c.requires.1 c.slot.ensures }

pub invariant_of-b : goal.invariant_of-b
invariant_of-b c = record { few = laid-few c.requires.0 c.requires.2 c.slot-2.ensures }

pub returns : goal.returns
returns c = compared_at c.args.part.now c.args.i c.args.j c.slot.ensures c.slot-2.ensures c.compare.ensures
