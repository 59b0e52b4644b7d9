-- `grade::between`: the difference of the two measures, divided by the library.
use Rattle.grade.proofs.Steps.{even-held, difference}
use Rattle.grade.proofs.between.Goals as goal

pub returns : goal.returns
returns c =
    let by =
    difference (record { sfits = c.cast_signed-2.type_inv }) (record { sfits = c.cast_signed.type_inv })
    c.args.base c.args.top c.ranges.base c.ranges.top c.cast_signed-2.ensures c.cast_signed.ensures
    (record { sfits = c.from-2.type_inv }) (record { sfits = c.from.type_inv }) c.from-2.ensures c.from.ensures in
    even-held c.args.n c.requires (record { sfits = c.from-sizes.type_inv }) c.from-sizes.ensures by
    (record { sfits = c.div_euclid.type_inv }) (record { sfits = c.rem_euclid.type_inv }) c.div_euclid.ensures c.rem_euclid.ensures.value
