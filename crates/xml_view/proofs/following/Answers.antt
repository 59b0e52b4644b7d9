-- `xml_view::following`: the next step, no element, or the first step that the next path does not share.
use native.Mathlib.Omega.{arith}
use Rattle.listing.proofs.Drawing.{used-steps}
use Rattle.xml_view.proofs.Places.{seen-at, here-step, here-used, next-step, no-next, next-path}
use Rattle.xml_view.proofs.following.Goals as goal

pub overflow_add-p : goal.overflow_add-p
overflow_add-p c =
    let at = seen-at c.args.seen.now c.requires.place in
    let row = c.requires.row_in_bounds in
    omega (arith, here-step at row c.slot-slot.ensures, used-steps (here-used at row c.slot-slot.ensures c.slot-slot.result.slot.whole))

pub returns-then-p-depth : goal.returns-then-p-depth
returns-then-p-depth c =
    let found = next-step (seen-at c.args.seen.now c.requires.place) c.requires.row_in_bounds c.slot-slot.ensures c.depth.ensures (omega (arith, c.if-p-depth.true)) in
    record { d_value = found.0; place = found.1 }

pub returns-then-seen-row : goal.returns-then-seen-row
returns-then-seen-row c =
    let found = no-next (seen-at c.args.seen.now c.requires.place) c.requires.row_in_bounds c.slot-slot.ensures c.depth.ensures c.if-p-depth.false c.if-seen-row.true in
    record { d_value = found.0; place = found.1 }

pub returns : goal.returns
returns c =
    let found = next-path (seen-at c.args.seen.now c.requires.place) c.requires.row_in_bounds c.slot-slot.ensures c.depth.ensures c.if-p-depth.false c.if-seen-row.false c.slot.ensures c.compare.ensures in
    record { d_value = found.0; place = found.1 }
