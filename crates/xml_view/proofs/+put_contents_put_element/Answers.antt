-- `xml_view::put_contents` and `xml_view::put_element`: the loop over the elements inside, and an element's tag, contents and end tag.
use native.Mathlib.Omega.{arith}
use mathlib.Core.Path.{ap, ◌∙◌}
use lib.ListN.{length}
use Rattle.listing.proofs.Drawing.{used-steps}
use Rattle.xml_view.proofs.Nesting.{writing-less, writing-next, writing-end}
use Rattle.xml_view.proofs.Places.{seen-at, here-step, here-used, opens-within}
use Rattle.xml_view.proofs.Elements.{tag-room, contents-room, end-tag-room, element-put}
use Rattle.xml_view.proofs.+put_contents_put_element.Goals as goal

pub put_contents-put_element-spot-requires : goal.put_contents-put_element-spot-requires
put_contents-put_element-spot-requires t c =
    let inv = c.loop-out.invariant in
    let here = opens-within _ inv.2 c.is_inside.ensures c.loop-out-test.true in
    (omega (arith, c.decreases, inv.1.fewer), (inv.2, (here, record { fits = omega (arith, c.requires.room.fits, inv.1.room) })))

pub put_contents-loop-out-smaller : goal.put_contents-loop-out-smaller
put_contents-loop-out-smaller t c = writing-less c.loop-out.invariant.1 c.is_inside.ensures c.loop-out-test.true c.put_element-spot.ensures.rest

pub put_contents-loop-out-preserved : goal.put_contents-loop-out-preserved
put_contents-loop-out-preserved t c =
    let put = c.put_element-spot.ensures in (
      put.wrote.0 ∙ c.loop-out.invariant.0,
      writing-next c.loop-out.invariant.1 c.is_inside.ensures c.loop-out-test.true put.rest put.wrote.1 put.room,
      put.place,
    )

pub put_contents-returns : goal.put_contents-returns
put_contents-returns t c =
    let inv = c.loop-out.invariant in
    let end = writing-end inv.1 c.is_inside.ensures c.loop-out-test.false in
    record { wrote = (inv.0, end.0); rest = end.1; place = inv.2; room = inv.1.room }

pub put_element-put_tag-requires : goal.put_element-put_tag-requires
put_element-put_tag-requires t c =
    let at = seen-at c.args.seen.now c.requires.place in
    let row = c.requires.row_in_bounds in
    let slot = c.slot.ensures in
    record {
      at_bound = (tag-room at row c.requires.room, here-step at row slot);
      used = here-used at row slot c.slot.result.slot.whole;
    }

pub put_element-overflow_add-p : goal.put_element-overflow_add-p
put_element-overflow_add-p t c =
    let at = seen-at c.args.seen.now c.requires.place in
    let row = c.requires.row_in_bounds in
    let slot = c.slot.ensures in
    omega (arith, here-step at row slot, used-steps (here-used at row slot c.slot.result.slot.whole))

pub put_element-put_contents-next-requires : goal.put_element-put_contents-next-requires
put_element-put_contents-next-requires t c =
    let at = seen-at c.args.seen.now c.requires.place in
    let next = c.following.ensures in
    let room = contents-room at c.requires.row_in_bounds c.requires.room c.slot.ensures c.slot.result.slot.whole (next.d_value, next.place) c.put_tag.ensures.1 in
    (omega (arith, c.decreases, ap length next.d_value), (next.place, room))

pub put_element-step_name-requires : goal.put_element-step_name-requires
put_element-step_name-requires t c =
    let at = seen-at c.args.seen.now c.requires.place in
    let row = c.requires.row_in_bounds in
    let slot = c.slot.ensures in
    omega (arith, here-step at row slot, used-steps (here-used at row slot c.slot.result.slot.whole))

pub put_element-end-requires : goal.put_element-end-requires
put_element-end-requires t c =
    let at = seen-at c.args.seen.now c.requires.place in
    let next = c.following.ensures in
    end-tag-room at c.requires.row_in_bounds c.requires.room c.slot.ensures c.slot.result.slot.whole (next.d_value, next.place) c.put_contents-next.ensures c.put_tag.ensures.1

pub put_element-returns : goal.put_element-returns
put_element-returns t c =
    let at = seen-at c.args.seen.now c.requires.place in
    let next = c.following.ensures in
    let body = c.put_contents-next.ensures in
    let put = element-put at c.requires.row_in_bounds c.requires.room c.slot.ensures c.slot.result.slot.whole (next.d_value, next.place) body c.put_tag.ensures.1 c.step_name.ensures c.end.ensures.1 in
    record {
      wrote = (c.end.ensures.0 ∙ body.wrote.0 ∙ c.put_tag.ensures.0, put.0);
      rest = put.1;
      place = body.place;
      room = put.2;
    }
