-- `listing::put_walk`: what is left of the walk, laid over what was written, gives the whole.
use mathlib.Core.Path.{◌∙◌}
use native.Mathlib.Omega.{arith}
use Rattle.model.specs.Path.{steps_of}
use Rattle.listing.proofs.Walking.{here-used, here-new, walk-next, walk_end, walk-room}
use Rattle.listing.proofs.put_walk.Goals as goal

pub put_element-requires-clause-at_bound : goal.put_element-requires-clause-at_bound
put_element-requires-clause-at_bound c =
    let steps = steps_of c.args.seen.now.path.now in
    let refers = c.args.seen.now.refers in
    let room = walk-room steps refers c.loop-i.invariant.1 in
    (omega (arith, room, c.requires, c.loop-i-test.true, c.args.seen.now.few), here-new steps refers _ c.loop-i-test.true c.slot.ensures c.shared_above.ensures)

pub put_element-requires-clause-used : goal.put_element-requires-clause-used
put_element-requires-clause-used c = here-used (steps_of c.args.seen.now.path.now) c.args.seen.now.refers _ c.loop-i-test.true c.slot.ensures c.args.seen.now.reader.opened c.slot.result.slot.whole

pub loop-i-preserved : goal.loop-i-preserved
loop-i-preserved c = (
  c.put_element.ensures.0 ∙ c.loop-i.invariant.0,
  walk-next (steps_of c.args.seen.now.path.now) c.args.seen.now.refers c.loop-i.invariant.1 c.loop-i-test.true c.slot.ensures c.shared_above.ensures
      c.put_element.ensures.1,
)

pub returns : goal.returns
returns c = (c.loop-i.invariant.0, walk_end (steps_of c.args.seen.now.path.now) c.args.seen.now.refers c.loop-i.invariant.1 c.loop-i-test.false)
