-- `console::space::Room::feed`: a line leads on from those before it.
use Rattle.std.proofs.Common.{◌∙◌, refl}
use Rattle.console.proofs.Turning.{taken_none, feed-next}
use Rattle.console.proofs.space.Room.feed.Goals as goal

pub loop-from-init : goal.loop-from-init
loop-from-init g c = (refl, taken_none _ _ _ _)

pub loop-from-preserved : goal.loop-from-preserved
loop-from-preserved g c = (c.feed_line.auto.store ∙ c.loop-from.invariant.0, feed-next c.loop-from.invariant.1 c.in_ok-from.ensures.0)
