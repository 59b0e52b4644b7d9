-- `put_all`: an element in each turn, up to the last.
use Rattle.intake.proofs.Whole.{left-start, left-size, left-at, first-way, first-shallow, first-left, left_end}
use Rattle.intake.proofs.put_all.Goals as goal

pub loop-mark-init : goal.loop-mark-init
loop-mark-init c = left-start c.requires

pub near_of-near-requires : goal.near_of-near-requires
near_of-near-requires c = first-shallow (left-at _ _ _ c.loop-mark-test.true (c.loop-mark.invariant c.requires.sent c.requires.reads))

pub put_read-slot-requires : goal.put_read-slot-requires
put_read-slot-requires c = first-way (left-at _ _ _ c.loop-mark-test.true (c.loop-mark.invariant c.requires.sent c.requires.reads))

pub keep-requires : goal.keep-requires
keep-requires c = first-shallow (left-at _ _ _ c.loop-mark-test.true (c.loop-mark.invariant c.requires.sent c.requires.reads))

pub loop-mark-preserved : goal.loop-mark-preserved
loop-mark-preserved c = λ f s. first-left (left-at _ _ _ c.loop-mark-test.true (c.loop-mark.invariant f s)) c.put_read-slot.ensures

pub shape_of-part : goal.shape_of-part
shape_of-part c = left-size c.requires (c.loop-mark.invariant c.requires.sent c.requires.reads)

pub returns : goal.returns
returns c = λ f s. left_end _ _ c.loop-mark-test.false (c.loop-mark.invariant f s)
