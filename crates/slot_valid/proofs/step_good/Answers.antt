-- `slot::step_good`: a step of the path, or a place behind it.
use Rattle.model.specs.Slot.{step_at}
use Rattle.slot_valid.proofs.Unused.{used-place, unused-place}
use Rattle.slot_valid.proofs.step_good.Goals as goal

pub returns-then-i-d : goal.returns-then-i-d
returns-then-i-d c = used-place c.args.d c.args.before c.args.i (step_at c.args.slot.bytes.now c.args.i) c.if-i-d.true c.step_follows.ensures

pub returns : goal.returns
returns c = unused-place c.args.d c.args.before c.args.i (step_at c.args.slot.bytes.now c.args.i) c.if-i-d.false c.step_name.ensures c.step_label.ensures c.from.ensures
