-- `slot::steps_good`: what is left of the places is good if the whole is.
use mathlib.Core.Bool.{◌&&◌}
use Rattle.model.specs.Slot.{step_at, read_path}
use Rattle.path.specs.Steps.{all_follow}
use Rattle.slot_valid.specs.Valid.{steps_zero}
use Rattle.slot_valid.proofs.Unused.{Standing}
use Rattle.slot_valid.proofs.steps_good.Given as goal

abbrev pub invariant-loop-i : goal.invariant-loop-i
invariant-loop-i l = Standing (step_at l.slot.bytes.now) (all_follow 0 (read_path l.slot.bytes.now) && steps_zero l.slot.bytes.now) l.d l.before l.i
