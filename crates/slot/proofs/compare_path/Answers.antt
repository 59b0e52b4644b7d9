-- `slot::compare_path`: a slot's steps are its path, and a lent path's those of its bytes.
use Rattle.model.specs.Slot.{read_path}
use Rattle.path.proofs.Steps.{lent-range}
use Rattle.slot.proofs.compare_path.Goals as goal

pub returns : goal.returns
unfolding read_path
returns c = rw (lent-range c.args.path.now) c.meet.ensures
