-- `slot::compare_by`: a slot's steps are its path.
use Rattle.model.specs.Slot.{read_path}
use Rattle.slot.proofs.compare_by.Goals as goal

pub returns : goal.returns
unfolding read_path
returns g c = c.meet.ensures
