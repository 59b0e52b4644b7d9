-- `store::in_view`: over the labels up to the subject's.
use Rattle.model.specs.Path.{steps_of}
use Rattle.store.proofs.Viewing.{all-within}
use Rattle.store.proofs.Reader.in_view.Goals as goal

pub in_view_before-requires : goal.in_view_before-requires
in_view_before-requires c = all-within _ _ (steps_of c.args.path.now) c.labels_end.ensures
