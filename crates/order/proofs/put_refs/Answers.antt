-- `order::put_refs`: the occupied labels, and their elements in order.
use Rattle.model.specs.Path.{steps_of}
use Rattle.order.proofs.Occupying.{found-rising, found_all}
use Rattle.order.proofs.put_refs.Goals as goal

pub order_labels-requires-clause-labels : goal.order_labels-requires-clause-labels
order_labels-requires-clause-labels c = (found-rising _ _ _ c.occupied-labels.ensures.found, c.occupied-labels.ensures.upper_bound)

pub returns-clause-refers : goal.returns-clause-refers
returns-clause-refers c = found_all _ _ (steps_of c.args.path.now) c.occupied-labels.ensures.found c.order_labels.ensures.refers
