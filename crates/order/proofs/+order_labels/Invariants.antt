-- `order::order_labels`: the number of the labels falls.
use lib.ListN.{length}
use Rattle.order.proofs.+order_labels.Given as goal

abbrev pub decreases-order_labels : goal.decreases-order_labels
decreases-order_labels l = length l.labels.now
