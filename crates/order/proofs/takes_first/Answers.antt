-- `order::takes_first`: the ends first, then the two slots compared.
use Rattle.order.proofs.Naming.{by_order}
use Rattle.order.proofs.takes_first.Goals as goal

pub returns : goal.returns
returns c = by_order c.requires.runs c.if-xs-i.false c.if-ys-j.false c.slot_of.ensures c.slot_of-2.ensures c.compare.ensures
