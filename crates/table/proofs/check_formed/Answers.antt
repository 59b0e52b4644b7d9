-- `table::check_formed`: the partitions.
use Rattle.table.proofs.Walking.{lent-forms}
use Rattle.table.proofs.check_formed.Goals as goal

pub returns-clause-formed : goal.returns-clause-formed
returns-clause-formed c = lent-forms c.requires c.open.result c.open.ensures.refused c.ok_or.ensures.value
