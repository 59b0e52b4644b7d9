-- `partition::is_same`: all steps of both are shared.
use Rattle.partition.proofs.Finding.{differ-shared, same-shared}
use Rattle.partition.proofs.is_same.Goals as goal

pub returns-then-shared-n : goal.returns-then-shared-n
returns-then-shared-n c = differ-shared _ c.args.path.now c.requires c.if-shared-n.true

pub returns : goal.returns
returns c = same-shared _ c.args.path.now c.requires c.if-shared-n.false c.depth.ensures
