-- `Reader::partition_of`: the label's, which is well formed.
use Rattle.partition.proofs.Finding.{formed-order}
use Rattle.store.proofs.Viewing.{opened-formed}
use Rattle.store.proofs.Reader.partition_of.Goals as goal

pub invariant_of-result : goal.invariant_of-result
invariant_of-result c =
    record { in_order = formed-order (record { label = c.args.label; is = rw c.partition_of.ensures.0 (opened-formed c.args.self.now.opened c.args.label c.requires) }) }
