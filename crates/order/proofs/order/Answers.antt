-- `order::order`: the references that are written are kept.
use Rattle.order.proofs.Naming.{first-refs}
use Rattle.order.proofs.order.Goals as goal

pub invariant_of-result : goal.invariant_of-result
invariant_of-result c =
    let refs = first-refs c.put_refs-n.result c.put_refs-n.new.refs c.put_refs-n.ensures.upper_bound c.put_refs-n.ensures.refers in
    record { few = refs.0; refers = refs.1 }
