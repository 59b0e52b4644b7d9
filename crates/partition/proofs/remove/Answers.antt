-- `partition::remove`: what extends the path stands together at its place.
use Rattle.partition.proofs.Finding.{formed-order, run-within, run-removed}
use Rattle.partition.proofs.remove.Goals as goal

pub invariant_of-run_length : goal.invariant_of-run_length
invariant_of-run_length c = record { in_order = formed-order c.requires.0 }

pub take_out-requires : goal.take_out-requires
take_out-requires c = (c.requires.0, run-within c.requires.0 _ c.requires.1 c.run_length-k.ensures)

pub returns : goal.returns
returns c =
    record {
      value = c.run_length-k.ensures;
      part_after = run-removed c.requires.0 _ c.requires.1 (c.run_length-k.ensures) c.take_out.ensures;
    }
