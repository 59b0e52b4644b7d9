-- `put_below`: the step is written, then the element put in at the path up to it.
use Rattle.intake.proofs.Stepping.{below-fits, below-stepped, lent-short, lent-room, lent-put}
use Rattle.intake.proofs.put_below.Goals as goal

pub put_step-requires : goal.put_step-requires
put_step-requires c = let fits = below-fits c.requires.0 in record { n_in_bounds = fits.0; name_bound = rw c.from.ensures fits.1 }

pub put-requires : goal.put-requires
put-requires c =
    let written = rw c.from.ensures at c.put_step.ensures in
    record {
      room = lent-room c.requires.0 written;
      path_len_bound = (lent-short c.requires.0 written, c.requires.1);
    }

pub returns : goal.returns
returns c =
    let written = rw c.from.ensures at c.put_step.ensures in
    record {
      stepped = below-stepped c.requires.0 written;
      part_after = lent-put c.requires.0 written _ c.put.ensures;
    }
