-- `partition::replace`: the slot keeps its path's bytes and gets the other content's.
use native.Mathlib.Omega.{arith}
use Rattle.partition.proofs.Finding.{facts}
use Rattle.partition.proofs.Layouts.{put-over}
use Rattle.partition.proofs.replace.Goals as goal

pub overflow_mul-from : goal.overflow_mul-from
overflow_mul-from c = omega (arith, c.requires.1, facts c.requires.0)

pub overflow_add-from : goal.overflow_add-from
overflow_add-from c = omega (arith, c.requires.1, facts c.requires.0)

pub overflow_add-to : goal.overflow_add-to
overflow_add-to c = omega (arith, c.requires.1, facts c.requires.0)

pub slice_bounds-replace_content-end : goal.slice_bounds-replace_content-end
slice_bounds-replace_content-end c = omega (arith, c.requires.1, facts c.requires.0)

pub returns : goal.returns
returns c = put-over c.requires.0 c.args.at _ c.requires.1 c.replace_content.ensures
