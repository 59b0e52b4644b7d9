-- `order::run_of`: the whole partition at the root, else the path's place.
use native.Mathlib.Omega.{arith}
use Rattle.model.specs.Path.{steps_of}
use Rattle.order.proofs.Collecting.{root-place, root-run, run-small}
use Rattle.order.proofs.run_of.Goals as goal

pub returns-then-path-lt3-clause-start : goal.returns-then-path-lt3-clause-start
returns-then-path-lt3-clause-start c = root-place _ c.args.path.now c.if-path-lt3.true

pub returns-then-path-lt3-clause-end : goal.returns-then-path-lt3-clause-end
returns-then-path-lt3-clause-end c = omega (arith, root-run c.requires c.args.path.now c.if-path-lt3.true c.count.ensures.0)

pub overflow_add-result : goal.overflow_add-result
overflow_add-result c = omega (arith, run-small c.requires (steps_of c.args.path.now) c.place-at.ensures c.run_length.ensures)
