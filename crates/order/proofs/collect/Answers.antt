-- `order::collect`: dominance first, then the slots that stand at the path's place.
use mathlib.Core.Path.{ap}
use Prim.Native.Nat.{ℕ, ◌+◌, ◌*◌}
use native.Mathlib.Omega.{arith}
use Rattle.model.specs.Path.{steps_of}
use Rattle.order.proofs.Collecting.{none-collected, few-collected, collected, label-small, formed}
use Rattle.order.proofs.collect.Goals as goal

pub returns-then-not-dominates-clause-refers : goal.returns-then-not-dominates-clause-refers
returns-then-not-dominates-clause-refers c = none-collected c.args.reader.now.opened (steps_of c.args.path.now) _ c.dominates.ensures c.if-not-dominates.true

pub run_of-run-requires : goal.run_of-run-requires
run_of-run-requires c = formed c.args.reader.now.opened (steps_of c.args.path.now) _ c.dominates.ensures c.if-not-dominates.false c.partition_of.ensures

pub overflow_cast-run : goal.overflow_cast-run
overflow_cast-run c =
    omega (arith, few-collected c.args.reader.now.opened (steps_of c.args.path.now) _ c.dominates.ensures c.if-not-dominates.false c.partition_of.ensures c.run_of-run.ensures.start c.run_of-run.ensures.end)

pub overflow_add-from : goal.overflow_add-from
overflow_add-from c =
    let few = few-collected c.args.reader.now.opened (steps_of c.args.path.now) _ c.dominates.ensures c.if-not-dominates.false c.partition_of.ensures c.run_of-run.ensures.start c.run_of-run.ensures.end in
    omega (arith, few, label-small c.args.reader.now.opened (steps_of c.args.path.now) _ c.dominates.ensures c.if-not-dominates.false)

pub count_from-requires : goal.count_from-requires
count_from-requires c =
    let few = few-collected c.args.reader.now.opened (steps_of c.args.path.now) _ c.dominates.ensures c.if-not-dominates.false c.partition_of.ensures c.run_of-run.ensures.start c.run_of-run.ensures.end in
    (omega (arith, few, c.requires), omega (arith, few, label-small c.args.reader.now.opened (steps_of c.args.path.now) _ c.dominates.ensures c.if-not-dominates.false))

pub returns : goal.returns
returns c =
    let few = few-collected c.args.reader.now.opened (steps_of c.args.path.now) _ c.dominates.ensures c.if-not-dominates.false c.partition_of.ensures c.run_of-run.ensures.start c.run_of-run.ensures.end in
    record {
      refers =
          collected c.args.reader.now.opened (steps_of c.args.path.now) _ c.dominates.ensures c.if-not-dominates.false c.partition_of.ensures c.run_of-run.ensures.start
          c.run_of-run.ensures.end (ap (λ (m : ℕ). 32 * m + c.run_of-run.result.start) c.from.ensures) _ c.count_from.ensures;
      upper_bound = omega (arith, few);
    }
