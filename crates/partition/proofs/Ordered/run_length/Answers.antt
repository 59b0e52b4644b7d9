-- `Ordered::run_length`: the slots from at to i have the path or extend it.
use Rattle.partition.proofs.Finding.{run-start, run-stop, run-next, run_end}
use Rattle.partition.proofs.Ordered.run_length.Goals as goal

pub loop-i-init : goal.loop-i-init
loop-i-init c = run-start c.args.self.in_order _ c.count-c.ensures c.requires

pub returns-then-m-n : goal.returns-then-m-n
returns-then-m-n c = run-stop c.args.path.now c.loop-i.invariant c.loop-i-test.true c.path.ensures c.compare_path-m.ensures c.if-m-n.true

pub loop-i-preserved : goal.loop-i-preserved
loop-i-preserved c = run-next c.args.path.now c.loop-i.invariant c.loop-i-test.true c.path.ensures c.compare_path-m.ensures c.if-m-n.false

pub returns : goal.returns
returns c = run_end c.args.path.now c.loop-i.invariant c.loop-i-test.false
