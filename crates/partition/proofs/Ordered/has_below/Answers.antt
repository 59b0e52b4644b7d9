-- `Ordered::has_below`: by the count, for the root, or by the first element that is not before the path.
use Rattle.partition.proofs.Finding.{run-start, none-held, root-held, below_end, below-here}
use Rattle.partition.proofs.Ordered.has_below.Goals as goal

pub returns-then-c-eq0 : goal.returns-then-c-eq0
returns-then-c-eq0 c = none-held c.args.path.now c.args.self.bytes.now c.count-c.ensures c.if-c-eq0.true

pub returns-then-path-lt3 : goal.returns-then-path-lt3
returns-then-path-lt3 c = root-held c.args.path.now c.args.self.bytes.now c.count-c.ensures c.if-path-lt3.true c.if-c-eq0.false

pub returns-then-c-at : goal.returns-then-c-at
returns-then-c-at c = below_end c.args.path.now (run-start c.args.self.in_order _ c.count-c.ensures c.place-at.ensures) c.if-c-at.true

pub returns : goal.returns
returns c =
    below-here c.args.path.now (run-start c.args.self.in_order _ c.count-c.ensures c.place-at.ensures)
    c.if-c-at.false c.path.ensures c.compare_path-m.ensures
