-- `Ordered::find_near`: the elements before slot i come before the path.
use Rattle.std.proofs.lemmas.Bool.{not-false, not-true}
use mathlib.Core.Path.{sym, ◌∙◌}
use Rattle.partition.proofs.Finding.{find_at, find-next, find-here, find-end}
use Rattle.partition.proofs.Ordered.find_near.Goals as goal

pub loop-i-init : goal.loop-i-init
loop-i-init c = find_at c.args.self.in_order _ c.count-c.ensures _ c.start_behind-i.ensures

pub is_same-requires : goal.is_same-requires
is_same-requires c = c.compare_path-m.ensures.shared-is

pub loop-i-preserved : goal.loop-i-preserved
loop-i-preserved c = find-next c.loop-i.invariant c.loop-i-test.true c.path-s.ensures c.compare_path-m.ensures (not-false _ c.if-not-m.false)

pub returns : goal.returns
returns c = find-end c.loop-i.invariant c.loop-i-test.false

pub returns-then-is_same : goal.returns-then-is_same
returns-then-is_same c =
    find-here c.loop-i.invariant c.loop-i-test.true c.path-s.ensures c.compare_path-m.ensures (not-true _ c.if-not-m.true) (sym c.if-is_same.true ∙ c.is_same.ensures)

pub returns-else-is_same : goal.returns-else-is_same
returns-else-is_same c =
    find-here c.loop-i.invariant c.loop-i-test.true c.path-s.ensures c.compare_path-m.ensures (not-true _ c.if-not-m.true) (sym c.if-is_same.false ∙ c.is_same.ensures)
