-- `sorting::sort`: from slot i on the elements are sorted.
use native.Mathlib.Omega.{arith}
use Rattle.sorting.proofs.Whole.{facts, turned-start, turned-behind, turned-near, turned-next, turned-end, turned-size, from-none}
use Rattle.sorting.proofs.sort.Goals as goal

pub invariant_of-count : goal.invariant_of-count
invariant_of-count c = record { whole = (facts c.requires).size }

pub returns-then-c-eq0 : goal.returns-then-c-eq0
returns-then-c-eq0 c = from-none c.requires c.count-c.ensures c.if-c-eq0.true

pub loop-i-init : goal.loop-i-init
loop-i-init c = turned-start c.requires c.count-c.ensures c.if-c-eq0.false

pub settle-near-requires : goal.settle-near-requires
settle-near-requires c =
    let near = turned-near c.requires c.loop-i.invariant (omega (arith, c.loop-i-test.true)) in
    (turned-behind c.requires c.loop-i.invariant (omega (arith, c.loop-i-test.true)), near.0, near.1)

pub loop-i-preserved : goal.loop-i-preserved
loop-i-preserved c = turned-next c.requires c.loop-i.invariant (omega (arith, c.loop-i-test.true)) (c.settle-near.ensures.lower_bound, c.settle-near.ensures.part_after)

pub shape_of-part : goal.shape_of-part
shape_of-part c = turned-size c.requires c.loop-i.invariant

pub returns : goal.returns
returns c = turned-end c.loop-i.invariant (omega (arith, c.loop-i-test.false))
