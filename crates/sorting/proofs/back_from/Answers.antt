-- `sorting::back_from`: the slots from j on do not come before slot i.
use native.Mathlib.Omega.{arith}
use Rattle.sorting.proofs.Places.{back_start, back-here, back-next, back_end}
use Rattle.sorting.proofs.back_from.Goals as goal

pub loop-j-init : goal.loop-j-init
loop-j-init c = back_start c.requires.1

pub comes_before-requires : goal.comes_before-requires
comes_before-requires c = (c.requires.0.laid, omega (arith, c.loop-j.invariant.within, c.requires.2), c.requires.0.used)

pub returns-then-comes_before : goal.returns-then-comes_before
returns-then-comes_before c = back-here c.requires.0 c.requires.2 c.loop-j.invariant c.loop-j-test.true c.comes_before.ensures c.if-comes_before.true

pub loop-j-preserved : goal.loop-j-preserved
loop-j-preserved c = back-next c.requires.0 c.requires.2 c.loop-j.invariant c.loop-j-test.true c.comes_before.ensures c.if-comes_before.false

pub returns : goal.returns
returns c = back_end c.requires.0 c.requires.2 c.loop-j.invariant c.loop-j-test.false
