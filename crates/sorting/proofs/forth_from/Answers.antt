-- `sorting::forth_from`: the slots before slot j come before slot i.
use mathlib.Core.Path.{◌∙◌}
use native.Mathlib.Omega.{arith}
use Rattle.sorting.proofs.Places.{forth-start, forth-here, forth-next, forth-end, laid-size}
use Rattle.sorting.proofs.forth_from.Goals as goal

pub invariant_of-count : goal.invariant_of-count
invariant_of-count c = record { whole = laid-size c.requires.0.laid }

pub loop-j-init : goal.loop-j-init
loop-j-init c = forth-start c.requires.1 c.requires.2

pub comes_before-requires : goal.comes_before-requires
comes_before-requires c = (c.requires.0.laid, omega (arith, c.count-c.ensures.0, c.requires.0.used), omega (arith, c.count-c.ensures.0, c.requires.0.used))

pub returns-then-not-comes_before : goal.returns-then-not-comes_before
returns-then-not-comes_before c = forth-here c.requires.0 c.loop-j.invariant (omega (arith, c.count-c.ensures.0)) c.comes_before.ensures c.if-not-comes_before.true

pub loop-j-preserved : goal.loop-j-preserved
loop-j-preserved c = forth-next c.requires.0 c.loop-j.invariant (omega (arith, c.count-c.ensures.0)) c.comes_before.ensures c.if-not-comes_before.false

pub returns : goal.returns
returns c = c.count-c.ensures.0 ∙ forth-end c.requires.0 c.loop-j.invariant (omega (arith, c.count-c.ensures.0))
