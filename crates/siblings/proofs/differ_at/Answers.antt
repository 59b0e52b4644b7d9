-- `differ_at`: the elements of the blocks passed differ from all.
use Rattle.std.proofs.Common.{ap, not, arith}
use Rattle.siblings.proofs.Groups.{compared-start, compared-clash, compared-all, compared-other, compared-next}
use Rattle.siblings.proofs.differ_at.Goals as goal

pub loop-n-init : goal.loop-n-init
loop-n-init c = search compared-start

pub returns-then-n-lt512 : goal.returns-then-n-lt512
returns-then-n-lt512 c = search (compared-all, c.in-Some.ensures)

pub returns-then-not-others_differ : goal.returns-then-not-others_differ
returns-then-not-others_differ c =
    compared-other c.loop-n.invariant _ c.in-Some.ensures (omega arith) (omega arith) c.others_differ.ensures (ap not c.if-not-others_differ.true)

pub loop-n-preserved : goal.loop-n-preserved
loop-n-preserved c =
    compared-next c.loop-n.invariant _ c.in-Some.ensures (omega arith) (omega arith) c.others_differ.ensures (ap not c.if-not-others_differ.false)

pub returns : goal.returns
returns c = search (compared-clash, c.in_default.ensures)
