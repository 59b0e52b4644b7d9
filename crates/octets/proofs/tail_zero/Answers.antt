-- `octets::tail_zero` meets its contract. Assumes nothing.
use mathlib.Core.Path.{ap, ◌∙◌}
use lib.ListN.{get_or}
use lib.Dec.{eqb}
use Rattle.octets.proofs.Tests.{tail-start, tail-skip, tail-next, tail-end, or-is-zero}
use Rattle.octets.proofs.tail_zero.Goals as goal
use Rattle.octets.proofs.tail_zero.Goals.{then-from-i, else-from-i}

pub loop-i-init : goal.loop-i-init
loop-i-init c = tail-start _ _ _

pub loop-i-preserved : goal.loop-i-preserved
loop-i-preserved c =
    elim c.if-from-i.branch [
      | then-from-i w ↦ tail-next _ _ _ c.loop-i.invariant w.if-from-i.true c.loop-i-test.true (ap (λ x. eqb x 0) w.acc-is ∙ or-is-zero c.loop-i.acc (get_or c.args.s.now c.loop-i.i 0))
      | else-from-i w ↦ tail-skip _ _ _ c.loop-i.invariant w.if-from-i.false (ap (λ x. eqb x 0) w.acc-is)
    ]

pub returns : goal.returns
returns c = tail-end _ _ _ c.loop-i.invariant c.loop-i-test.false
