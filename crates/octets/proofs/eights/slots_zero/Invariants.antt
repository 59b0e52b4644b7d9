-- `octets::eights::slots_zero`: eight bytes joined and or-ed a step.
use Rattle.octets.proofs.Joining.{ZeroReached}
use Rattle.octets.proofs.eights.slots_zero.Given as goal

abbrev pub invariant-loop-eight : goal.invariant-loop-eight
invariant-loop-eight l = ZeroReached l.fn.s l.used l.eight-iterator.size l.eight-iterator.rest.now
