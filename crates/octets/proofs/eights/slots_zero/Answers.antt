-- `octets::eights::slots_zero`: eight bytes joined and or-ed a step.
use mathlib.Core.Path.{ap, ◌∙◌}
use Rattle.octets.proofs.Joining.{reached-start, reached-more, reached-end}
use Rattle.octets.proofs.eights.slots_zero.Goals as goal

pub loop-eight-init : goal.loop-eight-init
loop-eight-init c =
    let e = c.into_iter-eight-iterator.ensures.into_iter_gives in
    reached-start c.args.s.now c.requires (ap (λ i. i.size) e ∙ c.chunks_exact-eight-items.ensures.size) (ap (λ i. i.rest.now) e ∙ c.chunks_exact-eight-items.ensures.rest)

pub loop-eight-preserved : goal.loop-eight-preserved
loop-eight-preserved c =
    let steps = c.in-Some.ensures.steps in
    reached-more c.loop-eight.invariant c.in-Some.eight.now c.next.new.self.rest.now steps.0 steps.1.0 steps.1.1 c.joined-used.ensures

pub returns : goal.returns
returns c = reached-end c.loop-eight.invariant c.in-None.ensures.steps.1.0
