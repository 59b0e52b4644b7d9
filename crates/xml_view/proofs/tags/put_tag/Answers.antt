-- `xml_view::put_tag`: the tag of a removed element, or that of the slot's own and its value.
use mathlib.Core.Path.{refl, ◌∙◌}
use native.Mathlib.Omega.{arith}
use Rattle.kind.proofs.Rules.{known-kind}
use Rattle.text.proofs.Overlays.{puts_as}
use Rattle.listing.proofs.Drawing.{used-steps, used-value, used-content}
use Rattle.xml_view.proofs.Opening.{opening-removed, opening-live}
use Rattle.xml_view.proofs.tags.put_tag.Goals as goal

pub step-step-requires : goal.step-step-requires
step-step-requires c = omega (arith, used-steps)

pub overflow_add-d : goal.overflow_add-d
overflow_add-d c = omega (arith, used-steps)

pub returns-then-d-depth : goal.returns-then-d-depth
returns-then-d-depth c =
    let shows = opening-removed c.requires.used c.args.d c.step-step.ensures c.depth.ensures (omega (arith, c.if-d-depth.true)) in
    puts_as shows c.removed.ensures

pub numbered-requires : goal.numbered-requires
numbered-requires c = known-kind _ _ (used-content c.requires.used c.kind.ensures refl)

pub value-requires : goal.value-requires
value-requires c = omega (arith, used-value)

pub live-requires : goal.live-requires
live-requires c =
    record {
      at_bound = c.requires.at_bound.0;
      t = used-content c.requires.used (c.numbered.ensures ∙ c.kind.ensures) c.value.ensures;
    }

pub returns-else-d-depth : goal.returns-else-d-depth
returns-else-d-depth c =
    let live = opening-live c.requires.used c.args.d c.step-step.ensures c.depth.ensures c.requires.at_bound.1 c.if-d-depth.false in
    let shows = live (c.numbered.ensures ∙ c.kind.ensures) c.value.ensures in
    puts_as shows c.live.ensures
