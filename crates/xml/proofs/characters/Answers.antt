-- `xml::characters`: the characters so far are written.
use native.Mathlib.Omega.{arith}
use mathlib.Core.Path.{refl, ◌∙◌}
use Rattle.text.proofs.Overlays.{wrote-length}
use Rattle.xml.proofs.Tags.{escaping-start, escaping-next, escaping-end}
use Rattle.xml.proofs.characters.Goals as goal

pub loop-x-init : goal.loop-x-init
loop-x-init c = (refl, escaping-start _ _ _)

pub character-requires : goal.character-requires
character-requires c = omega (arith, c.loop-x.invariant.1.room, c.requires)

pub loop-x-preserved : goal.loop-x-preserved
loop-x-preserved c = (
  c.character.ensures.0 ∙ c.loop-x.invariant.0,
  escaping-next c.loop-x.invariant.1 (omega arith) c.character.ensures.1 (wrote-length c.character.ensures.1),
)

pub returns : goal.returns
returns c = (c.loop-x.invariant.0, escaping-end c.loop-x.invariant.1 (omega arith))
