-- `xml::live`: the tag, then the value.
use native.Mathlib.Omega.{arith}
use Rattle.text.proofs.Overlays.{puts, puts_as, ends_by}
use Rattle.xml.proofs.Tags.{same_tag}
use Rattle.xml.proofs.Widths.{tag-short}
use Rattle.xml.proofs.live.Goals as goal

pub value-requires : goal.value-requires
value-requires c =
    record {
      at_bound = omega (arith, ends_by c.present.ensures.1 (tag-short _ _ c.args.step.fits), c.requires.at_bound);
      t = c.requires.t;
    }

pub returns : goal.returns
returns c = puts (puts_as (same_tag _ _ _ _) c.present.ensures) c.value.ensures
