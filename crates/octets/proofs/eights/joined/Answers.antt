-- `octets::eights::joined`: two words.
use mathlib.Core.Path.{refl, ap, ◌∙◌}
use native.Mathlib.Omega.{arith}
use Rattle.model.proofs.Lists.{between-all}
use Rattle.octets.specs.Joined.{number_of}
use Rattle.octets.proofs.Joining.{eight-joined}
use Rattle.octets.proofs.eights.joined.Goals as goal

pub returns : goal.returns
returns c =
    let s = c.args.s.now in
    let words = eight-joined s 0 (omega (arith, c.requires)) refl refl in
    omega (arith, c.from_le_bytes.ensures, words ∙ ap number_of (between-all 8 s c.requires))
