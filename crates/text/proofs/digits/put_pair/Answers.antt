-- `text::digits::put_pair`: the tens, then the ones.
use borrow.Author.Rules.{rules}
use mathlib.Core.Path.{ap₂}
use mathlib.Core.List.{[], ◌∷◌}
use Prim.Native.Nat.{ℕ}
use Rattle.text.specs.Digits.{pair}
use Rattle.text.proofs.Overlays.{then, wrote_as}
use Rattle.text.proofs.digits.put_pair.Goals as goal

pub digit-requires : goal.digit-requires
unfolding pair
digit-requires c = search rules

pub put_byte-last-requires : goal.put_byte-last-requires
unfolding pair
put_byte-last-requires c = search rules

pub digit-requires-2 : goal.digit-requires-2
unfolding pair
digit-requires-2 c = search rules

pub put_byte-requires : goal.put_byte-requires
unfolding pair
put_byte-requires c = search rules

pub returns : goal.returns
unfolding pair
returns c = wrote_as (ap₂ (λ (a b : ℕ). a ∷ b ∷ []) c.digit.ensures c.digit-2.ensures) (then c.put_byte-last.ensures c.put_byte.ensures)
