-- `FormerOrder::step_key`: name and label joined to the key of before 7/14.
use borrow.Author.Rules.{rules}
use native.Mathlib.Omega.{arith}
use mathlib.Core.Path.{◌≡◌}
use Prim.Native.Nat.{ℕ, ◌+◌, ◌*◌, ◌<◌}
use mir.Facts.{yes_ltb}
use Rattle.model.specs.Lists.{is_byte}
use Rattle.model.specs.Path.{former_key}
use Rattle.model.proofs.Bools.{both}
use Rattle.path.specs.Steps.{step_with, KeyOf}
use Rattle.path.proofs.FormerOrderStepOrder.step_key.Goals as goal

former-word : (name label : ℕ) {l : ℕ} → l ≡ label → label < 256 → KeyOf former_key (step_with name label) (l + 256 * name)
unfolding former_key is_byte
former-word name label x h = record { word = omega arith; digits = search (both, yes_ltb) }

pub returns : goal.returns
returns c = former-word _ _ c.from.ensures (search rules)
