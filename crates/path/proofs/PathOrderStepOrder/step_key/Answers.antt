-- `PathOrder::step_key`: name and label joined to the model's key. No other law of the code knows path order.
use borrow.Author.Rules.{rules}
use native.Mathlib.Omega.{arith}
use mathlib.Core.Path.{◌≡◌}
use Prim.Native.Nat.{ℕ, ◌+◌, ◌-◌, ◌*◌, ◌/◌, ◌<◌}
use mir.Facts.{yes_ltb}
use Rattle.model.specs.Lists.{is_byte}
use Rattle.model.specs.Label.{level}
use Rattle.model.specs.Path.{key}
use Rattle.model.proofs.Bools.{both}
use Rattle.path.specs.Steps.{step_with, KeyOf}
use Rattle.path.proofs.PathOrderStepOrder.step_key.Goals as goal

key-word : (name label : ℕ) {l down : ℕ} → l ≡ label → label < 256 → down ≡ 3 - l / 8 → KeyOf key (step_with name label) (l + 256 * down + 65536 * name)
unfolding key level is_byte
key-word name label x h y =
    let second : 3 - label / 8 < 256 = omega arith in
    record { word = omega arith; digits = search (both, yes_ltb) }

pub returns : goal.returns
returns c = key-word _ _ c.from-l.ensures (search rules) c.saturating_sub-down.ensures
