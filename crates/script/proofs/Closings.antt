-- Where a field of a line ends.
use mathlib.Core.Path.{◌≡◌}
use mathlib.Core.Bool.{true}
use mathlib.Core.List.{List}
use Prim.Native.Nat.{ℕ, ◌≤◌, ◌<◌}
use lib.ListN.{length, drop, get_or, drop_of_length-le}
use lib.Dec.{eqb}
use Rattle.scan.proofs.Goings.{drop_here}
use Rattle.script.specs.Text.{closes}

module _ (l : List ℕ) (at : ℕ) where
  -- a field ends with the line
  pub closes-past : length l ≤ at → true ≡ closes (drop at l)
  closes-past h = rw (drop_of_length-le l {i = at} h)

  -- the byte that stands there tells whether a field ends
  pub closes_here : at < length l → eqb (get_or l at 0) 9 ≡ closes (drop at l)
  closes_here h = rw (drop_here l at h)
