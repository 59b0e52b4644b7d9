-- The even grade between two measures (document 02, 3/14). Whole numbers are the kit's integers: pos n is n, negsuc n is -(n + 1).
use Rattle.std.specs.Prelude.{◌≡◌, Bool, true, false, cond, List, ℕ, ◌-◌, ◌/◌, ◌<◌, ℤ, pos, negsuc, nat_abs, ◌+ℤ◌, ◌-ℤ◌, ◌*ℤ◌, eqb, ltb}
use Rattle.std.proofs.Math.Option.{Option, none, some}
use Rattle.model.specs.Path.{Step}
use Rattle.model.specs.Value.{Content}
use Rattle.model.specs.Element.{Element}
use Rattle.model.specs.Text.{measure_of}
use Rattle.model.specs.View.{content_at}

-- ---- a measure

-- the whole number for which a number of 32 bits stands
unfoldable pub whole_of : ℕ → ℤ
whole_of m = cond (ltb m 2147483648) (pos m) (negsuc (4294967295 - m))

-- the measure of a content; a group and a text have none, and neither has a removed element
abbrev pub measure_in : Option Content → Option ℤ
measure_in none = none
measure_in (some c) = cond (eqb c.kind 1) (some (whole_of (measure_of c.value))) none

-- the measure at a path, where it is that of a live measure among the visible elements v
unfoldable pub measure_at : List Element → List Step → Option ℤ
measure_at v p = measure_in (content_at v p)

-- whether there is one
abbrev pub is_measure : Option ℤ → Bool
is_measure none = false
is_measure (some z) = true

-- ---- the step and what is left over

-- what is asked of them for a difference d and n sizes: d = n × step + remainder, and the remainder is 0 to n - 1
pub record Even (n : ℕ) (d step : ℤ) (remainder : ℕ) : Type 0 where
  pub sum : d ≡ pos n *ℤ step +ℤ pos remainder
  pub bound : remainder < n

-- the step: d divided by n, rounded down; -(d + 1) so divided is -(d / n + 1)
abbrev pub step_of : ℕ → ℤ → ℤ
step_of n (pos d) = pos (d / n)
step_of n (negsuc d) = negsuc (d / n)

-- the remainder: what is left over, which is never negative (`even_is`)
abbrev pub remainder_of : ℕ → ℤ → ℕ
remainder_of n d = nat_abs (d -ℤ pos n *ℤ step_of n d)
