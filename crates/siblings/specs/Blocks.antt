-- The elements of a group, some at a time.
use Rattle.std.specs.Prelude.{◌≡◌, Bool, false, List, ◌++◌, ℕ, ◌+◌, ◌≤◌, ◌<◌, length, take, T, Option, Some, None}
use Rattle.model.specs.Tree.{Forest, empty}
use Rattle.siblings.specs.Differing.{Inside}
use Rattle.siblings.specs.Keys.{keys_of, fresh, distinct}

-- the first n of the keys ks are those of the trees f up to a place, and no two are equal
pub record Kept (l ks : List ℕ) (n i : ℕ) (f : Forest) : Type 0 where
  pub rest : Forest
  pub inside : Inside l i rest
  pub whole : keys_of f ≡ take n ks ++ keys_of rest
  pub differs : T (distinct (take n ks))

-- what a block says of the trees at a place: fewer than 512 are all; or two are equal
abbrev pub BlockAt : List ℕ → ℕ → List ℕ → Option (ℕ × ℕ) → Type 0
BlockAt l at ks (Some (n, next)) =
    (at + n ≤ next) × (next ≤ length l) × (n ≤ 512) × ((f : Forest) → Inside l at f → Kept l ks n next f)
    × (n < 512 → (f : Forest) → Inside l next f → f ≡ empty)
BlockAt l at ks None = (f : Forest) → Inside l at f → distinct (keys_of f) ≡ false

-- whether none of the trees at a place has one of the keys
abbrev pub OthersDiffer : List ℕ → ℕ → List ℕ → Bool → Type 0
OthersDiffer l at ks t = (f : Forest) → Inside l at f → t ≡ fresh ks (keys_of f)
