-- How a line goes on.
use Rattle.std.specs.Prelude.{Bool, true, List, [], ◌∷◌, ℕ, eqb}

-- with a tab, or not at all
abbrev pub closes : List ℕ → Bool
closes [] = true
closes (x ∷ l) = eqb x 9
