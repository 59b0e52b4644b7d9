-- How a text goes on.
use Rattle.std.specs.Prelude.{Bool, true, false, not, ◌&&◌, List, [], ◌∷◌, ℕ, eqb}
use Rattle.model.specs.Text.{is_digit}

-- with the byte b
abbrev pub begins : ℕ → List ℕ → Bool
begins b [] = false
begins b (x ∷ l) = eqb x b

-- with given bytes
unfoldable pub is_front : List ℕ → List ℕ → Bool
is_front [] l = true
is_front (x ∷ b) [] = false
is_front (x ∷ b) (y ∷ l) = eqb x y && is_front b l

-- with no digit
abbrev pub no_digit : List ℕ → Bool
no_digit [] = true
no_digit (x ∷ l) = not (is_digit x)
