-- Digits of a number, with their zeros in front.
use Rattle.std.specs.Prelude.{List, [], ◌∷◌, ◌++◌, ℕ, ◌+◌, ◌/◌, ◌%◌}

-- the two digits of a number below a hundred
unfoldable pub pair : ℕ → List ℕ
pair n = (48 + n / 10) ∷ (48 + n % 10) ∷ []

-- the four digits of a number below ten thousand
unfoldable pub four : ℕ → List ℕ
four n = pair (n / 100) ++ pair (n % 100)

-- the eight digits of a number below a hundred million
unfoldable pub eight : ℕ → List ℕ
eight n = four (n / 10000) ++ four (n % 10000)
