-- Bytes joined to one number, and the bytes of a number.
use Rattle.std.specs.Prelude.{List, [], ◌∷◌, ℕ, ◌+◌, ◌*◌, ◌/◌, ◌%◌}

-- the number that bytes give, the first the lowest
abbrev pub number_of : List ℕ → ℕ
number_of [] = 0
number_of (x ∷ l) = x + 256 * number_of l

-- the four bytes of a number of 32 bits
abbrev pub word_bytes : ℕ → List ℕ
word_bytes m = m % 256 ∷ m / 256 % 256 ∷ m / 65536 % 256 ∷ m / 16777216 ∷ []
