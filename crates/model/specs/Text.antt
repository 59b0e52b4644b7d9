-- Numbers and lines as bytes (document 01, "The printed view and the call runner").
use Rattle.std.specs.Prelude.{Bool, true, false, not, cond, ◌&&◌, List, [], ◌∷◌, ◌++◌, ℕ, zero, suc, ◌+◌, ◌-◌, ◌*◌, ◌/◌, ◌%◌, ℤ, pos, negsuc, get_or, eqb, leb, ltb}
use Prim.Native.Char.{code}
use Prim.Native.String.{String, [] as end, ◌∷◌ as ◌then◌}
use Rattle.model.specs.Lists.{joined}

-- the bytes of a text in quotes
abbrev pub ascii : String → List ℕ
ascii end = []
ascii (c then s) = code c ∷ ascii s

-- the decimal digits of n, at most f of them
abbrev pub digits : ℕ → ℕ → List ℕ
digits zero n = []
digits (suc f) n = let more = digits f (n / 10) ++ ((48 + n % 10) ∷ []) in cond (ltb n 10) ((48 + n) ∷ []) more

-- n in decimal; it has no more than n + 1 digits
unfoldable pub decimal : ℕ → List ℕ
decimal n = digits (suc n) n

-- ---- digits read

-- 0 to 9
unfoldable pub is_digit : ℕ → Bool
is_digit x = leb 48 x && leb x 57

-- the number that v and the digits after it stand for
abbrev pub value_from : ℕ → List ℕ → ℕ
value_from v [] = v
value_from v (d ∷ ds) = value_from (v * 10 + (d - 48)) ds

-- the number that digits stand for
abbrev pub digits_value : List ℕ → ℕ
digits_value ds = value_from 0 ds

-- at least one digit, and no zero before others
abbrev pub no_leading_zero : List ℕ → Bool
no_leading_zero [] = false
no_leading_zero (d ∷ []) = true
no_leading_zero (d ∷ e ∷ ds) = not (eqb d 48)

-- ---- measures and lines

-- a measure's four bytes, lowest first, as a number of 32 bits; it counts hundredths of a millimetre
unfoldable pub measure_of : List ℕ → ℕ
measure_of v = get_or v 0 0 + 256 * get_or v 1 0 + 65536 * get_or v 2 0 + 16777216 * get_or v 3 0

-- a number of 32 bits as a signed number, in decimal with a minus sign if negative
unfoldable pub signed : ℕ → List ℕ
signed m = cond (ltb m 2147483648) (decimal m) (45 ∷ decimal (4294967296 - m))

-- a whole number in decimal, with a minus sign if negative; negsuc n is -(n + 1)
abbrev pub whole_text : ℤ → List ℕ
whole_text (pos n) = decimal n
whole_text (negsuc n) = 45 ∷ decimal (suc n)

-- fields parted by one tab
abbrev pub fields : List (List ℕ) → List ℕ
fields fs = joined 9 fs

-- a line ends with byte 10
abbrev pub line : List (List ℕ) → List ℕ
line fs = fields fs ++ (10 ∷ [])
