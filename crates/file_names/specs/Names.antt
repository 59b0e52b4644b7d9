-- Names of files, and the words that are not taken for one.
use Rattle.std.specs.Prelude.{◌≡◌, Bool, false, not, cond, ◌&&◌, ◌||◌, ◌⊎◌, List, [], ◌∷◌, ◌++◌, ℕ, suc, ◌-◌, eqb, length, replicate, slice_index_or}

-- a word that asks for help: -h or --help
abbrev pub AsksHelp : List ℕ → Type 0
AsksHelp word = (word ≡ 45 ∷ 104 ∷ []) ⊎ (word ≡ 45 ∷ 45 ∷ 104 ∷ 101 ∷ 108 ∷ 112 ∷ [])

-- whether a word begins with a dash, byte 45
abbrev pub is_dashed : List ℕ → Bool
is_dashed [] = false
is_dashed (x ∷ xs) = eqb x 45

-- what a new file's name has behind the store's: a dot and six letters X
abbrev pub new_end : List ℕ
new_end = 46 ∷ 88 ∷ 88 ∷ 88 ∷ 88 ∷ 88 ∷ 88 ∷ []

-- the name of a new file beside the store's, before its letters X are replaced
abbrev pub new_name : List ℕ → List ℕ
new_name name = name ++ new_end

-- a name as C takes it: zeros behind it, 4,096 bytes in all
abbrev pub for_c : List ℕ → List ℕ
for_c name = name ++ replicate (4096 - length name) 0

-- what C takes as a name: it ends, since the last of the 4,096 bytes is 0
abbrev pub Ended : List ℕ → Type 0
Ended bytes = slice_index_or bytes 4095 1 ≡ 0

-- whether a slash, byte 47, stands in a text
abbrev pub has_slash : List ℕ → Bool
has_slash [] = false
has_slash (x ∷ xs) = eqb x 47 || has_slash xs

-- where the last slash of a name stands, or the name's length where it has none
abbrev pub last_slash : List ℕ → ℕ
last_slash [] = 0
last_slash (x ∷ xs) = cond (eqb x 47 && not (has_slash xs)) 0 (suc (last_slash xs))
