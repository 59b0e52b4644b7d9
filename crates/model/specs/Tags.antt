-- Balanced tags: what is asked of the bytes of any XML document, whatever its elements are.
use Rattle.std.specs.Prelude.{Bool, true, false, cond, List, [], ◌∷◌, ◌++◌, ℕ, eqb}
use Rattle.model.specs.Lists.{same_bytes}

-- where a reader of the bytes is, with the names of the elements that are open, the last opened first: between tags; behind the < of a
-- tag; in the name of a start tag, or behind it; in the name of an end tag; or an end tag was wrong
pub data Reader : Type 0 where
  between : (unclosed : List (List ℕ)) → Reader
  behind : (unclosed : List (List ℕ)) → Reader
  naming : (name : List ℕ) (unclosed : List (List ℕ)) → Reader
  named : (name : List ℕ) (unclosed : List (List ℕ)) → Reader
  closing : (name : List ℕ) (unclosed : List (List ℕ)) → Reader
  wrong : Reader

-- an end tag closes the element that was opened last
abbrev pub closed : List ℕ → List (List ℕ) → Reader
closed n [] = wrong
closed n (o ∷ os) = cond (same_bytes n o) (between os) wrong

-- one byte read: < is 60, / 47, > 62, and a space 32
abbrev pub read_byte : Reader → ℕ → Reader
read_byte (between os) x = cond (eqb x 60) (behind os) (between os)
read_byte (behind os) x = cond (eqb x 47) (closing [] os) (naming (x ∷ []) os)
read_byte (naming n os) x = cond (eqb x 62) (between (n ∷ os)) (cond (eqb x 32) (named n os) (naming (n ++ (x ∷ [])) os))
read_byte (named n os) x = cond (eqb x 62) (between (n ∷ os)) (named n os)
read_byte (closing n os) x = cond (eqb x 62) (closed n os) (closing (n ++ (x ∷ [])) os)
read_byte wrong x = wrong

abbrev pub read_bytes : Reader → List ℕ → Reader
read_bytes r [] = r
read_bytes r (x ∷ l) = read_bytes (read_byte r x) l

-- between tags, and no element is open
abbrev pub is_over : Reader → Bool
is_over (between []) = true
is_over (between (o ∷ os)) = false
is_over (behind os) = false
is_over (naming n os) = false
is_over (named n os) = false
is_over (closing n os) = false
is_over wrong = false

-- each end tag bears the name of the element that was opened last and is not closed yet, and in the end none is open
unfoldable pub balanced : List ℕ → Bool
balanced l = is_over (read_bytes (between []) l)
