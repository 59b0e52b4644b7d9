-- Sets as lists. A set whose members have a rank, a list of numbers, is kept as the one list that holds them in ascending order
-- of rank, so that equal sets are equal lists.
use Rattle.std.specs.Prelude.{Bool, true, false, cond, ◌&&◌, ◌||◌, List, [], ◌∷◌, ℕ, eqb, ltb}
use Rattle.model.specs.Lists.{all}

-- the order of ranks: number by number, and a list before its extensions
abbrev pub precedes : List ℕ → List ℕ → Bool
precedes [] [] = false
precedes [] (y ∷ s) = true
precedes (x ∷ r) [] = false
precedes (x ∷ r) (y ∷ s) = ltb x y || (eqb x y && precedes r s)

module _ {A : Type 0} (rank : A → List ℕ) where
  -- a member comes before another; before all of a list
  abbrev pub is_before : A → A → Bool
  is_before x y = precedes (rank x) (rank y)

  abbrev pub ahead : A → List A → Bool
  ahead x l = all (is_before x) l

  -- each member comes before all behind it; by `ascending-sorted` the same as the next
  abbrev pub sorted : List A → Bool
  sorted [] = true
  sorted (x ∷ l) = ahead x l && sorted l

  -- each member comes strictly before the next
  abbrev pub ascending : List A → Bool
  ascending [] = true
  ascending (x ∷ []) = true
  ascending (x ∷ y ∷ l) = precedes (rank x) (rank y) && ascending (y ∷ l)

  -- the set with x; where it has a member of x's rank, the set itself
  abbrev pub put : A → List A → List A
  put x [] = x ∷ []
  put x (y ∷ l) = cond (precedes (rank y) (rank x)) (y ∷ put x l) (cond (precedes (rank x) (rank y)) (x ∷ y ∷ l) (y ∷ l))

  -- the set of a list's members, each once
  abbrev pub sort : List A → List A
  sort [] = []
  sort (x ∷ l) = put x (sort l)
