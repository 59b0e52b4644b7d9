-- Steps, paths and path order (document 01, "Elements" and "The store's bytes").
use Rattle.std.specs.Prelude.{Bool, true, false, ◌&&◌, ◌||◌, List, [], ◌∷◌, ◌++◌, map, ℕ, ◌+◌, ◌-◌, ◌*◌, length, eqb, leb, ltb}
use Rattle.std.proofs.Math.Option.{Option, none, some}
use Rattle.model.specs.Lists.{all}
use Rattle.model.specs.Label.{is_label, level, compartments, dominates}

pub record Step : Type 0 where
  pub name : ℕ
  pub label : ℕ

-- a path is a list of steps; the root is the empty path

unfoldable pub same_step : Step → Step → Bool
same_step a b = eqb a.name b.name && eqb a.label b.label

abbrev pub same_path : List Step → List Step → Bool
same_path [] [] = true
same_path [] (b ∷ q) = false
same_path (a ∷ p) [] = false
same_path (a ∷ p) (b ∷ q) = same_step a b && same_path p q

-- p is a prefix of q (document 01: a beginning) or q itself; so q is p or extends it
abbrev pub is_prefix : List Step → List Step → Bool
is_prefix [] q = true
is_prefix (a ∷ p) [] = false
is_prefix (a ∷ p) (b ∷ q) = same_step a b && is_prefix p q

-- the prefixes of a path, the path itself among them and the root left out
abbrev pub prefixes : List Step → List (List Step)
prefixes [] = []
prefixes (a ∷ p) = (a ∷ []) ∷ map (λ q. a ∷ q) (prefixes p)

abbrev pub parent : List Step → List Step
parent [] = []
parent (a ∷ []) = []
parent (a ∷ b ∷ p) = a ∷ parent (b ∷ p)

abbrev pub last_step : List Step → Option Step
last_step [] = none
last_step (a ∷ []) = some a
last_step (a ∷ b ∷ p) = last_step (b ∷ p)

-- a step that bears label n
abbrev pub bears : ℕ → Option Step → Bool
bears n none = false
bears n (some a) = eqb a.label n

-- the last label is n; it is the element's
abbrev pub ends_in : ℕ → List Step → Bool
ends_in n p = bears n (last_step p)

-- ---- which paths an element may have

unfoldable pub valid_step : Step → Bool
valid_step a = leb 1 a.name && leb a.name 65535 && is_label a.label

-- each step's label dominates the one before
abbrev pub labels_ascend : List Step → Bool
labels_ascend [] = true
labels_ascend (a ∷ []) = true
labels_ascend (a ∷ b ∷ p) = dominates b.label a.label && labels_ascend (b ∷ p)

-- one to six valid steps with ascending labels
unfoldable pub valid_path : List Step → Bool
valid_path p = leb 1 (length p) && leb (length p) 6 && all valid_step p && labels_ascend p

-- ---- a path given as bytes: three a step, the name lowest byte first, then the label

abbrev pub steps_of : List ℕ → List Step
steps_of [] = []
steps_of (lo ∷ []) = []
steps_of (lo ∷ hi ∷ []) = []
steps_of (lo ∷ hi ∷ l ∷ p) = record { name = lo + 256 * hi; label = l } ∷ steps_of p

-- ---- path order: step by step by a key; a prefix comes before its extensions

-- the order of steps (document 02, 7/14): names, then level from high to low, then compartments number from low to high
unfoldable pub step_before : Step → Step → Bool
step_before a b =
    ltb a.name b.name
    || (eqb a.name b.name
    && (ltb (level b.label) (level a.label)
    || (eqb (level a.label) (level b.label) && ltb (compartments a.label) (compartments b.label))))

-- and of paths: step by step, a prefix before its extensions
abbrev pub path_precedes : List Step → List Step → Bool
path_precedes [] [] = false
path_precedes [] (b ∷ q) = true
path_precedes (a ∷ p) [] = false
path_precedes (a ∷ p) (b ∷ q) = step_before a b || (same_step a b && path_precedes p q)

-- that order as a key, which tells apart what is no label too: of valid steps it is the same order (`rank-order`). Different steps must
-- have different keys, and all keys one length (`Keyed`)
unfoldable pub key : Step → List ℕ
key a = a.name ∷ (3 - level a.label) ∷ a.label ∷ []

-- the key of before 7/14: the name first and then the label number
unfoldable pub former_key : Step → List ℕ
former_key a = a.name ∷ a.label ∷ []

-- a path's rank in the order of a key
abbrev pub keys : (Step → List ℕ) → List Step → List ℕ
keys k [] = []
keys k (a ∷ p) = k a ++ keys k p

-- a path's rank in path order
abbrev pub path_rank : List Step → List ℕ
path_rank p = keys key p
