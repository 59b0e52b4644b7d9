-- Two paths compared: how many first steps they share, and which comes first.
use Rattle.std.specs.Prelude.{◌≡◌, Bool, cond, List, [], ◌∷◌, ℕ, suc}
use Rattle.model.specs.Sets.{precedes}
use Rattle.model.specs.Path.{Step, same_step, key, keys}

-- how many first steps p and q share
abbrev pub common : List Step → List Step → ℕ
common [] q = 0
common (a ∷ p) [] = 0
common (a ∷ p) (b ∷ q) = cond (same_step a b) (suc (common p q)) 0

-- p comes before q in the order of a key
abbrev pub is_before_by : (Step → List ℕ) → List Step → List Step → Bool
is_before_by k p q = precedes (keys k p) (keys k q)

-- p comes before q in path order
abbrev pub is_before : List Step → List Step → Bool
is_before p q = is_before_by key p q

-- what a comparison of p with q in the order of a key says
pub record ComparedBy (k : Step → List ℕ) (p q : List Step) (shared : ℕ) (before : Bool) : Type 0 where
  pub shared-is : shared ≡ common p q
  pub before-is : before ≡ is_before_by k p q

-- and in path order
abbrev pub Compared : List Step → List Step → ℕ → Bool → Type 0
Compared p q shared before = ComparedBy key p q shared before
