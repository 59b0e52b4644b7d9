-- Elements that stand beside each other in a text: whether no two are equal in name and label.
use Rattle.std.specs.Prelude.{◌≡◌, Bool, true, false, List, [], ◌∷◌, ◌++◌, map, ℕ, ◌+◌, ◌*◌, ◌≤◌, ◌<◌, length, take, drop, T}
use Rattle.model.specs.Lists.{all}
use Rattle.model.specs.Path.{Step, valid_step}
use Rattle.model.specs.Tree.{Forest}
use Rattle.model.specs.Xml.{end_tag, xml}
use Rattle.model.specs.Intake.{siblings, differ, in_form}

-- a step as one number; steps with different numbers differ
abbrev pub key_of : Step → ℕ
key_of a = 32 * a.name + a.label

-- trees in form stand at a place, up to the end tag of the element that they are inside
pub record Inside (l : List ℕ) (at : ℕ) (f : Forest) : Type 0 where
  pub depth : ℕ
  pub name : ℕ
  pub behind : List ℕ
  pub form : T (in_form depth f)
  pub same : drop at l ≡ xml f ++ (end_tag name ++ behind)

-- whether the trees that stand at a place differ in their steps; where none in form stand there, it says nothing
abbrev pub DifferAt : List ℕ → ℕ → Bool → Type 0
DifferAt l at t = (f : Forest) → Inside l at f → t ≡ differ (siblings f)

-- what is known after n of the trees at a place, whose steps are p: up to 32 by their keys; behind that, that all of them differ
pub record Known (l : List ℕ) (at : ℕ) (ks : List ℕ) (n : ℕ) (p : List Step) : Type 0 where
  pub many : n ≡ length p
  pub valid : T (all valid_step p)
  pub kept : n ≤ 32 → take n ks ≡ map key_of p
  pub differs : n ≤ 32 → T (differ p)
  pub others : 32 < n → DifferAt l at true

-- what is known with one step more; or the trees at the place do not differ
abbrev pub Added : (l : List ℕ) (at : ℕ) (ks : List ℕ) (n : ℕ) (a : Step) (ks' : List ℕ) → Bool → Type 0
Added l at ks n a ks' true = (p : List Step) → Known l at ks n p → Known l at ks' (n + 1) (p ++ (a ∷ []))
Added l at ks n a ks' false =
    (p q : List Step) (f : Forest) → Known l at ks n p → Inside l at f → siblings f ≡ p ++ (a ∷ q) → T (differ (siblings f)) → ⊥
