-- The keys of elements beside each other.
use Rattle.std.specs.Prelude.{◌≡◌, Bool, true, not, ◌&&◌, List, [], ◌∷◌, ◌++◌, map, ℕ, ◌<◌, length, drop, T, eqb, Option, Some, None}
use Rattle.std.proofs.Math.Option as logic
use Rattle.model.specs.Lists.{all, any}
use Rattle.model.specs.Path.{Step, valid_step}
use Rattle.model.specs.Value.{Content}
use Rattle.model.specs.Tree.{Forest, element}
use Rattle.model.specs.Xml.{end_tag, xml}
use Rattle.model.specs.Intake.{siblings}
use Rattle.siblings.specs.Differing.{key_of}

-- the keys of trees that stand beside each other
abbrev pub keys_of : Forest → List ℕ
keys_of f = map key_of (siblings f)

-- none is one of the keys k
abbrev pub fresh : List ℕ → List ℕ → Bool
fresh k q = all (λ x. not (any (eqb x) k)) q

-- no two are equal
abbrev pub distinct : List ℕ → Bool
distinct [] = true
distinct (x ∷ q) = not (any (eqb x) q) && distinct q

-- a text is that of an element with a valid step, and what follows it
pub record Opens (l : List ℕ) (a : Step) : Type 0 where
  pub content : logic.Option Content
  pub inside : Forest
  pub behind : Forest
  pub rest : List ℕ
  pub valid : T (valid_step a)
  pub same : l ≡ xml (element a content inside behind) ++ rest

-- what the key read at a place says: no end tag stands there, and it is the element's; or no element does
abbrev pub KeyAt : List ℕ → ℕ → Option ℕ → Type 0
KeyAt l at (Some k) = (at < length l) × ((n : ℕ) (r : List ℕ) → drop at l ≡ end_tag n ++ r → ⊥) × ((a : Step) → Opens (drop at l) a → k ≡ key_of a)
KeyAt l at None = (a : Step) → Opens (drop at l) a → ⊥
