-- References to slots of a store, and the elements that a subject sees at or below a path, in path order.
use Rattle.std.specs.Prelude.{◌≡◌, Bool, true, false, cond, ◌&&◌, List, [], ◌∷◌, map, ℕ, ◌/◌, ◌%◌, ◌<◌, length, get_or, T, ltb}
use Rattle.model.specs.Lists.{all, keep, gather, ◌∈◌}
use Rattle.model.specs.Sets.{sort, sorted}
use Rattle.model.specs.Label.{dominates}
use Rattle.model.specs.Path.{Step, is_prefix}
use Rattle.model.specs.Element.{Element, rank}
use Rattle.model.specs.Slot.{read_slot}
use Rattle.model.specs.Partition.{count, slot_at}
use Rattle.model.specs.Store.{partition}
use Rattle.model.specs.Model.{open_model, own_set}
use Rattle.path.specs.Common.{is_before}

-- ---- a reference is 32 × label + slot

unfoldable pub slot_of : List ℕ → ℕ → List ℕ
slot_of b r = slot_at (partition (r / 32) b) (r % 32)

unfoldable pub element_of : List ℕ → ℕ → Element
element_of b r = read_slot (slot_of b r)

-- it names a used slot of a partition that the subject dominates
unfoldable pub refers : ℕ → List ℕ → ℕ → Bool
refers s b r = dominates s (r / 32) && ltb (r % 32) (count (partition (r / 32) b))

-- the references rs name the elements es
pub record Refers (s : ℕ) (b : List ℕ) (rs : List ℕ) (es : List Element) : Type 0 where
  pub valid : T (all (refers s b) rs)
  pub named : map (element_of b) rs ≡ es

-- ---- the elements that the subject sees

-- those of label n that have the path or extend it
unfoldable pub seen_at : ℕ → List ℕ → List Step → ℕ → List Element
seen_at s b p n = keep (λ e. is_prefix p e.path) (cond (dominates s n) (own_set n (open_model b)) [])

-- numbers of which each is less than those behind it
abbrev pub rising : List ℕ → Bool
rising [] = true
rising (n ∷ l) = all (ltb n) l && rising l

-- those of some labels, in path order
unfoldable pub ordered_of : ℕ → List ℕ → List Step → List ℕ → List Element
ordered_of s b p ls = sort rank (gather (seen_at s b p) ls)

-- ---- two runs to be merged: each ascends, and no rank is in both
pub record Runs (s : ℕ) (b : List ℕ) (xs ys : List ℕ) : Type 0 where
  pub valid-x : T (all (refers s b) xs)
  pub valid-y : T (all (refers s b) ys)
  pub ascends-x : T (sorted rank (map (element_of b) xs))
  pub ascends-y : T (sorted rank (map (element_of b) ys))
  pub apart : (d e : Element) → d ∈ map (element_of b) xs → e ∈ map (element_of b) ys → rank d ≡ rank e → ⊥

-- whether the next of two runs is the first's element i: the first is not at its end, and the second is or has a later one at j
pub record Takes (b : List ℕ) (xs : List ℕ) (i : ℕ) (ys : List ℕ) (j : ℕ) (t : Bool) : Type 0 where
  pub first : t ≡ true → (i < length xs) × (j < length ys → T (is_before (element_of b (get_or xs i 0)).path (element_of b (get_or ys j 0)).path))
  pub second : t ≡ false → (j < length ys) × (i < length xs → T (is_before (element_of b (get_or ys j 0)).path (element_of b (get_or xs i 0)).path))
