-- Where a path stands in a set of elements, or would stand.
use Rattle.std.specs.Prelude.{◌≡◌, Bool, not, cond, List, [], ◌∷◌, ℕ, zero, suc, ◌<◌, ◌≤◌, length, T, Result, Ok, Err}
use Rattle.model.specs.Sets.{sorted}
use Rattle.model.specs.Path.{Step}
use Rattle.model.specs.Value.{Content}
use Rattle.model.specs.Element.{Element, rank, contains}
use Rattle.model.specs.Slot.{depth}
use Rattle.model.specs.Partition.{partition_size, count, slot_at, read_partition, well_formed}
use Rattle.path.specs.Common.{is_before}

-- a well-formed partition, of some label
pub record Formed (b : List ℕ) : Type 0 where
  pub label : ℕ
  pub is : T (well_formed label b)

-- a partition whose used slots can be read and stand in path order, as those of every well-formed one
pub record InOrder (b : List ℕ) : Type 0 where
  pub size : length b ≡ partition_size
  pub few : count b ≤ 32
  pub deep : (i : ℕ) → i < count b → depth (slot_at b i) ≤ 6
  pub order : T (sorted rank (read_partition b))

-- how many elements come before the path
abbrev pub place_of : List Step → List Element → ℕ
place_of p [] = 0
place_of p (e ∷ es) = cond (is_before e.path p) (suc (place_of p es)) 0

-- the place that a search answers, whether the path stands there (Ok) or would stand there (Err)
abbrev pub place_in : Result ℕ ℕ → ℕ
place_in (Ok i) = i
place_in (Err i) = i

-- what a search for the path answers: where it stands or would stand, and whether it is there
pub record Found (b : List ℕ) (p : List Step) (at : ℕ) (found : Bool) : Type 0 where
  pub at-is : at ≡ place_of p (read_partition b)
  pub found-is : found ≡ contains (read_partition b) p

-- a well-formed partition with a free slot and no element at the path, whose place is given
pub record Room (b : List ℕ) (at : ℕ) (p : List Step) : Type 0 where
  pub formed : Formed b
  pub free : count b < 32
  pub place : at ≡ place_of p (read_partition b)
  pub lacks : T (not (contains (read_partition b) p))

-- the set with another content for element i
abbrev pub replaced_at : ℕ → Content → List Element → List Element
replaced_at i c [] = []
replaced_at zero c (e ∷ es) = record { path = e.path; content = c } ∷ es
replaced_at (suc i) c (e ∷ es) = e ∷ replaced_at i c es
