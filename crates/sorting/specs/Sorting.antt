-- A partition on the way to path order: the elements from a slot on are sorted.
use Rattle.std.specs.Prelude.{◌≡◌, not, List, ◌++◌, ℕ, ◌+◌, ◌≤◌, ◌<◌, take, drop, T}
use Rattle.model.specs.Lists.{all, between}
use Rattle.model.specs.Sets.{sorted}
use Rattle.model.specs.Element.{Element, rank, valid_element, contains}
use Rattle.model.specs.Slot.{read_path}
use Rattle.model.specs.Partition.{count, slot_at, layout, read_partition}
use Rattle.model.specs.Migration.{former_well_formed}
use Rattle.partition.specs.Place.{place_of}

-- a partition that is well formed in the order of before, of some label
pub record Former (b : List ℕ) : Type 0 where
  pub label : ℕ
  pub is : T (former_well_formed label b)

-- a partition of valid elements of some label, in any order
pub record Laid (b : List ℕ) : Type 0 where
  pub label : ℕ
  pub few : count b ≤ 32
  pub valid : T (all (valid_element label) (read_partition b))
  pub bytes : b ≡ layout (read_partition b)

-- one whose elements behind slot i are sorted, and none of them has that slot's path
pub record SortedBehind (b : List ℕ) (i : ℕ) : Type 0 where
  pub laid : Laid b
  pub used : i < count b
  pub order : T (sorted rank (drop (i + 1) (read_partition b)))
  pub lacks : T (not (contains (drop (i + 1) (read_partition b)) (read_path (slot_at b i))))

-- the slot before which element i comes, of those behind it
abbrev pub place_behind : List ℕ → ℕ → ℕ
place_behind b i = i + 1 + place_of (read_path (slot_at b i)) (drop (i + 1) (read_partition b))

-- element i moved behind those up to element to
abbrev pub moved : ℕ → ℕ → List Element → List Element
moved i to es = take i es ++ (between (i + 1) to es ++ (between i (i + 1) es ++ drop to es))
