-- The reference model (document 01: the book, "Whole runs and the book"): the store's length and, for each label, a set of
-- elements or the bytes that stayed in.
use Rattle.std.specs.Prelude.{Bool, true, false, cond, List, [], ℕ, length, eqb}
use Rattle.std.proofs.Math.Option.{Option, none, some}
use Rattle.model.specs.Path.{Step, last_step}
use Rattle.model.specs.Element.{Element, contains}
use Rattle.model.specs.Partition.{layout, read_partition, well_formed}
use Rattle.model.specs.Store.{partition}

-- what the model keeps for one label
pub data Cell : Type 0 where
  held : List Element → Cell
  raw : List ℕ → Cell

unfoldable pub is_held : Cell → Bool
is_held (held es) = true
is_held (raw b) = false

unfoldable pub elements : Cell → List Element
elements (held es) = es
elements (raw b) = []

-- a well-formed partition gives the set of its elements; another stays in as its bytes
unfoldable pub open_cell : ℕ → List ℕ → Cell
open_cell n b = cond (well_formed n b) (held (read_partition b)) (raw b)

-- the set laid out in bytes, or the bytes that stayed in
unfoldable pub cell_bytes : Cell → List ℕ
cell_bytes (held es) = layout es
cell_bytes (raw b) = b

pub record Model : Type 0 where
  pub size : ℕ
  pub cell : ℕ → Cell

-- the model opened on a store
unfoldable pub open_model : List ℕ → Model
open_model s = record { size = length s; cell = λ n. open_cell n (partition n s) }

-- the set that the model keeps for a label
unfoldable pub own_set : ℕ → Model → List Element
own_set n m = elements (m.cell n)

-- the model with es, if any, as the set of label n
abbrev pub with_set : ℕ → Option (List Element) → Model → Model
with_set n none m = m
with_set n (some es) m = record { size = m.size; cell = λ k. cond (eqb k n) (held es) (m.cell k) }

-- live: in the set of its label
abbrev pub live_by : Model → List Step → Option Step → Bool
live_by m p none = false
live_by m p (some a) = contains (own_set a.label m) p

unfoldable pub live : Model → List Step → Bool
live m p = live_by m p (last_step p)
