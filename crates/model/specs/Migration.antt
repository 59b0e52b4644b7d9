-- The migration of stores in use to the order by level (document 02, 7/14: the owner's pass).
use Rattle.std.specs.Prelude.{◌≡◌, Bool, not, cond, List, [], ◌∷◌, map, ℕ, zero, suc, ◌+◌, ◌*◌, ◌/◌, ◌%◌, length, T, eqb}
use Rattle.model.specs.Lists.{gather}
use Rattle.model.specs.Sets.{sort}
use Rattle.model.specs.Label.{labels, dominates}
use Rattle.model.specs.Path.{former_key}
use Rattle.model.specs.Element.{rank}
use Rattle.model.specs.Partition.{layout, read_partition, well_formed_by}
use Rattle.model.specs.Store.{store_size, partition}
use Rattle.model.specs.Model.{open_model}
use Rattle.model.specs.Run.{Event, spares, Alike, Unaffected}

-- ---- a partition

-- well formed in the order of before
abbrev pub former_well_formed : ℕ → List ℕ → Bool
former_well_formed n b = well_formed_by former_key n b

-- one that was well formed in that order gets the same elements in path order; any other keeps its bytes
unfoldable pub migrated : ℕ → List ℕ → List ℕ
migrated n b = cond (former_well_formed n b) (layout (sort rank (read_partition b))) b

-- ---- a store: each partition by itself. One of another length keeps its bytes

unfoldable pub migrated_store : List ℕ → List ℕ
migrated_store s = cond (eqb (length s) store_size) (gather (λ n. migrated n (partition n s)) labels) s

-- ---- what is answered

-- the number of these bits, the lowest first
abbrev pub binary : List Bool → ℕ
binary [] = 0
binary (b ∷ bs) = cond b 1 0 + 2 * binary bs

-- bit n of a number
abbrev pub bit : ℕ → ℕ → Bool
bit zero m = eqb (m % 2) 1
bit (suc n) m = bit n (m / 2)

pub record Migration : Type 0 where
  pub number : ℕ
  pub mask : ℕ

-- 0, and the mask, whose bit n is set exactly when partition n was not well formed in the order of before; or 1 for another length
unfoldable pub migration : List ℕ → Migration
migration s =
    cond (eqb (length s) store_size)
    (record { number = 0; mask = binary (map (λ n. not (former_well_formed n (partition n s))) labels) })
    (record { number = 1; mask = 0 })

-- ---- demand 3 for a list that begins with the migration

-- the number and the mask's bits of the observer's labels are those of every alike store, and what he gets of the events behind the
-- migration is what the model gives that is opened on the alike store, migrated too
pub record MigratedUnaffected (o : ℕ) (es : List Event) (s t : List ℕ) : Type 0 where
  pub number : (migration s).number ≡ (migration t).number
  pub bits : (n : ℕ) → T (dominates o n) → bit n (migration s).mask ≡ bit n (migration t).mask
  pub run : Unaffected o es (migrated_store s) (open_model (migrated_store t))

abbrev pub MigratedNoninterference : Type 0
MigratedNoninterference = (o : ℕ) (es : List Event) (s t : List ℕ) → T (spares o es) → Alike o s t → MigratedUnaffected o es s t
