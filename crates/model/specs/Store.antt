-- The store's 32 partitions (document 01, "The store's bytes"). A store of another length has none.
use Rattle.std.specs.Prelude.{Bool, cond, ◌&&◌, List, [], ◌++◌, ℕ, ◌+◌, ◌*◌, length, take, drop, replicate, eqb}
use Rattle.model.specs.Lists.{between}
use Rattle.model.specs.Label.{is_label}
use Rattle.model.specs.Partition.{partition_size}

abbrev pub store_size : ℕ
store_size = 41088

-- where partition n begins
abbrev pub partition_start : ℕ → ℕ
partition_start n = partition_size * n

unfoldable pub has_partition : ℕ → List ℕ → Bool
has_partition n s = eqb (length s) store_size && is_label n

-- partition n of a store
unfoldable pub partition : ℕ → List ℕ → List ℕ
partition n s = cond (has_partition n s) (between (partition_start n) (partition_start n + partition_size) s) []

-- the store with x for partition n
unfoldable pub replace : ℕ → List ℕ → List ℕ → List ℕ
replace n x s = cond (has_partition n s) (take (partition_start n) s ++ (x ++ drop (partition_start n + partition_size) s)) s

-- the empty store (document 01: fresh) is all zero
unfoldable pub empty_store : List ℕ
empty_store = replicate store_size 0
