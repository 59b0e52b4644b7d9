-- A partition to which an element may come with the groups that are missing above it.
use Rattle.std.specs.Prelude.{◌≡◌, List, ℕ, ◌+◌, ◌-◌, ◌≤◌, length, T}
use Rattle.model.specs.Path.{Step}
use Rattle.model.specs.Value.{Content, storable}
use Rattle.model.specs.Partition.{read_partition, well_formed}
use Rattle.model.proofs.Groups.{Lacking}
use Rattle.partition.specs.Place.{place_of}

-- it is well formed and lacks the path behind its first n steps; the path's place is given, the content may be stored, and slots are free
pub record Vacant (x : List ℕ) (p : List Step) (at n : ℕ) (c : Content) : Type 0 where
  pub label : ℕ
  pub formed : T (well_formed label x)
  pub lacking : Lacking label (read_partition x) p n
  pub place : at ≡ place_of p (read_partition x)
  pub content : T (storable c)
  pub room : length (read_partition x) + (length p - n) ≤ 32
