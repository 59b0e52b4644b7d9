-- A store that passed the first rows of the table, and one whose subject's own partition is well formed.
use Rattle.std.specs.Prelude.{◌≡◌, Bool, false, not, cond, List, [], ℕ, ◌+◌, ◌-◌, ◌≤◌, length, T}
use Rattle.model.specs.Lists.{any}
use Rattle.model.specs.Label.{is_label, dominates}
use Rattle.model.specs.Path.{Step, is_prefix}
use Rattle.model.specs.Value.{Content, storable}
use Rattle.model.specs.Store.{store_size}
use Rattle.model.specs.Model.{is_held, open_model, own_set}
use Rattle.model.specs.Rows.{some_raw}
use Rattle.model.proofs.Groups.{Lacking}
use Rattle.partition.specs.Place.{place_of}

-- rows 1, 2 and 3 do not apply: the size is right, the subject is a label, and the partitions that he dominates are well formed
pub record Opened (b : List ℕ) (s : ℕ) : Type 0 where
  pub size : length b ≡ store_size
  pub label : T (is_label s)
  pub formed : T (not (some_raw s (open_model b)))

-- a store's size is right, the subject is a label, and his own partition is well formed
pub record Own (b : List ℕ) (s : ℕ) : Type 0 where
  pub size : length b ≡ store_size
  pub label : T (is_label s)
  pub formed : T (is_held ((open_model b).cell s))

-- and an element may come there at a path, of which the first n steps are in view, with the groups that are missing behind them
pub record Vacant (b : List ℕ) (s : ℕ) (p : List Step) (at n : ℕ) (c : Content) : Type 0 where
  pub own : Own b s
  pub lacking : Lacking s (own_set s (open_model b)) p n
  pub place : at ≡ place_of p (own_set s (open_model b))
  pub content : T (storable c)
  pub room : length (own_set s (open_model b)) + (length p - n) ≤ 32

-- label n, which the subject dominates, has an element with the path or one that extends it
abbrev pub below_at : ℕ → List ℕ → List Step → ℕ → Bool
below_at s b p n = any (λ e. is_prefix p e.path) (cond (dominates s n) (own_set n (open_model b)) [])

-- of the labels from e on none has one
pub record Within (b : List ℕ) (s : ℕ) (p : List Step) (e : ℕ) : Type 0 where
  pub few : e ≤ 32
  pub others : (n : ℕ) → e ≤ n → below_at s b p n ≡ false
