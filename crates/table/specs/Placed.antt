-- What rows 6 to 9 say of an element that comes.
use Rattle.std.specs.Prelude.{◌≡◌, not, List, ℕ, Result, Ok, Err, T}
use Rattle.model.specs.Path.{Step, ends_in, steps_of}
use Rattle.model.specs.Element.{contains}
use Rattle.model.specs.Model.{open_model, own_set}
use Rattle.model.specs.View.{visible}
use Rattle.model.specs.Groups.{seen_steps}
use Rattle.model.specs.Rows.{good_path, row_code, place_rows}
use Rattle.partition.specs.Place.{place_of}
use Rattle.reach.specs.Before.{steps_before}
use Rattle.store.specs.Opened.{Opened}
use Rattle.promise.specs.declared.Refusal.{Refusal}
use Rattle.promise.specs.Refusals.{code}
use Rattle.table.specs.declared.placing.Placed.{Placed}

-- a path that ends in the subject's label and is not in his own partition, and its place there
pub record Absent (b : List ℕ) (s : ℕ) (p : List ℕ) (at : ℕ) : Type 0 where
  pub opened : Opened b s
  pub path : T (good_path p)
  pub ends : T (ends_in s (steps_of p))
  pub lacks : T (not (contains (own_set s (open_model b)) (steps_of p)))
  pub place : at ≡ place_of (steps_of p) (own_set s (open_model b))

-- such a path, how many of its first steps the subject's elements share, and how many stand before those of his label
pub record Searched (b : List ℕ) (s : ℕ) (p : List ℕ) (held lower : ℕ) : Type 0 where
  pub at : ℕ
  pub absent : Absent b s p at
  pub held-is : held ≡ seen_steps (own_set s (open_model b)) (steps_of p)
  pub lower-is : lower ≡ steps_before s (steps_of p)

-- no row refuses the path; at is its place in the subject's set, and so many of its first steps are in view
abbrev pub Comes : (s : ℕ) (store : List ℕ) (path : List Step) (at seen : ℕ) → Type 0
Comes s b p i n =
    (0 ≡ row_code (place_rows s (open_model b) p)) × (i ≡ place_of p (own_set s (open_model b))) × (n ≡ seen_steps (visible s (open_model b)) p)

-- for subject s, the store b and the path p: the refusal of the first row that applies, or where the path comes
abbrev pub Places : Result Placed Refusal → ℕ → List ℕ → List Step → Type 0
Places (Err r) s b p = code r ≡ row_code (place_rows s (open_model b) p)
Places (Ok x) s b p = Comes s b p x.at x.seen
