-- What a subject sees at a path, and the step and the remainder that an even grade's result tells.
use Rattle.std.specs.Prelude.{Bool, true, false, cond, List, ℕ, ◌-◌, ℤ, pos, Some, None, Result, Ok, Err, ◌≡◌, length, get_or, T, eqb}
use Rattle.std.specs.Prelude as plain
use Rattle.std.proofs.Math.Option.{Option, none, some}
use Rattle.model.specs.Label.{dominates}
use Rattle.model.specs.Path.{Step}
use Rattle.model.specs.Value.{Content}
use Rattle.model.specs.Partition.{partition_size}
use Rattle.model.specs.Store.{partition}
use Rattle.model.specs.Model.{open_model}
use Rattle.model.specs.Text.{measure_of}
use Rattle.model.specs.View.{visible, in_view, content_at}
use Rattle.model.specs.Rows.{good_path}
use Rattle.store.specs.Opened.{Opened}
use Rattle.grade.specs.declared.Even.{Even}
use Rattle.promise.specs.declared.Refusal.{Refusal}
use Rattle.promise.specs.declared.Refusal.TheVariants.{Absent}

-- by whether a path is in view and by what content it has: a live measure, something else, or the refusal of what is not seen
abbrev pub sight_of : Bool → Option Content → Result (plain.Option ℕ) Refusal
sight_of false c = Err Absent
sight_of true none = Ok None
sight_of true (some c) = Ok (cond (eqb c.kind 1) (Some (measure_of c.value)) None)

-- what subject s sees at the path p on the store b
abbrev pub sight_at : ℕ → List ℕ → List Step → Result (plain.Option ℕ) Refusal
sight_at s b p = sight_of (in_view s (open_model b) p) (content_at (visible s (open_model b)) p)

-- x is the partition, on the store b, of the label of the path p, which is its last byte and which the subject s dominates
pub record PathPartition (b : List ℕ) (s : ℕ) (p x : List ℕ) : Type 0 where
  pub opened : Opened b s
  pub path : T (good_path p)
  pub label : T (dominates s (get_or p (length p - 1) 0))
  pub is : x ≡ partition (get_or p (length p - 1) 0) b
  pub size : length x ≡ partition_size

-- the step and the remainder that a result tells, 0 and 0 with a refusal
abbrev pub step_in : Result Even Refusal → ℤ
step_in (Ok x) = x.step
step_in (Err r) = pos 0

abbrev pub remainder_in : Result Even Refusal → ℕ
remainder_in (Ok x) = x.remainder
remainder_in (Err r) = 0
