-- What rows 6 and 7 say of an element that is there.
use Rattle.std.specs.Prelude.{◌≡◌, List, ℕ, Result, Ok, Err}
use Rattle.model.specs.Path.{Step}
use Rattle.model.specs.Model.{open_model, own_set}
use Rattle.model.specs.Rows.{row_code, own_live_rows}
use Rattle.partition.specs.Place.{place_of}
use Rattle.promise.specs.declared.Refusal.{Refusal}
use Rattle.promise.specs.Refusals.{code}

-- for subject s, the store b and the path p: the refusal of the first row that applies, or where the path stands in the subject's set
abbrev pub Owns : Result ℕ Refusal → ℕ → List ℕ → List Step → Type 0
Owns (Err r) s b p = code r ≡ row_code (own_live_rows s (open_model b) p)
Owns (Ok i) s b p = (0 ≡ row_code (own_live_rows s (open_model b) p)) × (i ≡ place_of p (own_set s (open_model b)))
