-- What the rows that every call has first say of it.
use Rattle.std.specs.Prelude.{◌≡◌, List, ℕ, Result, Ok, Err, length, T}
use Rattle.model.specs.Label.{is_label}
use Rattle.model.specs.Store.{store_size}
use Rattle.model.specs.Model.{open_model}
use Rattle.model.specs.Rows.{row_code, lent_rows, formed_rows}
use Rattle.store.specs.Opened.{Opened}
use Rattle.promise.specs.declared.Refusal.{Refusal}
use Rattle.promise.specs.Refusals.{code}

-- a store of the right size, and a label
pub record Lent (b : List ℕ) (s : ℕ) : Type 0 where
  pub size : length b ≡ store_size
  pub label : T (is_label s)

-- for subject s on the store b: the refusal of row 1 or 2, or the label for which is gone on
abbrev pub Opens : Result ℕ Refusal → ℕ → List ℕ → Type 0
Opens (Err r) s b = code r ≡ row_code (lent_rows s (open_model b))
Opens (Ok l) s b = (l ≡ s) × Lent b s

-- for the label s on the store b: the refusal of row 3, or the store is open to him
abbrev pub Forms : {A : Type 0} → Result A Refusal → ℕ → List ℕ → Type 0
Forms (Err r) s b = code r ≡ row_code (formed_rows s (open_model b))
Forms (Ok x) s b = Opened b s
