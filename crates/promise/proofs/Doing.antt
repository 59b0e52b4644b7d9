-- What an operation has done, refused or not, and that a bare subject's call has then done it.
use mathlib.Core.Path.{◌≡◌, refl, ap, ◌∙◌}
use mathlib.Core.Bool.{not}
use mathlib.Core.Option.{Option, some}
use mathlib.Core.List.{List, ◌++◌}
use Prim.Native.Nat.{ℕ}
use native.Mathlib.Omega.{arith}
use lib.ListN.{length, drop}
use lib.Dec.{T}
use Rattle.model.specs.Label.{is_label}
use Rattle.model.specs.Store.{store_size}
use Rattle.model.specs.Model.{open_model}
use Rattle.model.specs.Rows.{row_code, refusal, some_raw, lent_rows, formed_rows}
use Rattle.model.specs.Call.{Op, by, subject_of, caller_rows, op_rows, table, Told, Outcome, Effect, effect, nothing, refused, done, outcome_by}
use Rattle.model.specs.Run.{write_set}
use Rattle.model.proofs.Rows.{Passes, refusal-past, row-applies, rows-stop, rows-refuse, rows_none}
use Rattle.model.proofs.Refusals.{outcome-by, table-lent}
use Rattle.promise.specs.Did.{Gives, Did, op_outcome, Acted}

-- a number told, and nothing with it
abbrev pub refused_told : ℕ → Op → Told
refused_told k o = record { number = k; result = nothing o }

-- equal outcomes give the same
pub gives_as : {x z : Outcome} → x ≡ z → {s : ℕ} {b y : List ℕ} {t : Told} {b' y' : List ℕ} → Gives z s b y t b' y' → Gives x s b y t b' y'
gives_as e g = rw e g

-- and so does what is told the same
pub gives-told : {x : Outcome} {s : ℕ} {b y : List ℕ} {t u : Told} {b' y' : List ℕ} → t ≡ u → Gives x s b y u b' y' → Gives x s b y t b' y'
gives-told e g = record { told_is = e ∙ g.told_is; store_is = g.store_is; output-is = g.output-is }

module _ (o : Op) (s : ℕ) (b y : List ℕ) where
  -- a refusal leaves the store and the output
  gives-refused : (k : ℕ) → Gives (refused k o) s b y (refused_told k o) b y
  unfolding refused
  gives-refused k = record { told_is = refl; store_is = refl; output-is = refl }

  by_rows : {r : Option ℕ} → refusal (formed_rows s (open_model b) ++ op_rows o s (open_model b)) ≡ r → op_outcome o s b ≡ outcome_by r o s (open_model b)
  unfolding op_outcome
  by_rows e = ap (λ (r : Option ℕ). outcome_by r o s (open_model b)) e

  -- an operation that row 3 refuses
  pub acted-unformed : {k : ℕ} → k ≡ row_code (formed_rows s (open_model b)) → (k ≡ 0 → ⊥) → Acted o s b y (refused_told k o) b y
  acted-unformed {k} e h =
      let rest = op_rows o s (open_model b) in
      gives_as (by_rows (rows-refuse (formed_rows s (open_model b) ++ rest) (rows-stop (formed_rows s (open_model b)) rest e h) h)) (gives-refused k)

  pub acted-raw : T (some_raw s (open_model b)) → Acted o s b y (refused_told 3 o) b y
  acted-raw t = acted-unformed (row-applies (some_raw s (open_model b)) _ t) (λ z. absurd (omega arith))

  module _ (f : T (not (some_raw s (open_model b)))) where
    formed-past : refusal (formed_rows s (open_model b) ++ op_rows o s (open_model b)) ≡ refusal (op_rows o s (open_model b))
    formed-past = refusal-past (formed_rows s (open_model b)) (op_rows o s (open_model b)) (f, tt)

    -- one that its own rows refuse
    pub acted-refused : {k : ℕ} → k ≡ row_code (op_rows o s (open_model b)) → (k ≡ 0 → ⊥) → Acted o s b y (refused_told k o) b y
    acted-refused {k} e h = gives_as (by_rows (formed-past ∙ rows-refuse (op_rows o s (open_model b)) e h)) (gives-refused k)

    -- another leaves what its effect says
    pub acted-done : Passes (op_rows o s (open_model b)) → {x : Effect} → effect o s (open_model b) ≡ x → {b' y' : List ℕ} → b' ≡ write_set s x.change b
        → y' ≡ x.written ++ drop (length x.written) y → Acted o s b y (record { number = 0; result = x.result }) b' y'
    unfolding done
    acted-done p e g h =
        gives_as (by_rows (formed-past ∙ rows_none (op_rows o s (open_model b)) p) ∙ ap done e) (record { told_is = refl; store_is = g; output-is = h })

  -- a call that rows 1 and 2 refuse
  pub lent-did : {k : ℕ} → k ≡ row_code (lent_rows s (open_model b)) → (k ≡ 0 → ⊥) → Did (by s o) b y (refused_told k o) b y
  unfolding table caller_rows subject_of
  lent-did {k} e h =
      let rest = formed_rows s (open_model b) ++ op_rows o s (open_model b) in
      let r : refusal (table (by s o) (open_model b)) ≡ some k =
      rows-refuse (table (by s o) (open_model b)) (rows-stop (lent_rows s (open_model b)) rest e h) h in
      gives_as (outcome-by (by s o) (open_model b) r) (gives-refused k)

  -- where they pass the call does what its operation does
  pub acted-did : length b ≡ store_size → T (is_label s) → {t : Told} {b' y' : List ℕ} → Acted o s b y t b' y' → Did (by s o) b y t b' y'
  unfolding open_model op_outcome caller_rows subject_of
  acted-did e l a = gives_as (outcome-by (by s o) (open_model b) (table-lent (by s o) (open_model b) e tt l)) a
