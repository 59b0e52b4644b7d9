-- A refused call tells its number, yields and writes nothing and leaves the store; another does what its operation does.
use mathlib.Core.Path.{◌≡◌, refl, sym, ap, ◌∙◌}
use mathlib.Core.Bool.{Bool, true, false, cond}
use mathlib.Core.Option.{Option, none, some}
use mathlib.Core.List.{List, ◌++◌}
use Prim.Native.Nat.{ℕ, ◌≤◌}
use lib.ListN.{length, drop}
use lib.Dec.{T, eqb, eqb_refl}
use borrow.Author.Tests.{eq-eqb}
use Rattle.model.specs.Label.{is_label}
use Rattle.model.specs.Element.{Element}
use Rattle.model.specs.Store.{store_size}
use Rattle.model.specs.Model.{held, elements, Model, open_model, own_set, with_set}
use Rattle.model.specs.Rows.{refusal, code_of, size_rows, label_rows, formed_rows}
use Rattle.model.specs.Call.{Call, call_subject, caller_rows, op_rows, table, Answer, effect, Outcome, refused, done, outcome_by, outcome, after}
use Rattle.model.specs.Run.{answer_of, write_set, store_after, output_after}
use Rattle.model.proofs.Bools.{yes-not-not, cond_yes}
use Rattle.model.proofs.Rows.{Passes, refusal-past, numbered, rows_pass, rows_none}
use Rattle.model.proofs.Operations.{room_of, outcome-either, outcome_fits}

-- the set of each label in a model that has es for label s
pub set-with : (s : ℕ) (es : List Element) (m : Model) (n : ℕ) → own_set n (with_set s (some es) m) ≡ cond (eqb n s) es (own_set n m)
unfolding own_set elements
set-with s es m n = go (eqb n s)
  where
    go : (t : Bool) → elements (cond t (held es) (m.cell n)) ≡ cond t es (own_set n m)
    go true = refl
    go false = refl

-- that of s itself
pub set_own : (s : ℕ) (es : List Element) (m : Model) → own_set s (with_set s (some es) m) ≡ es
set_own s es m = set-with s es m s ∙ cond_yes (eqb s s) es (own_set s m) (eqb_refl s)

module _ (c : Call) (m : Model) where
  pub outcome-by : {r : Option ℕ} → refusal (table c m) ≡ r → outcome c m ≡ outcome_by r c.op (call_subject c) m
  unfolding outcome
  outcome-by e = ap (λ (r : Option ℕ). outcome_by r c.op (call_subject c) m) e

  -- a call that is done and changes the subject's set to es leaves it so
  pub set-done : {es : List Element} → refusal (table c m) ≡ none → (effect c.op (call_subject c) m).change ≡ some es
      → own_set (call_subject c) (after c m) ≡ es
  unfolding after done
  set-done {es} passed e =
      let s : ℕ = call_subject c in
      ap (λ (x : Outcome). own_set s (with_set s x.change m)) (outcome-by passed)
      ∙ ap (λ (k : Option (List Element)). own_set s (with_set s k m)) e
      ∙ set_own s es m

  -- where rows 1 and 2 and the caller's pass, row 3 and the operation's rows are left
  pub table-lent : m.size ≡ store_size → Passes (caller_rows c.who c.op) → T (is_label (call_subject c))
      → refusal (table c m) ≡ refusal (formed_rows (call_subject c) m ++ op_rows c.op (call_subject c) m)
  unfolding table
  table-lent e p l =
      refusal-past (size_rows m) _ (rw (eq-eqb m.size store_size e) tt, tt)
      ∙ refusal-past (caller_rows c.who c.op) _ p
      ∙ refusal-past (label_rows (call_subject c)) _ (yes-not-not (is_label (call_subject c)) l, tt)

  -- where each row has a number, a call that tells 0 is refused by none
  pub told-done : T (numbered (table c m)) → (outcome c m).answer.told.number ≡ 0 → refusal (table c m) ≡ none
  unfolding outcome refused done
  told-done t e = rows_none (table c m) (rows_pass (table c m) t refl (sym (number_is (refusal (table c m))) ∙ e))
    where
      number_is : (r : Option ℕ) → (outcome_by r c.op (call_subject c) m).answer.told.number ≡ code_of r
      number_is none = refl
      number_is (some k) = refl

module _ (c : Call) (s : List ℕ) where
  -- whatever tells another number than 0 is a refusal, and changes nothing
  pub refused-nothing : ((answer_of c s).told.number ≡ 0 → ⊥)
      → (answer_of c s ≡ (refused (answer_of c s).told.number c.op).answer) × (store_after c s ≡ s)
  unfolding answer_of store_after refused done
  refused-nothing =
      outcome-either c (open_model s)
      (λ (x : Outcome). (x.answer.told.number ≡ 0 → ⊥)
      → (x.answer ≡ (refused x.answer.told.number c.op).answer) × (write_set (call_subject c) x.change s ≡ s))
      (λ k h. (refl, refl)) (λ a h. absurd (h refl))

  -- so it leaves its output
  pub refused-output : (o : List ℕ) → ((answer_of c s).told.number ≡ 0 → ⊥) → output_after c s o ≡ o
  unfolding output_after refused
  refused-output o h = ap (λ (a : Answer). a.written ++ drop (length a.written) o) (refused-nothing h).0

  -- what a call writes fits the output that was lent with it
  pub answer-fits : length (answer_of c s).written ≤ room_of c.op
  unfolding answer_of
  answer-fits = outcome_fits c (open_model s)
