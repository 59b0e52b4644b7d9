-- What a call on lent bytes has done: the one record that every call promises, and its form for each call.
use Rattle.std.specs.Prelude.{◌≡◌, List, [], ◌++◌, ℕ, ℤ, length, drop}
use Rattle.model.specs.Model.{open_model}
use Rattle.model.specs.Path.{steps_of}
use Rattle.model.specs.Tree.{Forest}
use Rattle.model.specs.Intake.{Sending}
use Rattle.model.specs.Rows.{refusal, formed_rows}
use Rattle.model.specs.Call.{Call, call_subject, by, Op, view, insert, update, delete, view_xml, grade, insert_xml, op_rows, Told, counted, grade_told, Outcome, outcome_by, outcome}
use Rattle.model.specs.Run.{write_set}

-- what is told, the store and the output afterwards are those of an outcome for subject s; what is written is laid over the output
pub record Gives (x : Outcome) (s : ℕ) (store output : List ℕ) (told : Told) (store' output' : List ℕ) : Type 0 where
  pub told_is : told ≡ x.answer.told
  pub store_is : store' ≡ write_set s x.change store
  pub output-is : output' ≡ x.answer.written ++ drop (length x.answer.written) output

-- the call c has done what the model says; a call without an output has an empty one
abbrev pub Did : Call → (store output : List ℕ) (told : Told) (store' output' : List ℕ) → Type 0
Did c b o t b' o' = Gives (outcome c (open_model b)) (call_subject c) b o t b' o'

-- ---- the calls of a bare subject, by what they are given

abbrev pub Viewed : (subject : ℕ) (path store output : List ℕ) (number count : ℕ) (output' : List ℕ) → Type 0
Viewed s p b o k n o' = Did (by s (view p (length o))) b o (counted k n) b o'

abbrev pub Inserted : (subject : ℕ) (path : List ℕ) (kind : ℕ) (value store : List ℕ) (number count : ℕ) (store' : List ℕ) → Type 0
Inserted s p kind v b k n b' = Did (by s (insert p (record { kind = kind; value = v }))) b [] (counted k n) b' []

abbrev pub Updated : (subject : ℕ) (path : List ℕ) (kind : ℕ) (value store : List ℕ) (number count : ℕ) (store' : List ℕ) → Type 0
Updated s p kind v b k n b' = Did (by s (update p (record { kind = kind; value = v }))) b [] (counted k n) b' []

abbrev pub Deleted : (subject : ℕ) (path store : List ℕ) (number count : ℕ) (store' : List ℕ) → Type 0
Deleted s p b k n b' = Did (by s (delete p)) b [] (counted k n) b' []

abbrev pub ViewedXml : (subject : ℕ) (path store output : List ℕ) (number count : ℕ) (output' : List ℕ) → Type 0
ViewedXml s p b o k n o' = Did (by s (view_xml p (length o))) b o (counted k n) b o'

abbrev pub Graded : (subject : ℕ) (base top : List ℕ) (sizes : ℕ) (store : List ℕ) (number : ℕ) (step : ℤ) (remainder : ℕ) → Type 0
Graded s p q n b k z r = Did (by s (grade p q n)) b [] (grade_told k z r) b []

-- XML that was taken in: the tree that the text sends, or none, and what the call has done with it
pub record InsertedXml (subject : ℕ) (parent text store : List ℕ) (number count : ℕ) (store' : List ℕ) : Type 0 where
  pub sent : Forest
  pub reads : Sending (length (steps_of parent)) text sent
  pub did : Did (by subject (insert_xml parent sent)) store [] (counted number count) store' []

-- ---- an operation for a label, on a store of the right size: what the caller's rows leave to be done

-- what it comes to by row 3 and its own rows
unfoldable pub op_outcome : Op → ℕ → List ℕ → Outcome
op_outcome o s b = outcome_by (refusal (formed_rows s (open_model b) ++ op_rows o s (open_model b))) o s (open_model b)

abbrev pub Acted : Op → (label : ℕ) (store output : List ℕ) (told : Told) (store' output' : List ℕ) → Type 0
Acted o s b y t b' y' = Gives (op_outcome o s b) s b y t b' y'
