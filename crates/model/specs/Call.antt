-- The calls, their rows of the table, and what each does (document 01, "The four calls" and "Whole runs and the book"; document 02).
use Rattle.std.specs.Prelude.{cond, List, [], ◌++◌, map, ℕ, ℤ, pos, ◌-ℤ◌, length}
use Rattle.std.proofs.Math.Option.{Option, none, some}
use Rattle.model.specs.Lists.{keep}
use Rattle.model.specs.Sets.{put}
use Rattle.model.specs.Path.{Step, same_path, is_prefix, steps_of}
use Rattle.model.specs.Value.{Content}
use Rattle.model.specs.Element.{Element, rank, remove}
use Rattle.model.specs.Model.{Model, own_set, with_set}
use Rattle.model.specs.View.{visible, listing}
use Rattle.model.specs.Xml.{xml_view}
use Rattle.model.specs.Tree.{Forest, entries}
use Rattle.model.specs.Intake.{elements_of, with_all}
use Rattle.model.specs.Grade.{measure_at, step_of, remainder_of}
use Rattle.model.specs.Groups.{seen_steps, missing_paths, made}
use Rattle.model.specs.Rows.{Row, refusal, size_rows, label_rows, formed_rows, path_rows, look_rows, bring_rows, own_live_rows, place_rows, room_rows, asked_rows, measured_rows, view_path_rows, sent_rows, take_rows}

-- who calls
pub data Caller : Type 0 where
  subject : ℕ → Caller

unfoldable pub subject_of : Caller → ℕ
subject_of (subject s) = s

-- what is asked: a path is given as bytes, a view with the output's length, an even grade with the number of sizes, and XML as what the
-- text sends: one tree, or none
pub data Op : Type 0 where
  view : (path : List ℕ) (room : ℕ) → Op
  insert : (path : List ℕ) (content : Content) → Op
  update : (path : List ℕ) (content : Content) → Op
  delete : (path : List ℕ) → Op
  view_xml : (path : List ℕ) (room : ℕ) → Op
  grade : (base top : List ℕ) (sizes : ℕ) → Op
  insert_xml : (parent : List ℕ) (sent : Forest) → Op

pub record Call : Type 0 where
  pub who : Caller
  pub op : Op

abbrev pub call_subject : Call → ℕ
call_subject c = subject_of c.who

-- a bare subject's call
abbrev pub by : ℕ → Op → Call
by s o = record { who = subject s; op = o }

-- ---- the table

-- the rows that the caller adds after row 1; a bare subject adds none
unfoldable pub caller_rows : Caller → Op → List Row
caller_rows (subject s) o = []

-- the rows of each operation, for subject s
unfoldable pub op_rows : Op → ℕ → Model → List Row
op_rows (view p room) s m = look_rows s m p ++ room_rows room (listing s m (steps_of p))
op_rows (insert p c) s m = bring_rows p c ++ place_rows s m (steps_of p)
op_rows (update p c) s m = bring_rows p c ++ own_live_rows s m (steps_of p)
op_rows (delete p) s m = path_rows p ++ own_live_rows s m (steps_of p)
op_rows (view_xml p room) s m = look_rows s m p ++ room_rows room (xml_view s m (steps_of p))
op_rows (grade p q n) s m = asked_rows p q n ++ measured_rows s m (steps_of p) (steps_of q)
op_rows (insert_xml p f) s m = view_path_rows p ++ sent_rows s (length (steps_of p)) f ++ take_rows s m (steps_of p) f

unfoldable pub table : Call → Model → List Row
table c m =
    size_rows m
    ++ (caller_rows c.who c.op ++ (label_rows (call_subject c) ++ (formed_rows (call_subject c) m ++ op_rows c.op (call_subject c) m)))

-- ---- what a call answers and changes

-- what a call yields beside its number
pub data Result : Type 0 where
  count : ℕ → Result
  graded : (step : ℤ) (remainder : ℕ) → Result

-- what it tells: 0 or the number of its refusal, and the result
pub record Told : Type 0 where
  pub number : ℕ
  pub result : Result

-- a number told with a count
abbrev pub counted : ℕ → ℕ → Told
counted k n = record { number = k; result = count n }

-- a number told with a step and a remainder
abbrev pub grade_told : ℕ → ℤ → ℕ → Told
grade_told k z r = record { number = k; result = graded z r }

pub record Answer : Type 0 where
  pub told : Told
  pub written : List ℕ

pub record Outcome : Type 0 where
  pub answer : Answer
  -- the subject's set afterwards, where it changes
  pub change : Option (List Element)

-- what an operation yields, writes and changes if no row refuses it
pub record Effect : Type 0 where
  pub result : Result
  pub written : List ℕ
  pub change : Option (List Element)

-- a text is written and nothing changes
unfoldable pub writes : Result → List ℕ → Effect
writes r w = record { result = r; written = w; change = none }

-- nothing is written and the subject's set becomes es
unfoldable pub changes : Result → List Element → Effect
changes r es = record { result = r; written = []; change = some es }

-- how many elements have the path or extend it
unfoldable pub extending : List Step → List Element → ℕ
extending p es = length (keep (λ e. is_prefix p e.path) es)

-- the set with the path and a content, put in alone
unfoldable pub added : List Step → Content → List Element → List Element
added p c es = put rank (record { path = p; content = c }) es

-- the groups that are missing behind the first n steps of the path are made, and the element comes; the groups are counted
unfoldable pub makes : ℕ → List Step → Content → List Element → Effect
makes n p c es = changes (count (length (missing_paths n p))) (made n p c es)

-- the set in which the element at the path has another content, and each other element is as it was
unfoldable pub replaced : List Step → Content → List Element → List Element
replaced p c es = map (λ e. cond (same_path p e.path) (record { path = p; content = c }) e) es

-- the even grade from one measure to another in n sizes; without measures there is none
abbrev pub grade_of : ℕ → (base top : Option ℤ) → Result
grade_of n (some a) (some b) = graded (step_of n (b -ℤ a)) (remainder_of n (b -ℤ a))
grade_of n (some a) none = graded (pos 0) 0
grade_of n none b = graded (pos 0) 0

unfoldable pub effect : Op → ℕ → Model → Effect
effect (view p room) s m = writes (count (length (listing s m (steps_of p)))) (listing s m (steps_of p))
effect (insert p c) s m = makes (seen_steps (visible s m) (steps_of p)) (steps_of p) c (own_set s m)
effect (update p c) s m = changes (count 1) (replaced (steps_of p) c (own_set s m))
effect (delete p) s m = changes (count (extending (steps_of p) (own_set s m))) (remove (steps_of p) (own_set s m))
effect (view_xml p room) s m = writes (count (length (xml_view s m (steps_of p)))) (xml_view s m (steps_of p))
effect (grade p q n) s m = writes (grade_of n (measure_at (visible s m) (steps_of p)) (measure_at (visible s m) (steps_of q))) []
effect (insert_xml p f) s m = changes (count (length (entries (steps_of p) f))) (with_all (elements_of (steps_of p) f) (own_set s m))

-- what an operation yields that is refused: nothing
abbrev pub nothing : Op → Result
nothing (view p room) = count 0
nothing (insert p c) = count 0
nothing (update p c) = count 0
nothing (delete p) = count 0
nothing (view_xml p room) = count 0
nothing (grade p q n) = graded (pos 0) 0
nothing (insert_xml p f) = count 0

unfoldable pub refused : ℕ → Op → Outcome
refused k o = record { answer = record { told = record { number = k; result = nothing o }; written = [] }; change = none }

unfoldable pub done : Effect → Outcome
done x = record { answer = record { told = record { number = 0; result = x.result }; written = x.written }; change = x.change }

-- an operation goes by its rows first; a refusal gives its row and changes nothing
abbrev pub outcome_by : Option ℕ → Op → ℕ → Model → Outcome
outcome_by none o s m = done (effect o s m)
outcome_by (some k) o s m = refused k o

unfoldable pub outcome : Call → Model → Outcome
outcome c m = outcome_by (refusal (table c m)) c.op (call_subject c) m

-- the model after a call
unfoldable pub after : Call → Model → Model
after c m = with_set (call_subject c) (outcome c m).change m
