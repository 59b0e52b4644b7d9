-- The call runner's script and what it prints (document 01, "The printed view and the call runner").
use Rattle.std.specs.Prelude.{◌≡◌, Bool, true, cond, ◌&&◌, List, [], ◌∷◌, ◌++◌, map, ℕ, ◌/◌, ◌%◌, ◌≤◌, length, T, eqb, leb, ltb}
use Rattle.std.proofs.Math.Option.{Option, none, some}
use Rattle.model.specs.Lists.{all, gather, joined}
use Rattle.model.specs.Path.{Step}
use Rattle.model.specs.Value.{Content, is_printable}
use Rattle.model.specs.Store.{empty_store}
use Rattle.model.specs.Text.{ascii, decimal, signed, fields, line}
use Rattle.model.specs.Call.{Call, Answer, Result, count, graded}
use Rattle.model.specs.Call
use Rattle.model.specs.Run.{answer_of, store_after}

-- ---- a script call: one of four, with its value inside

pub data ScriptValue : Type 0 where
  group : ScriptValue
  -- a signed number of 32 bits, as the unsigned one of the same bits
  measure : ℕ → ScriptValue
  text : List ℕ → ScriptValue

pub data ScriptOp : Type 0 where
  view : List Step → ScriptOp
  insert : List Step → ScriptValue → ScriptOp
  update : List Step → ScriptValue → ScriptOp
  delete : List Step → ScriptOp

pub record ScriptCall : Type 0 where
  pub subject : ℕ
  pub op : ScriptOp

-- ---- its text

-- name:label
unfoldable pub step_text : Step → List ℕ
step_text a = joined 58 (decimal a.name ∷ decimal a.label ∷ [])

-- steps parted by /; a lone / is the empty path
abbrev pub path_text : List Step → List ℕ
path_text [] = ascii "/"
path_text (a ∷ p) = joined 47 (map step_text (a ∷ p))

-- kind and value: G and -, M and a signed number, T and the text
abbrev pub value_fields : ScriptValue → List (List ℕ)
value_fields group = ascii "G" ∷ ascii "-" ∷ []
value_fields (measure m) = ascii "M" ∷ signed m ∷ []
value_fields (text t) = ascii "T" ∷ t ∷ []

-- verb (V, I, U, D), path, and for I and U kind and value
abbrev pub op_fields : ScriptOp → List (List ℕ)
op_fields (view p) = ascii "V" ∷ path_text p ∷ []
op_fields (insert p v) = ascii "I" ∷ path_text p ∷ value_fields v
op_fields (update p v) = ascii "U" ∷ path_text p ∷ value_fields v
op_fields (delete p) = ascii "D" ∷ path_text p ∷ []

unfoldable pub call_text : ScriptCall → List ℕ
call_text c = fields (decimal c.subject ∷ op_fields c.op)

-- ---- its ranges

abbrev pub path_in_range : List Step → Bool
path_in_range p = all (λ a. leb a.name 65535 && leb a.label 255) p

abbrev pub value_in_range : ScriptValue → Bool
value_in_range group = true
value_in_range (measure m) = ltb m 4294967296
value_in_range (text t) = all is_printable t

abbrev pub op_in_range : ScriptOp → Bool
op_in_range (view p) = path_in_range p
op_in_range (insert p v) = path_in_range p && value_in_range v
op_in_range (update p v) = path_in_range p && value_in_range v
op_in_range (delete p) = path_in_range p

unfoldable pub in_range : ScriptCall → Bool
in_range c = leb c.subject 255 && op_in_range c.op

-- ---- a line reads as a call, or as none

pub record Reads (l : List ℕ) (c : ScriptCall) : Type 0 where
  pub short : length l ≤ 256
  pub ranges : T (in_range c)
  pub same : l ≡ call_text c

abbrev pub Reading : List ℕ → Option ScriptCall → Type 0
Reading l none = (c : ScriptCall) → Reads l c → ⊥
Reading l (some c) = Reads l c

-- ---- the call that it stands for

abbrev pub lent_path : List Step → List ℕ
lent_path p = gather (λ a. a.name % 256 ∷ a.name / 256 ∷ a.label ∷ []) p

abbrev pub content_of : ScriptValue → Content
content_of group = record { kind = 0; value = [] }
content_of (measure m) = record { kind = 1; value = m % 256 ∷ m / 256 % 256 ∷ m / 65536 % 256 ∷ m / 16777216 ∷ [] }
content_of (text t) = record { kind = 2; value = t }

-- the runner lends a view 16,384 bytes
abbrev pub output_space : ℕ
output_space = 16384

abbrev pub op_of : ScriptOp → Call.Op
op_of (view p) = Call.Op.view (lent_path p) output_space
op_of (insert p v) = Call.Op.insert (lent_path p) (content_of v)
op_of (update p v) = Call.Op.update (lent_path p) (content_of v)
op_of (delete p) = Call.Op.delete (lent_path p)

unfoldable pub call_of : ScriptCall → Call
call_of c = record { who = Call.Caller.subject c.subject; op = op_of c.op }

-- ---- what the runner prints

-- the lines of an input, each ended by byte 10; a last one without it counts too. l holds the line begun
abbrev pub lines_from : List ℕ → List ℕ → List (List ℕ)
lines_from [] [] = []
lines_from (x ∷ l) [] = (x ∷ l) ∷ []
lines_from l (x ∷ i) = cond (eqb x 10) (l ∷ lines_from [] i) (lines_from (l ++ (x ∷ [])) i)

abbrev pub lines_of : List ℕ → List (List ℕ)
lines_of i = lines_from [] i

-- A, ?, 0
unfoldable pub unread_line : List ℕ
unread_line = line (ascii "A" ∷ ascii "?" ∷ ascii "0" ∷ [])

-- a count in decimal; no line asks for a grade
abbrev pub result_fields : Result → List (List ℕ)
result_fields (count n) = decimal n ∷ []
result_fields (graded z r) = []

-- the listing, if any, then A, number, count
unfoldable pub answer_lines : Answer → List ℕ
answer_lines a = a.written ++ line (ascii "A" ∷ decimal a.told.number ∷ result_fields a.told.result)

-- of lines read so, one after another, from a store
abbrev pub output : List (Option ScriptCall) → List ℕ → List ℕ
output [] s = []
output (none ∷ rs) s = unread_line ++ output rs s
output (some c ∷ rs) s = answer_lines (answer_of (call_of c) s) ++ output rs (store_after (call_of c) s)

-- what each line reads as
abbrev pub Readings : List (List ℕ) → List (Option ScriptCall) → Type 0
Readings [] [] = Unit {0}
Readings [] (r ∷ rs) = ⊥
Readings (l ∷ ls) [] = ⊥
Readings (l ∷ ls) (r ∷ rs) = Reading l r × Readings ls rs

-- the runner prints o for the input i; it starts with the empty store
pub record Prints (i o : List ℕ) : Type 0 where
  pub readings : List (Option ScriptCall)
  pub read : Readings (lines_of i) readings
  pub printed : o ≡ output readings empty_store
