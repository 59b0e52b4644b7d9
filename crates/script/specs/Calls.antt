-- Calls in a line.
use Rattle.std.specs.Prelude as code
use Rattle.std.specs.Prelude.{◌≡◌, List, [], ◌∷◌, ◌++◌, ℕ, ◌*◌, ◌≤◌, length, take, drop, T, Some, None}
use Rattle.std.proofs.Math.Option.{Option, none, some}
use Rattle.model.specs.Lists.{joined}
use Rattle.model.specs.Path.{Step, steps_of}
use Rattle.model.specs.Text.{decimal}
use Rattle.model.specs.Script.{ScriptValue, ScriptOp, ScriptCall, view, insert, update, delete, value_fields, value_in_range}
use Rattle.script.specs.Values.{value_of, text_length}
use Rattle.script.specs.declared.Call.{Call}
use Rattle.script.specs.declared.Call.TheVariants.{View, Insert, Update, Delete}
use Rattle.script.specs.declared.Read.{Read}

-- ---- what a line reads as

-- the call with a path, its text being the last bytes of the line l
abbrev pub op_of : Call → List Step → List ℕ → ScriptOp
op_of View p l = view p
op_of (Insert v) p l = insert p (value_of v l)
op_of (Update v) p l = update p (value_of v l)
op_of Delete p l = delete p

-- of the line l, the path's steps standing in the buffer b
abbrev pub reading_of : code.Option Read → List ℕ → List ℕ → Option ScriptCall
reading_of (Some r) b l = some (record { subject = r.subject; op = op_of r.call (steps_of (take (3 * r.steps) b)) l })
reading_of None b l = none

-- how many bytes of the line are its text
abbrev pub text_in : Call → ℕ
text_in View = 0
text_in (Insert v) = text_length v
text_in (Update v) = text_length v
text_in Delete = 0

-- its steps lie within b bytes, and its text within n
abbrev pub Spans : code.Option Read → ℕ → ℕ → Type 0
Spans (Some r) b n = (3 * r.steps ≤ b) × (text_in r.call ≤ n)
Spans None b n = Unit {0}

-- ---- its parts

-- l is a subject, a verb b and r, each with a tab before the next
pub record Headed (l : List ℕ) (s b : ℕ) (r : List ℕ) : Type 0 where
  pub small : s ≤ 255
  pub same : l ≡ decimal s ++ (9 ∷ b ∷ 9 ∷ r)

-- what the subject and verb of a line say
abbrev pub HeadAt : List ℕ → code.Option (ℕ × ℕ × ℕ) → Type 0
HeadAt l (Some (s, b, next)) = (next ≤ length l) × Headed l s b (drop next l)
HeadAt l None = (s b : ℕ) (r : List ℕ) → Headed l s b r → ⊥

-- r is a tab and the value v
pub record Brought (r : List ℕ) (v : ScriptValue) : Type 0 where
  pub ranges : T (value_in_range v)
  pub same : r ≡ 9 ∷ joined 9 (value_fields v)

-- the call o has the verb b, and r follows its path
abbrev pub Ended : ScriptOp → ℕ → List ℕ → Type 0
Ended (view p) b r = (b ≡ 86) × (r ≡ [])
Ended (insert p v) b r = (b ≡ 73) × Brought r v
Ended (update p v) b r = (b ≡ 85) × Brought r v
Ended (delete p) b r = (b ≡ 68) × (r ≡ [])

-- what a call without a value says
abbrev pub BareAs : ℕ → code.Option Call → Type 0
BareAs b (Some c) = (p : List Step) (l : List ℕ) → Ended (op_of c p l) b []
BareAs b None = (o : ScriptOp) → Ended o b [] → ⊥

-- what a call whose path ends at a place says
abbrev pub CallAt : List ℕ → ℕ → ℕ → code.Option Call → Type 0
CallAt l b at (Some c) = (text_in c ≤ length l) × ((p : List Step) → Ended (op_of c p l) b (drop at l))
CallAt l b at None = (o : ScriptOp) → Ended o b (drop at l) → ⊥
