-- Script lines carried out on a store: what is printed, and the store afterwards.
use Rattle.std.specs.Prelude.{◌≡◌, List, [], ◌∷◌, ℕ, ◌≤◌, length, take, drop}
use Rattle.std.proofs.Math.Option.{Option, none, some}
use Rattle.model.specs.Text.{ascii, decimal, line}
use Rattle.model.specs.Run.{store_after}
use Rattle.model.specs.Script.{ScriptCall, call_of, Readings, output}

-- A, the number and the count
unfoldable pub answer_line : ℕ → ℕ → List ℕ
answer_line k n = line (ascii "A" ∷ decimal k ∷ decimal n ∷ [])

-- the store after a line that reads so
abbrev pub line_store : Option ScriptCall → List ℕ → List ℕ
line_store none s = s
line_store (some c) s = store_after (call_of c) s

-- the store after lines that read so
abbrev pub lines_store : List (Option ScriptCall) → List ℕ → List ℕ
lines_store [] s = s
lines_store (r ∷ rs) s = lines_store rs (line_store r s)

-- the lines ls, carried out from the store s, print the text and leave the store t
pub record Printed (ls : List (List ℕ)) (s text t : List ℕ) : Type 0 where
  pub readings : List (Option ScriptCall)
  pub read : Readings ls readings
  pub printed : text ≡ output readings s
  pub left : t ≡ lines_store readings s

-- and the text is the first w bytes of the output o', which is else as it was
pub record Carried (ls : List (List ℕ)) (s o : List ℕ) (w : ℕ) (t o' : List ℕ) : Type 0 where
  pub lines : Printed ls s (take w o') t
  pub within : w ≤ length o'
  pub rest : drop w o' ≡ drop w o
