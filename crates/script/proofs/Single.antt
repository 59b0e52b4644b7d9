-- A line has one result that meets the contract of `read_line`.
use Rattle.std.specs.Prelude.{Option, Some, None}
use mathlib.Core.Path.{◌≡◌, refl, sym, ap, ◌∙◌}
use mathlib.Core.List.{List}
use Prim.Native.Nat.{ℕ, suc, ◌-◌, ◌*◌, ◌≤◌}
use native.Mathlib.Omega.{arith}
use lib.ListN.{length, take, length-drop}
use lib.Seq.{length-take-le}
use Rattle.model.specs.Path.{Step, steps_of}
use Rattle.model.specs.Script.{ScriptValue, group, measure, text, ScriptOp, view, insert, update, delete, ScriptCall, Reading}
use Rattle.model.proofs.Script.{text-injective}
use Rattle.script.specs.Values.{value_of, text_length}
use Rattle.script.specs.Calls.{op_of, reading_of, text_in, Spans}
use Rattle.script.specs.declared.Value.{Value}
use Rattle.script.specs.declared.Value.TheVariants.{Group, Measure, Text}
use Rattle.script.specs.declared.Call.{Call}
use Rattle.script.specs.declared.Call.TheVariants.{View, Insert, Update, Delete}
use Rattle.script.specs.declared.Read.{Read}
use Rattle.path.proofs.Buffers.{by-threes}
use Rattle.script.proofs.Callings.{path_of, path-of-call}

-- the codes of a value and of a call
abbrev code_of : ScriptValue → Value
code_of group = Group
code_of (measure m) = Measure m
code_of (text t) = Text (length t)

abbrev call_of : ScriptOp → Call
call_of (view p) = View
call_of (insert p v) = Insert (code_of v)
call_of (update p v) = Update (code_of v)
call_of (delete p) = Delete

module _ (l : List ℕ) where
  value-back : (v : Value) → text_length v ≤ length l → code_of (value_of v l) ≡ v
  value-back Group h = refl
  value-back (Measure m) h = refl
  value-back (Text n) h = ap Text (length-drop (length l - n) l ∙ omega arith)

  call_back : (c : Call) (p : List Step) → text_in c ≤ length l → call_of (op_of c p l) ≡ c
  call_back View p h = refl
  call_back (Insert v) p h = ap Insert (value-back v h)
  call_back (Update v) p h = ap Update (value-back v h)
  call_back Delete p h = refl

  -- the steps of a read call, in a buffer
  abbrev steps_in : Read → List ℕ → List Step
  steps_in r b = steps_of (take (3 * r.steps) b)

  count-in : (r : Read) (b : List ℕ) → 3 * r.steps ≤ length b → length (steps_in r b) ≡ r.steps
  count-in r b h =
      by-threes (λ n x. length (steps_of x) ≡ n) refl (λ n a b c x. ap suc) r.steps (take (3 * r.steps) b) (length-take-le (3 * r.steps) b h)

  -- the call that it stands for
  abbrev call_in : Read → List ℕ → ScriptCall
  call_in r b = record { subject = r.subject; op = op_of r.call (steps_in r b) l }

  same_read : (r s : Read) (b c : List ℕ) → 192 ≤ length b → 192 ≤ length c → Spans (Some r) 192 (length l) → Spans (Some s) 192 (length l)
      → call_in r b ≡ call_in s c → r ≡ s
  same_read r s b c h k x y e =
      let i : r.subject ≡ s.subject = ap (λ (d : ScriptCall). d.subject) e in
      let o : op_of r.call (steps_in r b) l ≡ op_of s.call (steps_in s c) l = ap (λ (d : ScriptCall). d.op) e in
      let u : r.call ≡ s.call = sym (call_back r.call (steps_in r b) x.1) ∙ ap call_of o ∙ call_back s.call (steps_in s c) y.1 in
      let p : steps_in r b ≡ steps_in s c = sym (path-of-call r.call (steps_in r b) l) ∙ ap path_of o ∙ path-of-call s.call (steps_in s c) l in
      let j : r.steps ≡ s.steps = sym (count-in r b (omega (arith, x.0))) ∙ ap length p ∙ count-in s c (omega (arith, y.0)) in
      λ t. record { subject = i t; steps = j t; call = u t }

  -- two results for one line are the same
  pub read-unique : (x y : Option Read) (b c : List ℕ) → 192 ≤ length b → 192 ≤ length c → Reading l (reading_of x b l) → Reading l (reading_of y c l)
      → Spans x 192 (length l) → Spans y 192 (length l) → x ≡ y
  read-unique None None b c h k p q s t = refl
  read-unique None (Some r) b c h k p q s t = absurd (p (call_in r c) q)
  read-unique (Some r) None b c h k p q s t = absurd (q (call_in r b) p)
  read-unique (Some r) (Some u) b c h k p q s t =
      ap Some (same_read r u b c h k s t (text-injective (call_in r b) (call_in u c) p.ranges q.ranges (sym p.same ∙ q.same)))
