-- A call carried out: what it answered, wrote and left.
use Rattle.std.specs.Prelude.{◌≡◌, List, ℕ}
use Rattle.model.specs.Call.{Call, by, Op, view, insert, update, delete, Told}
use Rattle.model.specs.Run.{answer_of, store_after}
use Rattle.model.specs.Script.{content_of, output_space}
use Rattle.text.specs.Overlay.{Wrote}
use Rattle.script.specs.Values.{value_of}
use Rattle.script.specs.declared.Call as read
use Rattle.script.specs.declared.Read.{Read}

-- the operation of a call that was read from the line l, its path given as bytes
abbrev pub op_on : read.Call → (path l : List ℕ) → Op
op_on read.TheVariants.View p l = view p output_space
op_on (read.TheVariants.Insert v) p l = insert p (content_of (value_of v l))
op_on (read.TheVariants.Update v) p l = update p (content_of (value_of v l))
op_on read.TheVariants.Delete p l = delete p

abbrev pub call_on : Read → (path l : List ℕ) → Call
call_on r p l = by r.subject (op_on r.call p l)

-- the call c on the store s: what it tells, the store t afterwards, and what it wrote, laid over the output
pub record Performed (c : Call) (s o : List ℕ) (told : Told) (wrote : ℕ) (t o' : List ℕ) : Type 0 where
  pub told_is : told ≡ (answer_of c s).told
  pub store_is : t ≡ store_after c s
  pub written : Wrote o 0 (answer_of c s).written o' wrote
