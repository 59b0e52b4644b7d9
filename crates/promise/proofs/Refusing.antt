-- What a call's result tells of rows: its refusal has a number, and where it has none the rows pass.
use mathlib.Core.Path.{◌≡◌, sym, ap, ◌∙◌}
use mathlib.Core.List.{List, ◌++◌}
use Prim.Native.Nat.{ℕ}
use native.Mathlib.Omega.{arith}
use Rattle.std.specs.Prelude.{Result, Ok, Err, IsErrAnd}
use Rattle.std.proofs.lemmas.Result.{err_from_is_err_and}
use Rattle.model.specs.Rows.{Row, row_code}
use Rattle.model.proofs.Rows.{rows-stop}
use Rattle.promise.specs.declared.Refusal.{Refusal}
use Rattle.promise.specs.declared.Refusal.TheVariants.{StoreLength, Subject, NotWellFormed, Path, Value, OtherLabel, Absent, Live, Full, OutputShort, Sizes, NoMeasure, Form, NotOwn}
use Rattle.promise.specs.Refusals.{code, number_of}

-- no refusal has number 0
pub code-some : (r : Refusal) → code r ≡ 0 → ⊥
code-some StoreLength z = absurd (omega arith)
code-some Subject z = absurd (omega arith)
code-some NotWellFormed z = absurd (omega arith)
code-some Path z = absurd (omega arith)
code-some Value z = absurd (omega arith)
code-some OtherLabel z = absurd (omega arith)
code-some Absent z = absurd (omega arith)
code-some Live z = absurd (omega arith)
code-some Full z = absurd (omega arith)
code-some OutputShort z = absurd (omega arith)
code-some Sizes z = absurd (omega arith)
code-some NoMeasure z = absurd (omega arith)
code-some Form z = absurd (omega arith)
code-some NotOwn z = absurd (omega arith)

-- what the exit of a `?` returns
pub exit-err : {A : Type 0} {r : Result A Refusal} {x : Refusal} → IsErrAnd r (λ y. y ≡ x) → r ≡ Err x
exit-err {r = r} h = let p = err_from_is_err_and r h in p.1 ∙ ap Err p.2

-- a refusal by the first rows of some
pub err-stops : (front rest : List Row) (x : Refusal) → code x ≡ row_code front → code x ≡ row_code (front ++ rest)
err-stops front rest x e = rows-stop front rest e (code-some x)

module _ {A : Type 0} {r : Result A Refusal} {k : ℕ} (e : number_of r ≡ k) where
  -- of a refusal the number is told, else 0
  pub told-err : {x : Refusal} → r ≡ Err x → code x ≡ k
  told-err h = ap number_of (sym h) ∙ e

  pub told-ok : {x : A} → r ≡ Ok x → 0 ≡ k
  told-ok h = ap number_of (sym h) ∙ e
