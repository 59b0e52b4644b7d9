-- A bare subject's call: refused by the rows that every call has first, or its operation's where they have passed.
use mathlib.Core.Path.{◌≡◌, sym, subst}
use mathlib.Core.List.{List}
use Prim.Native.Nat.{ℕ}
use Rattle.model.specs.Model.{open_model}
use Rattle.model.specs.Rows.{row_code, lent_rows, formed_rows}
use Rattle.model.specs.Call.{Op, by, Told}
use Rattle.promise.specs.declared.Refusal.{Refusal}
use Rattle.promise.specs.Did.{Did, Acted}
use Rattle.promise.specs.Refusals.{code}
use Rattle.promise.proofs.Doing.{refused_told, lent-did, acted-unformed, acted-did}
use Rattle.promise.proofs.Refusing.{code-some}
use Rattle.table.specs.Opening.{Lent}

-- refused by rows 1 and 2 it leaves the store and the output
pub entry-refused : (s : ℕ) (b : List ℕ) (x : Refusal) → code x ≡ row_code (lent_rows s (open_model b)) → (o : Op) (y : List ℕ) → Did (by s o) b y (refused_told (code x) o) b y
entry-refused s b x e o y = lent-did o s b y e (code-some x)

module _ {s l : ℕ} {b : List ℕ} (d : (l ≡ s) × Lent b s) where
  -- behind them the size and the label are right
  pub entry-lent : Lent b l
  entry-lent = subst (λ (n : ℕ). Lent b n) (sym d.0) d.1

  -- and the call does what the operation does
  pub entry-did : (o : Op) {y : List ℕ} {t : Told} {b' y' : List ℕ} → Acted o l b y t b' y' → Did (by s o) b y t b' y'
  entry-did o {y} {t} {b'} {y'} a =
      acted-did o s b y d.1.size d.1.label (subst (λ (n : ℕ). Acted o n b y t b' y') d.0 a)

  -- refused by row 3 it leaves them too
  pub entry-unformed : (x : Refusal) → code x ≡ row_code (formed_rows l (open_model b)) → (o : Op) (y : List ℕ) → Did (by s o) b y (refused_told (code x) o) b y
  entry-unformed x e o y = entry-did o (acted-unformed o l b y e (code-some x))
