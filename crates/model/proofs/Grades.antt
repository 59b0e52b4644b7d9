-- What an even grade tells: the equation between the two measures, nothing for one path given twice, and of a measure that the
-- subject does not see what it tells of a missing one.
use mathlib.Core.Path.{◌≡◌, refl, sym, ap, ap₂, ◌∙◌}
use mathlib.Core.Bool.{not, ◌&&◌}
use mathlib.Core.Option.{Option, none, some}
use mathlib.Core.List.{List}
use Prim.Native.Nat.{ℕ, ◌≤◌, ◌<◌}
use native.Mathlib.Omega.{arith}
use lib.IntN.{ℤ, pos, ◌-ℤ◌, +ℤ_invr}
use lib.Dec.{T, leb}
use mir.Facts.{leb_yes}
use Rattle.model.specs.Label.{dominates}
use Rattle.model.specs.Path.{Step, steps_of}
use Rattle.model.specs.Value.{Content}
use Rattle.model.specs.Model.{Model}
use Rattle.model.specs.View.{visible}
use Rattle.model.specs.Grade.{measure_at, is_measure, Even, step_of, remainder_of}
use Rattle.model.specs.Rows.{refusal, sizes_rows, measure_rows, asked_rows, measured_rows}
use Rattle.model.specs.Call.{Caller, subject_of, grade, Call, op_rows, table, Result, graded, Told, grade_told, grade_of, writes, effect, Outcome, refused, done, outcome}
use Rattle.model.proofs.Bools.{and_l, and_r, not-not}
use Rattle.model.proofs.Rows.{Passes, passes-both}
use Rattle.model.proofs.Operations.{admitted, outcome-either}
use Rattle.model.proofs.Refusals.{outcome-by}
use Rattle.model.proofs.Dividing.{even_is, even-one}
use Rattle.model.proofs.HiddenSets.{present, missing, unseen-missing}

-- the grade that a caller asks for
abbrev pub grading : Caller → (base top : List ℕ) → ℕ → Call
grading w p q n = record { who = w; op = grade p q n }

-- ---- what its rows show

-- row 11
pub rows-sizes : (n : ℕ) → Passes (sizes_rows n) → (1 ≤ n) × (n ≤ 64)
rows-sizes n h =
    let sizes : T (leb 1 n && leb n 64) = not-not (leb 1 n && leb n 64) h.0 in
    (leb_yes (and_l (leb 1 n) (leb n 64) sizes), leb_yes (and_r (leb 1 n) (leb n 64) sizes))

-- row 12
rows-measure : (s : ℕ) (m : Model) (p : List Step) → Passes (measure_rows s m p) → (z : ℤ) × (measure_at (visible s m) p ≡ some z)
rows-measure s m p h = go (measure_at (visible s m) p) h.0
  where
    go : (x : Option ℤ) → T (not (not (is_measure x))) → (z : ℤ) × (x ≡ some z)
    go none t = absurd t
    go (some z) t = (z, refl)

-- there are sizes, and a measure at each of the two paths
pub record Measured (s : ℕ) (m : Model) (p q : List ℕ) (n : ℕ) : Type 0 where
  pub sizes : (1 ≤ n) × (n ≤ 64)
  pub base : ℤ
  pub top : ℤ
  pub base-is : measure_at (visible s m) (steps_of p) ≡ some base
  pub top-is : measure_at (visible s m) (steps_of q) ≡ some top

pub rows-measured : (s : ℕ) (m : Model) (p q : List ℕ) (n : ℕ) → Passes (op_rows (grade p q n) s m) → Measured s m p q n
unfolding op_rows
rows-measured s m p q n h =
    let asked : Passes (asked_rows p q n) = (passes-both (asked_rows p q n) (measured_rows s m (steps_of p) (steps_of q)) h).0 in
    let seen : Passes (measured_rows s m (steps_of p) (steps_of q)) = (passes-both (asked_rows p q n) (measured_rows s m (steps_of p) (steps_of q)) h).1 in
    let x : (z : ℤ) × (measure_at (visible s m) (steps_of p) ≡ some z) = rows-measure s m (steps_of p) (seen.1.1.0, tt) in
    let y : (z : ℤ) × (measure_at (visible s m) (steps_of q) ≡ some z) = rows-measure s m (steps_of q) seen.1.1.1 in
    record { sizes = rows-sizes n asked.1.1; base = x.0; top = y.0; base-is = x.1; top-is = y.1 }

-- ---- one that is done

-- the two measures, and the equation and the bound for what is told
pub record EvenTold (s : ℕ) (m : Model) (p q : List ℕ) (n : ℕ) (told : Told) : Type 0 where
  pub measured : Measured s m p q n
  pub step : ℤ
  pub remainder : ℕ
  pub told_is : told ≡ grade_told 0 step remainder
  pub even : Even n (measured.top -ℤ measured.base) step remainder

pub grade-even : (w : Caller) (m : Model) (p q : List ℕ) (n : ℕ) → refusal (table (grading w p q n) m) ≡ none
    → EvenTold (subject_of w) m p q n (outcome (grading w p q n) m).answer.told
unfolding done effect writes
grade-even w m p q n passed =
    let k : Measured (subject_of w) m p q n = rows-measured (subject_of w) m p q n (admitted (grading w p q n) m passed).rows in
    record {
      measured = k;
      step = step_of n (k.top -ℤ k.base);
      remainder = remainder_of n (k.top -ℤ k.base);
      told_is =
          ap (λ (x : Outcome). x.answer.told) (outcome-by (grading w p q n) m passed)
          ∙ ap (λ (r : Result). record { number = 0; result = r }) (ap₂ (grade_of n) k.base-is k.top-is);
      even = even_is n k.sizes.0 (k.top -ℤ k.base);
    }

-- ---- one path given twice

no_difference : (n : ℕ) → 0 < n → (x : Option ℤ) → grade_of n x x ≡ graded (pos 0) 0
no_difference n h none = refl
no_difference n h (some z) =
    let none_left : Even n (pos 0) (pos 0) 0 = record { sum = ap pos (omega arith); bound = h } in
    let e : (pos 0 ≡ step_of n (pos 0)) × (0 ≡ remainder_of n (pos 0)) = even-one n h none_left in
    ap (λ (d : ℤ). graded (step_of n d) (remainder_of n d)) (+ℤ_invr z) ∙ sym (ap₂ graded e.0 e.1)

-- done or refused, it yields 0 and 0
pub grade-twice : (w : Caller) (m : Model) (p : List ℕ) (n : ℕ) → (outcome (grading w p p n) m).answer.told.result ≡ graded (pos 0) 0
unfolding refused done effect writes
grade-twice w m p n =
    outcome-either (grading w p p n) m (λ (x : Outcome). x.answer.told.result ≡ graded (pos 0) 0) (λ k. refl)
    (λ a. no_difference n (rows-measured (subject_of w) m p p n a.rows).sizes.0 (measure_at (visible (subject_of w) m) (steps_of p)))

-- ---- a measure of a label that the subject does not dominate

-- as the base and as the top, it is told as a missing one
pub grade-unseen : (w : Caller) (m : Model) (l : ℕ) → T (not (dominates (subject_of w) l)) → (p : List ℕ) (c : Content) (q : List ℕ) (n : ℕ)
    → (outcome (grading w p q n) (present l (steps_of p) c m) ≡ outcome (grading w p q n) (missing l (steps_of p) m))
    × (outcome (grading w q p n) (present l (steps_of p) c m) ≡ outcome (grading w q p n) (missing l (steps_of p) m))
grade-unseen w m l hidden p c q n =
    (unseen-missing (grading w p q n) m l hidden (steps_of p) c, unseen-missing (grading w q p n) m l hidden (steps_of p) c)
