-- What an even grade that tells 0 promises: two measures that the subject sees on the store, and the equation between them.
use mathlib.Core.Path.{◌≡◌, sym, ap, subst, ◌∙◌}
use mathlib.Core.List.{List}
use Prim.Native.Nat.{ℕ}
use lib.IntN.{ℤ, ◌-ℤ◌}
use Rattle.model.specs.Model.{open_model}
use Rattle.model.specs.Grade.{Even}
use Rattle.model.specs.Call.{subject, subject_of, by, grade, caller_rows, op_rows, table, graded, Told, outcome}
use Rattle.model.proofs.Refusals.{told-done}
use Rattle.model.proofs.Grades.{Measured, EvenTold, grade-even}
use Rattle.promise.specs.Did.{Graded}

module _ (s : ℕ) (p q : List ℕ) (n : ℕ) (b : List ℕ) {z : ℤ} {r : ℕ} (g : Graded s p q n b 0 z r) where
  told : EvenTold s (open_model b) p q n (outcome (by s (grade p q n)) (open_model b)).answer.told
  unfolding table caller_rows op_rows subject_of
  told = grade-even (subject s) (open_model b) p q n (told-done (by s (grade p q n)) (open_model b) tt (sym (ap (λ (t : Told). t.number) g.told_is)))

  -- the measures at the two paths
  pub graded-measured : Measured s (open_model b) p q n
  graded-measured = told.measured

  -- the step and the remainder satisfy the equation and the bound
  pub graded-even : Even n (graded-measured.top -ℤ graded-measured.base) z r
  unfolding graded-measured
  graded-even =
      let e : graded z r ≡ graded told.step told.remainder = ap (λ (t : Told). t.result) (g.told_is ∙ told.told_is) in
      let f : z ≡ told.step = cc in
      let h : r ≡ told.remainder = cc in
      subst (λ (y : ℤ). Even n (told.measured.top -ℤ told.measured.base) y r) (sym f)
      (subst (λ (k : ℕ). Even n (told.measured.top -ℤ told.measured.base) told.step k) (sym h) told.even)
