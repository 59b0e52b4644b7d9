-- Paths in a line.
use Rattle.std.specs.Prelude.{◌≡◌, List, ◌∷◌, ◌++◌, ℕ, ◌+◌, ◌*◌, ◌≤◌, length, take, drop, T, Option, Some, None}
use Rattle.model.specs.Path.{Step, steps_of}
use Rattle.model.specs.Script.{step_text, path_text, path_in_range}
use Rattle.scan.specs.Text.{no_digit}
use Rattle.script.specs.Text.{closes}

-- l is the text of the step a and r, which begins with no digit
pub record Stepped (l : List ℕ) (a : Step) (r : List ℕ) : Type 0 where
  pub name-fits : a.name ≤ 65535
  pub label-fits : a.label ≤ 255
  pub ends : T (no_digit r)
  pub same : l ≡ step_text a ++ r

-- what a step read at a place says
abbrev pub StepAt : List ℕ → ℕ → Option (ℕ × ℕ × ℕ) → Type 0
StepAt l at (Some (name, label, next)) = (at + 3 ≤ next) × (next ≤ length l) × Stepped (drop at l) (record { name = name; label = label }) (drop next l)
StepAt l at None = (a : Step) (r : List ℕ) → Stepped (drop at l) a r → ⊥

-- l is the text of the path p and r, which begins with a tab if it begins
pub record Pathed (l : List ℕ) (p : List Step) (r : List ℕ) : Type 0 where
  pub ranges : T (path_in_range p)
  pub ends : T (closes r)
  pub same : l ≡ path_text p ++ r

-- what steps read at a place say; they stand in the buffer b
abbrev pub StepsAt : List ℕ → ℕ → List ℕ → Option (ℕ × ℕ) → Type 0
StepsAt l at b (Some (n, next)) = (3 * n ≤ 192) × (next ≤ length l) × Pathed (drop at l) (steps_of (take (3 * n) b)) (drop next l)
StepsAt l at b None = (a : Step) (p : List Step) (r : List ℕ) → Pathed (drop at l) (a ∷ p) r → ⊥

-- what a path read at a place says
abbrev pub PathAt : List ℕ → ℕ → List ℕ → Option (ℕ × ℕ) → Type 0
PathAt l at b (Some (n, next)) = (3 * n ≤ 192) × (next ≤ length l) × Pathed (drop at l) (steps_of (take (3 * n) b)) (drop next l)
PathAt l at b None = (p : List Step) (r : List ℕ) → Pathed (drop at l) p r → ⊥
