-- How many steps of a path stand before the first that bears a label.
use Rattle.std.specs.Prelude.{cond, List, [], ◌∷◌, ℕ, suc, eqb}
use Rattle.model.specs.Path.{Step}

-- all of them if none does
abbrev pub steps_before : ℕ → List Step → ℕ
steps_before n [] = 0
steps_before n (a ∷ p) = cond (eqb a.label n) 0 (suc (steps_before n p))
