-- The lines of a listing by what they show.
use Rattle.std.proofs.Math.Option.{Option}
use Rattle.std.specs.Prelude.{List, [], ◌∷◌, ◌++◌, ℕ}
use Rattle.model.specs.Path.{Step}
use Rattle.model.specs.Value.{Content}
use Rattle.model.specs.Text.{decimal, line}
use Rattle.model.specs.View.{content_fields}

-- the line of a path with d steps and the last step a, at which the content stands
unfoldable pub line_of : ℕ → Step → Option Content → List ℕ
line_of d a c = line (decimal d ∷ decimal a.name ∷ decimal a.label ∷ content_fields c)

-- a number as a field, with the tab behind it
abbrev pub number_field : ℕ → List ℕ
number_field n = decimal n ++ (9 ∷ [])

-- what every such line begins with
abbrev pub line_start : ℕ → Step → List ℕ
line_start d a = number_field d ++ (number_field a.name ++ number_field a.label)
