-- The number of each kind, as the calls, the slots and the model have it.
use Rattle.std.specs.Prelude.{◌≡◌, ℕ, ◌<◌, Result, MatchResult}
use Rattle.kind.specs.declared.Kind.{Kind}
use Rattle.kind.specs.declared.Kind.TheVariants.{Group, Measure, Text}
use Rattle.kind.specs.declared.UnknownKind.{UnknownKind}

-- 0 group, 1 measure, 2 text
abbrev pub code : Kind → ℕ
code Group = 0
code Measure = 1
code Text = 2

-- the result is the kind with this number, or the error where no kind has it
abbrev pub Decodes : ℕ → Result Kind UnknownKind → Type 0
Decodes n r = MatchResult r (λ kind. code kind ≡ n) (λ _. 2 < n)
