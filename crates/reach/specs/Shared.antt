-- How many first steps of a path the elements beside a place share with it.
use Rattle.std.specs.Prelude.{List, [], ◌∷◌, ℕ, zero, suc}
use Rattle.model.specs.Path.{Step}
use Rattle.model.specs.Element.{Element}
use Rattle.path.specs.Common.{common}

-- element i; none if there is no such element
abbrev pub shared_at : ℕ → List Step → List Element → ℕ
shared_at i p [] = 0
shared_at zero p (e ∷ es) = common e.path p
shared_at (suc i) p (e ∷ es) = shared_at i p es

-- the element before it; none before the first
abbrev pub shared_before : ℕ → List Step → List Element → ℕ
shared_before zero p es = 0
shared_before (suc i) p es = shared_at i p es
