-- The walk over references.
use Rattle.std.specs.Prelude.{List, ℕ, zero, suc, get_or}
use Rattle.model.specs.Path.{Step, parent}
use Rattle.order.specs.Refs.{element_of}

-- the path before that of reference i; before the first it is the parent of the path listed
abbrev pub path_above : List ℕ → List Step → List ℕ → ℕ → List Step
path_above b p rs zero = parent p
path_above b p rs (suc i) = (element_of b (get_or rs i 0)).path
