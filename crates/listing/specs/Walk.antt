-- The listing, read off the elements in path order: of each, the prefixes that the one before does not have.
use Rattle.std.specs.Prelude.{not, List, [], ◌∷◌, ◌++◌, ℕ}
use Rattle.model.specs.Lists.{keep, gather}
use Rattle.model.specs.Path.{Step, is_prefix, prefixes}
use Rattle.model.specs.Element.{Element}
use Rattle.model.specs.View.{path_line}

-- the prefixes of q that are no prefix of r
abbrev pub newer : List Step → List Step → List (List Step)
newer r q = keep (λ x. not (is_prefix x r)) (prefixes q)

-- the paths listed for the elements, after path r
abbrev pub walk : List Step → List Element → List (List Step)
walk r [] = []
walk r (e ∷ es) = newer r e.path ++ walk e.path es

-- the lines of an element after path r: removed prefixes, and its own
abbrev pub element_lines : List Step → Element → List ℕ
element_lines r e = gather (path_line (e ∷ [])) (newer r e.path)

-- what f gives for the paths listed for the elements, after path r, each with what stands there
abbrev pub walk_of : {A : Type 0} → (List Element → List Step → List A) → List Step → List Element → List A
walk_of f r [] = []
walk_of f r (e ∷ es) = gather (f (e ∷ [])) (newer r e.path) ++ walk_of f e.path es

-- the lines of the elements, after path r
abbrev pub walk_lines : List Step → List Element → List ℕ
walk_lines r es = walk_of path_line r es

-- the elements whose path is p or extends it
abbrev pub under : List Step → List Element → List Element
under p es = keep (λ e. is_prefix p e.path) es
