-- Elements nested in each other, and the trees of a view (document 02, request 1/14).
use Rattle.std.specs.Prelude.{not, List, [], ◌∷◌, ◌++◌, map, ℕ, zero, suc, length}
use Rattle.std.proofs.Math.Option.{Option, none, some}
use Rattle.model.specs.Lists.{keep}
use Rattle.model.specs.Path.{Step, is_prefix, last_step}
use Rattle.model.specs.Value.{Content}
use Rattle.model.specs.Element.{Element}
use Rattle.model.specs.View.{listed, content_at}

-- trees one behind the other: an element's step, its content unless it is removed, the trees inside it, and those behind it
pub data Forest : Type 0 where
  empty : Forest
  element : (step : Step) (content : Option Content) (inside behind : Forest) → Forest

-- an element by its whole path, with its content unless it is removed
pub record Entry : Type 0 where
  pub path : List Step
  pub content : Option Content

-- the elements of trees that stand below path r, each before those inside it
abbrev pub entries : List Step → Forest → List Entry
entries r empty = []
entries r (element a c inside behind) =
    record { path = r ++ (a ∷ []); content = c } ∷ (entries (r ++ (a ∷ [])) inside ++ entries r behind)

-- ---- the trees of a view

-- what the listing lists: its paths in its order, with the same content or mark
unfoldable pub shown_below : List Element → List Step → List Entry
shown_below v p = map (λ q. record { path = q; content = content_at v q }) (listed v p)

-- an element with the last step of a path; the root is none
abbrev pub grown : Option Step → Option Content → Forest → Forest → Forest
grown none c inside behind = behind
grown (some a) c inside behind = element a c inside behind

-- the trees of at most n entries: inside the first are those of the others whose paths extend its path, and behind it the rest
abbrev pub nest : ℕ → List Entry → Forest
nest zero es = empty
nest (suc n) [] = empty
nest (suc n) (e ∷ es) =
    grown (last_step e.path) e.content
    (nest n (keep (λ d. is_prefix e.path d.path) es))
    (nest n (keep (λ d. not (is_prefix e.path d.path)) es))

-- the trees of the visible elements v at or below path p
unfoldable pub forest : List Element → List Step → Forest
forest v p = nest (length (shown_below v p)) (shown_below v p)
