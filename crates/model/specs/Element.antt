-- Elements, and the sets of them that a partition holds (document 01, "Elements" and "The store's bytes").
use Rattle.std.specs.Prelude.{Bool, not, ◌&&◌, ◌||◌, List, ℕ}
use Rattle.model.specs.Lists.{all, any, keep}
use Rattle.model.specs.Path.{Step, same_path, is_prefix, prefixes, ends_in, valid_path, path_rank}
use Rattle.model.specs.Value.{Content, storable}

pub record Element : Type 0 where
  pub path : List Step
  pub content : Content

-- an element that partition n may hold
unfoldable pub valid_element : ℕ → Element → Bool
valid_element n e = valid_path e.path && ends_in n e.path && storable e.content

-- an element's rank is its path's; a set of elements is the list in ascending path order
abbrev pub rank : Element → List ℕ
rank e = path_rank e.path

-- the set has an element with path p
unfoldable pub contains : List Element → List Step → Bool
contains es p = any (λ e. same_path p e.path) es

-- each prefix that ends in label n has its own element in the set
unfoldable pub closed : ℕ → List Element → Bool
closed n es = all (λ e. all (λ p. not (ends_in n p) || contains es p) (prefixes e.path)) es

-- the set without the path and all that extends it
unfoldable pub remove : List Step → List Element → List Element
remove p es = keep (λ e. not (is_prefix p e.path)) es
