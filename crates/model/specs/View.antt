-- What a subject sees, and the printed view (document 01, "Elements", "Whole runs and the book", "The printed view").
use Rattle.std.specs.Prelude.{Bool, true, not, cond, ◌&&◌, List, [], ◌∷◌, ◌++◌, ℕ, zero, suc, length}
use Rattle.std.proofs.Math.Option.{Option, none, some}
use Rattle.model.specs.Lists.{any, keep, gather}
use Rattle.model.specs.Sets.{sort}
use Rattle.model.specs.Label.{labels, dominates}
use Rattle.model.specs.Path.{Step, same_path, is_prefix, prefixes, last_step, path_rank}
use Rattle.model.specs.Value.{Content}
use Rattle.model.specs.Element.{Element, rank}
use Rattle.model.specs.Model.{Model, own_set, live}
use Rattle.model.specs.Text.{ascii, decimal, measure_of, signed, line}

-- the live elements whose label the subject dominates
unfoldable pub visible : ℕ → Model → List Element
visible s m = gather (λ n. cond (dominates s n) (own_set n m) []) labels

-- a path of one of the elements, or a prefix of one; the root always
abbrev pub reaches : List Element → List Step → Bool
reaches v [] = true
reaches v (a ∷ p) = any (λ e. is_prefix (a ∷ p) e.path) v

-- in view: live, or a prefix of a live element's path, and that element's label dominated by the subject
unfoldable pub in_view : ℕ → Model → List Step → Bool
in_view s m p = reaches (visible s m) p

-- removed: in view but not live; the listing marks such a path R (`shown-removed`)
unfoldable pub removed : ℕ → Model → List Step → Bool
removed s m p = in_view s m p && not (live m p)

-- ---- what is visible at or below a path

-- those of the elements v whose path is p or extends it, in path order
abbrev pub below : List Step → List Element → List Element
below p v = sort rank (keep (λ e. is_prefix p e.path) v)

-- the visible ones; the listing is read off them (`listing-walk`)
abbrev pub seen_below : ℕ → Model → List Step → List Element
seen_below s m p = below p (visible s m)

-- ---- the listing of the visible elements v

-- of each the path and its prefixes; those that are p or extend it, once each and in path order
unfoldable pub listed : List Element → List Step → List (List Step)
listed v p = sort path_rank (keep (is_prefix p) (gather (λ e. prefixes e.path) v))

-- the content that stands at a path; a removed element has none
abbrev pub content_at : List Element → List Step → Option Content
content_at [] p = none
content_at (e ∷ v) p = cond (same_path p e.path) (some e.content) (content_at v p)

-- G, M or T
unfoldable pub letter : ℕ → List ℕ
letter zero = ascii "G"
letter (suc zero) = ascii "M"
letter (suc (suc k)) = ascii "T"

-- - for a group, a measure in decimal, a text as it is
unfoldable pub shown : ℕ → List ℕ → List ℕ
shown zero b = ascii "-"
shown (suc zero) b = signed (measure_of b)
shown (suc (suc k)) b = b

-- mark, kind and value: P for a live element, R for a removed one
abbrev pub content_fields : Option Content → List (List ℕ)
content_fields none = ascii "R" ∷ ascii "-" ∷ ascii "-" ∷ []
content_fields (some c) = ascii "P" ∷ letter c.kind ∷ shown c.kind c.value ∷ []

-- name and label
abbrev pub step_fields : Option Step → List (List ℕ)
step_fields none = []
step_fields (some a) = decimal a.name ∷ decimal a.label ∷ []

-- the line of a listed path: depth, name and label of its last step, mark, kind, value
unfoldable pub path_line : List Element → List Step → List ℕ
path_line v p = line (decimal (length p) ∷ (step_fields (last_step p) ++ content_fields (content_at v p)))

-- VIEW, the subject, how many lines follow
unfoldable pub head_line : ℕ → ℕ → List ℕ
head_line s n = line (ascii "VIEW" ∷ decimal s ∷ decimal n ∷ [])

unfoldable pub listing_of : ℕ → List Element → List Step → List ℕ
listing_of s v p = head_line s (length (listed v p)) ++ gather (path_line v) (listed v p)

-- what View writes for subject s and path p
unfoldable pub listing : ℕ → Model → List Step → List ℕ
listing s m p = listing_of s (visible s m) p
