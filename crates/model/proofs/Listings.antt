-- What a view lists: the paths at or below its own that are in view, the root left out, in ascending path order. With their
-- order the members leave one list only (`ascending-unique`).
use mathlib.Core.List.{List, [], ◌∷◌}
use Prim.Native.Nat.{◌≤◌}
use lib.ListN.{length}
use lib.Dec.{T}
use Rattle.model.specs.Lists.{keep, gather, ◌∈◌}
use Rattle.model.specs.Sets.{ascending}
use Rattle.model.specs.Path.{Step, is_prefix, prefixes, key, path_rank}
use Rattle.model.specs.Element.{Element}
use Rattle.model.specs.View.{reaches, listed}
use Rattle.model.proofs.Members.{any-in, in-any, keep-in, in-keep, gather-in, in-gather}
use Rattle.model.proofs.Order.{ascending-sort, sort-in, in-sort}
use Rattle.model.proofs.Paths.{in-prefixes, prefixes-in, key-keyed, keys-injective}
use Rattle.model.proofs.Prefixes.{prefixes-filled}

-- a path of one of the elements, or a prefix of one, is reached
pub reached : (v : List Element) (q : List Step) {e : Element} → e ∈ v → T (is_prefix q e.path) → T (reaches v q)
reached v [] m t = tt
reached v (a ∷ q) m t = in-any (λ d. is_prefix (a ∷ q) d.path) v m t

module _ (v : List Element) (p : List Step) where
  pub listed-ascends : T (ascending path_rank (listed v p))
  unfolding listed
  listed-ascends = ascending-sort path_rank (keep (is_prefix p) (gather (λ e. prefixes e.path) v))

  -- a listed path is at or below p, and one of a visible element's prefixes
  pub listed_of : (q : List Step) → q ∈ listed v p → (e : Element) × (e ∈ v) × (q ∈ prefixes e.path) × T (is_prefix p q)
  unfolding listed
  listed_of q m =
      let k = keep-in (is_prefix p) (gather (λ e. prefixes e.path) v) (sort-in path_rank (keep (is_prefix p) (gather (λ e. prefixes e.path) v)) m) in
      let g = gather-in (λ (e : Element). prefixes e.path) v k.0 in
      (g.0, g.1, g.2, k.1)

  -- so it is in view
  pub listed_in : (q : List Step) → q ∈ listed v p → T (is_prefix p q) × T (reaches v q)
  listed_in q m = let g = listed_of q m in (g.3, reached v q g.1 (in-prefixes q g.0.path g.2))

  -- the root is not listed
  pub listed-filled : (q : List Step) → q ∈ listed v p → 1 ≤ length q
  listed-filled q m = let g = listed_of q m in prefixes-filled q g.0.path g.2

  -- and each such path but the root is listed
  pub in-listed : (a : Step) (q : List Step) → T (is_prefix p (a ∷ q)) → T (reaches v (a ∷ q)) → a ∷ q ∈ listed v p
  unfolding listed
  in-listed a q s t =
      let r : (e : Element) × (e ∈ v) × T (is_prefix (a ∷ q) e.path) = any-in (λ d. is_prefix (a ∷ q) d.path) v t in
      in-sort path_rank (keys-injective key key-keyed) (keep (is_prefix p) (gather (λ e. prefixes e.path) v))
      (in-keep (is_prefix p) (gather (λ e. prefixes e.path) v)
      (in-gather (λ e. prefixes e.path) v r.1 (prefixes-in a q r.0.path r.2)) s)
