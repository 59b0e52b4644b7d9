-- Where a prefix of a path stands in a set that has nothing at or below it: where the path would stand, and the path behind it then.
use mathlib.Core.Path.{◌≡◌, refl, ap, ◌∙◌}
use mathlib.Core.Logic.{◌⊎◌, inl, inr}
use mathlib.Core.Bool.{Bool, not, cond}
use mathlib.Core.List.Memᴰ
use mathlib.Core.List.{List, [], ◌∷◌, ◌++◌}
use Prim.Native.Nat.{ℕ, suc}
use lib.ListN.{take, drop}
use lib.Dec.{T}
use mir.Facts.{not_T, T_not}
use Rattle.model.specs.Lists.{◌∈◌}
use Rattle.model.specs.Sets.{put}
use Rattle.model.specs.Path.{Step, is_prefix, key, path_rank}
use Rattle.model.specs.Element.{Element, rank, contains}
use Rattle.model.proofs.Bools.{decide, is_true, is_false, same_test}
use Rattle.model.proofs.Order.{precedes-trans, precedes-asym}
use Rattle.model.proofs.Paths.{between-extends, key-keyed}
use Rattle.model.proofs.Prefixes.{prefix-before}
use Rattle.path.specs.Common.{is_before}
use Rattle.partition.specs.Place.{place_of}
use Rattle.partition.proofs.Placing.{put-place}

-- a path that does not extend q comes before q if it comes before what extends q
before_same : (d q p : List Step) → T (is_prefix q p) → T (not (is_prefix q d)) → is_before d q ≡ is_before d p
before_same d q p b none = same_test (is_before d q) (is_before d p) (λ t. forth t (prefix-before q p b)) back
  where
    forth : T (is_before d q) → (q ≡ p) ⊎ T (is_before q p) → T (is_before d p)
    forth t (inl e) = rw (← e) t
    forth t (inr u) = precedes-trans (path_rank d) (path_rank q) (path_rank p) t u

    back : T (is_before d p) → T (is_before d q)
    back t =
        decide (is_before d q) (λ (u : T (is_before d q)). u)
        (λ (u : T (not (is_before d q))).
        absurd (T_not (is_prefix q d) (between-extends key key-keyed q d p b u (precedes-asym (path_rank d) (path_rank p) t)) none))

-- so it has the path's place
pub place_same : (q p : List Step) (es : List Element) → T (is_prefix q p) → ((e : Element) → e ∈ es → T (is_prefix q e.path) → ⊥)
    → place_of q es ≡ place_of p es
place_same q p [] b none = refl
place_same q p (e ∷ es) b none =
    ap (λ (t : Bool). cond t (suc (place_of q es)) 0) (before_same e.path q p b (not_T (is_prefix q e.path) (none e (Memᴰ.head refl))))
    ∙ ap (λ (n : ℕ). cond (is_before e.path p) (suc n) 0) (place_same q p es b (λ d m. none d (Memᴰ.tail m)))

-- an element that comes before a path, put in at the path's place
place-put : (p : List Step) (e : Element) (es : List Element) → T (is_before e.path p)
    → place_of p (take (place_of p es) es ++ (e ∷ drop (place_of p es) es)) ≡ suc (place_of p es)
place-put p e [] t = rw (is_true (is_before e.path p) t)
place-put p e (d ∷ es) t =
    decide (is_before d.path p)
    (λ (u : T (is_before d.path p)).
    let y = is_true (is_before d.path p) u in
    rw (y, y) (ap suc (place-put p e es t)))
    (λ (u : T (not (is_before d.path p))).
    let y = is_false (is_before d.path p) u in
    rw (y, is_true (is_before e.path p) t, y))

-- the path stands one place behind it then
pub place-next : (p : List Step) (e : Element) (es : List Element) → T (is_before e.path p) → T (not (contains es e.path))
    → place_of e.path es ≡ place_of p es → place_of p (put rank e es) ≡ suc (place_of p es)
place-next p e es t lacks same =
    ap (place_of p) (put-place e es lacks)
    ∙ ap (λ (n : ℕ). place_of p (take n es ++ (e ∷ drop n es))) same
    ∙ place-put p e es t
