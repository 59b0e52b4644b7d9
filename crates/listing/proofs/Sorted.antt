-- The prefixes of a path ascend.
use mathlib.Core.Path.{◌≡◌, ap}
use mathlib.Core.Bool.{true}
use mathlib.Core.List.{List, [], ◌∷◌, map}
use Prim.Native.Nat.{◌≤◌}
use native.Mathlib.Omega.{arith}
use lib.ListN.{length}
use lib.Dec.{T}
use Rattle.model.specs.Sets.{precedes, is_before, ahead, sorted}
use Rattle.model.specs.Path.{Step, same_step, prefixes, key, path_rank}
use Rattle.model.proofs.Bools.{and_l, and_r, both}
use Rattle.model.proofs.Members.{all_in, in_all, map-in}
use Rattle.model.proofs.Order.{precedes-cancel}
use Rattle.model.proofs.Paths.{step-refl, key-keyed, prefix-first}
use Rattle.model.proofs.Prefixes.{prefixes-filled}

sorted-under : (a : Step) (l : List (List Step)) → T (sorted path_rank l) → T (sorted path_rank (map (λ x. a ∷ x) l))
sorted-under a [] t = tt
sorted-under a (x ∷ l) t =
    both (ahead path_rank (a ∷ x) (map (λ y. a ∷ y) l)) (sorted path_rank (map (λ y. a ∷ y) l))
    (in_all (is_before path_rank (a ∷ x)) (map (λ y. a ∷ y) l) (λ z m.
    let r = map-in (λ y. a ∷ y) l m in
    rw r.2
    (rw (precedes-cancel (key a) (path_rank x) (path_rank r.0))
    (all_in (is_before path_rank x) l (and_l (ahead path_rank x l) (sorted path_rank l) t) r.1))))
    (sorted-under a l (and_r (ahead path_rank x l) (sorted path_rank l) t))

pub prefixes-sorted : (q : List Step) → T (sorted path_rank (prefixes q))
prefixes-sorted [] = tt
prefixes-sorted (a ∷ q) =
    both (ahead path_rank (a ∷ []) (map (λ x. a ∷ x) (prefixes q))) (sorted path_rank (map (λ x. a ∷ x) (prefixes q)))
    (in_all (is_before path_rank (a ∷ [])) (map (λ x. a ∷ x) (prefixes q)) (λ z m.
    let r = map-in (λ x. a ∷ x) (prefixes q) m in
    rw r.2 (first r.0 (prefixes-filled r.0 q r.1))))
    (sorted-under a (prefixes q) (prefixes-sorted q))
  where
    first : (y : List Step) → 1 ≤ length y → T (precedes (path_rank (a ∷ [])) (path_rank (a ∷ y)))
    first y h =
        prefix-first key key-keyed (a ∷ []) (a ∷ y) (both (same_step a a) true (step-refl a) tt)
        (λ e. let l : length (a ∷ []) ≡ length (a ∷ y) = ap length e in omega arith)
