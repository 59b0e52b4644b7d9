-- Prefixes: their lengths, two prefixes of one path, the parent of a prefix, and where a prefix stands in path order.
use mathlib.Core.Path.{◌≡◌, refl, sym, ap, ap₂, subst, ◌∙◌}
use mathlib.Core.Logic.{◌⊎◌, inl, inr}
use mathlib.Core.Bool.{not}
use mathlib.Core.List.Memᴰ
use mathlib.Core.List.{List, [], ◌∷◌, map}
use Prim.Native.Nat.{ℕ, zero, suc, ◌-◌, ◌≤◌, ◌<◌}
use native.Mathlib.Omega.{arith}
use lib.ListN.{length, take, drop, length-map}
use lib.Dec.{T, ltb}
use mir.Facts.{ltb_yes, ltb_no, T_not}
use Rattle.model.specs.Lists.{◌∈◌}
use Rattle.model.specs.Sets.{precedes}
use Rattle.model.specs.Path.{Step, same_step, same_path, is_prefix, prefixes, parent, key, path_rank}
use Rattle.model.proofs.Bools.{and_l, and_r, both, decide}
use Rattle.model.proofs.Members.{map-in}
use Rattle.model.proofs.Lists.{drop-map}
use Rattle.model.proofs.Order.{precedes-irrefl}
use Rattle.model.proofs.Paths.{step-eq, step-refl, same-eq, same_refl, prefix_refl, prefix_trans, prefixes-in, key-keyed, prefix-first, parent-prefix}

pub prefix-length : (p q : List Step) → T (is_prefix p q) → length p ≤ length q
prefix-length [] q t = omega arith
prefix-length (a ∷ p) [] t = absurd t
prefix-length (a ∷ p) (b ∷ q) t = let h : length p ≤ length q = prefix-length p q (and_r (same_step a b) (is_prefix p q) t) in omega arith

-- a prefix that is as long is the path
pub prefix-whole : (p q : List Step) → T (is_prefix p q) → length q ≤ length p → p ≡ q
prefix-whole [] [] t h = refl
prefix-whole [] (b ∷ q) t h = absurd (omega arith)
prefix-whole (a ∷ p) [] t h = absurd t
prefix-whole (a ∷ p) (b ∷ q) t h =
    ap₂ (λ (x : Step) (l : List Step). x ∷ l) (step-eq a b (and_l (same_step a b) (is_prefix p q) t))
    (prefix-whole p q (and_r (same_step a b) (is_prefix p q) t) (omega arith))

pub prefix-take : (n : ℕ) (q : List Step) → T (is_prefix (take n q) q)
prefix-take zero q = tt
prefix-take (suc n) [] = tt
prefix-take (suc n) (a ∷ q) = both (same_step a a) (is_prefix (take n q) q) (step-refl a) (prefix-take n q)

-- the root is not among the prefixes
pub prefixes-filled : (x q : List Step) → x ∈ prefixes q → 1 ≤ length x
prefixes-filled x [] m = absurd (Memᴰ.not-nil m)
prefixes-filled x (b ∷ q) m = go (Memᴰ.cases_cons m)
  where
    go : (x ≡ b ∷ []) ⊎ (x ∈ map (λ y. b ∷ y) (prefixes q)) → 1 ≤ length x
    go (inl e) = rw e (omega arith)
    go (inr k) = let r = map-in (λ y. b ∷ y) (prefixes q) k in rw r.2 (omega arith)

-- every other prefix is
pub filled-prefix : (x q : List Step) → 1 ≤ length x → T (is_prefix x q) → x ∈ prefixes q
filled-prefix [] q h t = absurd (omega arith)
filled-prefix (a ∷ x) q h t = prefixes-in a x q t

pub length-parent : (p : List Step) → length (parent p) ≡ length p - 1
length-parent [] = refl
length-parent (a ∷ []) = refl
length-parent (a ∷ b ∷ p) = let h : length (parent (b ∷ p)) ≡ length (b ∷ p) - 1 = length-parent (b ∷ p) in omega arith

-- the parent of p, and a path that is p or extends it
module _ (p q : List Step) (t : T (is_prefix p q)) where
  pub parent_above : T (is_prefix (parent p) q)
  parent_above = prefix_trans (parent p) p q (parent-prefix p) t

  pub parent_shorter : 1 ≤ length q → length (parent p) < length q
  parent_shorter h =
      let l : length (parent p) ≡ length p - 1 = length-parent p in
      let k : length p ≤ length q = prefix-length p q t in
      omega arith

-- a prefix is the path or comes before it
pub prefix-before : (x q : List Step) → T (is_prefix x q) → (x ≡ q) ⊎ T (precedes (path_rank x) (path_rank q))
prefix-before x q t =
    decide (same_path x q)
    (λ (s : T (same_path x q)). inl (same-eq x q s))
    (λ (s : T (not (same_path x q))). inr (prefix-first key key-keyed x q t (λ e. T_not (same_path x q) (rw e (same_refl q)) s)))

-- one that comes before it is shorter
pub prefix-shorter : (p q : List Step) → T (is_prefix p q) → T (precedes (path_rank p) (path_rank q)) → length p < length q
prefix-shorter p q t s =
    decide (ltb (length p) (length q))
    (λ (h : T (ltb (length p) (length q))). ltb_yes h)
    (λ (h : T (not (ltb (length p) (length q)))).
    absurd (precedes-irrefl (path_rank q) (subst (λ (x : List Step). T (precedes (path_rank x) (path_rank q))) (prefix-whole p q t (ltb_no h)) s)))

-- of two prefixes of one path one is a prefix of the other
pub prefix-line : (p x q : List Step) → T (is_prefix p q) → T (is_prefix x q) → T (is_prefix x p) ⊎ T (is_prefix p x)
prefix-line [] x q s t = inr tt
prefix-line (a ∷ p) [] q s t = inl tt
prefix-line (a ∷ p) (c ∷ x) [] s t = absurd s
prefix-line (a ∷ p) (c ∷ x) (b ∷ q) s t =
    go (prefix-line p x q (and_r (same_step a b) (is_prefix p q) s) (and_r (same_step c b) (is_prefix x q) t))
  where
    e : a ≡ b
    e = step-eq a b (and_l (same_step a b) (is_prefix p q) s)

    f : c ≡ b
    f = step-eq c b (and_l (same_step c b) (is_prefix x q) t)

    go : T (is_prefix x p) ⊎ T (is_prefix p x) → T (is_prefix (c ∷ x) (a ∷ p)) ⊎ T (is_prefix (a ∷ p) (c ∷ x))
    go (inl m) = inl (both (same_step c a) (is_prefix x p) (rw e (and_l (same_step c b) (is_prefix x q) t)) m)
    go (inr m) = inr (both (same_step a c) (is_prefix p x) (rw f (and_l (same_step a b) (is_prefix p q) s)) m)

-- of two prefixes of one path one that is not longer is a prefix of the other
pub prefix-of-longer : (p x q : List Step) → T (is_prefix p q) → T (is_prefix x q) → length p ≤ length x → T (is_prefix p x)
prefix-of-longer p x q s t h = go (prefix-line p x q s t)
  where
    go : T (is_prefix x p) ⊎ T (is_prefix p x) → T (is_prefix p x)
    go (inl m) = rw (prefix-whole x p m h) (prefix_refl p)
    go (inr m) = m

-- ---- prefixes by their lengths

pub length-prefixes : (q : List Step) → length (prefixes q) ≡ length q
length-prefixes [] = refl
length-prefixes (a ∷ q) = ap suc (length-map (prefixes q) (λ x. a ∷ x) ∙ length-prefixes q)

-- the prefixes from one of d + 1 steps on
pub prefix-at : (d : ℕ) (q : List Step) → d < length q → drop d (prefixes q) ≡ take (suc d) q ∷ drop (suc d) (prefixes q)
prefix-at d [] h = absurd (omega arith)
prefix-at zero (a ∷ q) h = refl
prefix-at (suc d) (a ∷ q) h =
    drop-map (λ x. a ∷ x) d (prefixes q)
    ∙ ap (map (λ x. a ∷ x)) (prefix-at d q (omega arith))
    ∙ ap (λ (z : List (List Step)). (a ∷ take (suc d) q) ∷ z) (sym (drop-map (λ x. a ∷ x) (suc d) (prefixes q)))

-- the parent has all steps but the last
pub parent-take : (p : List Step) → parent p ≡ take (length p - 1) p
parent-take [] = refl
parent-take (a ∷ []) = refl
parent-take (a ∷ b ∷ p) =
    let n : length (a ∷ b ∷ p) - 1 ≡ suc (length (b ∷ p) - 1) = omega arith in
    ap (λ (q : List Step). a ∷ q) (parent-take (b ∷ p)) ∙ ap (λ (k : ℕ). take k (a ∷ b ∷ p)) (sym n)

-- so that of the first d + 1 steps has the first d
pub take_parent : (d : ℕ) (q : List Step) → d < length q → parent (take (suc d) q) ≡ take d q
take_parent d [] h = absurd (omega arith)
take_parent zero (a ∷ q) h = refl
take_parent (suc d) (a ∷ []) h = absurd (omega arith)
take_parent (suc d) (a ∷ b ∷ q) h = ap (λ (l : List Step). a ∷ l) (take_parent d (b ∷ q) (omega arith))
