-- The first steps that two paths share: as a prefix of both, and what a path that stands between them in path order shares with each.
use mathlib.Core.Path.{◌≡◌}
use mathlib.Core.Logic.{◌⊎◌, inl, inr}
use mathlib.Core.Bool.{not}
use mathlib.Core.List.{List, [], ◌∷◌}
use Prim.Native.Nat.{◌≤◌}
use native.Mathlib.Omega.{arith}
use lib.ListN.{length, take}
use lib.Seq.{length-take-le}
use lib.Dec.{T}
use mir.Facts.{not_T, T_not}
use Rattle.model.specs.Path.{Step, same_step, is_prefix, key, path_rank}
use Rattle.model.proofs.Bools.{and_l, and_r, is_true}
use Rattle.model.proofs.Order.{precedes-trans}
use Rattle.model.proofs.Paths.{step-eq, key-keyed, between-extends}
use Rattle.model.proofs.Prefixes.{prefix-take, prefix-before}
use Rattle.path.specs.Common.{common, is_before}
use Rattle.path.proofs.Common.{common-turned, common-second, common-take}

-- ---- a prefix of both

-- no prefix of both is longer
pub common-most : (x p q : List Step) → T (is_prefix x p) → T (is_prefix x q) → length x ≤ common p q
common-most [] p q s t = omega arith
common-most (c ∷ x) [] q s t = absurd s
common-most (c ∷ x) (a ∷ p) [] s t = absurd t
common-most (c ∷ x) (a ∷ p) (b ∷ q) s t =
    let e : c ≡ a = step-eq c a (and_l (same_step c a) (is_prefix x p) s) in
    let same : T (same_step a b) = rw (← e) (and_l (same_step c b) (is_prefix x q) t) in
    let l : length x ≤ common p q = common-most x p q (and_r (same_step c a) (is_prefix x p) s) (and_r (same_step c b) (is_prefix x q) t) in
    rw (is_true (same_step a b) same) (omega arith)

-- ---- a path between two

module _ (p f q : List Step) (low : T (not (is_before f p))) (high : T (not (is_before q f))) where
  -- it does not come before a prefix of the first
  after-prefix : (x : List Step) → T (is_prefix x p) → T (not (is_before f x))
  after-prefix x t = not_T (is_before f x) (λ (b : T (is_before f x)). T_not (is_before f p) (go b (prefix-before x p t)) low)
    where
      go : T (is_before f x) → (x ≡ p) ⊎ T (is_before x p) → T (is_before f p)
      go b (inl e) = rw e at b
      go b (inr s) = precedes-trans (path_rank f) (path_rank x) (path_rank p) b s

  -- so it extends the steps that they share
  between-prefix : T (is_prefix (take (common p q) q) f)
  between-prefix =
      between-extends key key-keyed (take (common p q) q) f q (prefix-take (common p q) q) (after-prefix (take (common p q) q) (common-take p q)) high

  -- as long as what they share
  shared-length : length (take (common p q) q) ≡ common p q
  shared-length = length-take-le (common p q) q (common-second p q)

  -- and shares them with the first
  pub between_first : common q p ≤ common f p
  between_first = omega (arith, common-turned q p, shared-length, common-most (take (common p q) q) f p between-prefix (common-take p q))

  -- and with the second
  pub between-second : common p q ≤ common f q
  between-second = omega (arith, shared-length, common-most (take (common p q) q) f q between-prefix (prefix-take (common p q) q))
