-- Two paths compared step by step: what they share, which comes first, and whether one is a prefix of the other.
use mathlib.Core.Path.{◌≡◌, refl, sym, ap, ap₂, ◌∙◌}
use mathlib.Core.Bool.{Bool, true, false, not, cond, ◌&&◌}
use mathlib.Core.List.{List, [], ◌∷◌, ◌++◌}
use Prim.Native.Nat.{ℕ, suc, ◌+◌, ◌-◌, ◌≤◌, ◌<◌, min}
use native.Mathlib.Omega.{arith}
use native.Mathlib.Decide.{dec_lt}
use borrow.Author.Tests.{lt-ltb, le-ltb}
use lib.ListN.{length, take}
use lib.Dec.{T, eqb, leb, ltb, eqb-suc-suc, eqb-zero-suc, eqb-suc-zero, leb-zero, leb-suc-zero, leb-suc-suc}
use mir.Facts.{eqb_yes, yes_eqb}
use Rattle.model.specs.Lists.{range}
use Rattle.model.specs.Sets.{precedes}
use Rattle.model.specs.Path.{Step, same_step, same_path, is_prefix, parent, keys}
use Rattle.model.proofs.Bools.{both, decide, is_true, is_false, same_test}
use Rattle.model.proofs.Order.{precedes-cancel, precedes-differ}
use Rattle.model.proofs.Paths.{step-eq, step-refl, Keyed}
use Rattle.model.proofs.Walks.{rest, rest_more, rest_end}
use Rattle.path.specs.Common.{common, is_before_by, ComparedBy}

-- ---- steps at the front

-- the empty list is before any other
first-list : (x u : List ℕ) → 0 < length x → precedes [] (x ++ u) ≡ true
first-list [] u h = absurd (omega arith)
first-list (a ∷ x) u h = refl

-- and after none
last-list : (x : List ℕ) → precedes x [] ≡ false
last-list [] = refl
last-list (a ∷ x) = refl

-- first steps that are the same are shared
common-same : (a b : Step) (p q : List Step) → same_step a b ≡ true → common (a ∷ p) (b ∷ q) ≡ suc (common p q)
common-same a b p q t = rw t

-- behind first steps that differ nothing is
common-differ : (a b : Step) (p q : List Step) → same_step a b ≡ false → common (a ∷ p) (b ∷ q) ≡ 0
common-differ a b p q t = rw t

-- the root is after no path
pub before-none : (k : Step → List ℕ) (p : List Step) → is_before_by k p [] ≡ false
before-none k p = last-list (keys k p)

-- the order of a key
module _ (k : Step → List ℕ) (good : Keyed k) where
  -- and before any other
  pub before-some : (a : Step) (p : List Step) → is_before_by k [] (a ∷ p) ≡ true
  before-some a p = first-list (k a) (keys k p) (good.filled a)

  module _ (a b : Step) (p q : List Step) where
    -- a common first step does not matter
    before_same : same_step a b ≡ true → is_before_by k (a ∷ p) (b ∷ q) ≡ is_before_by k p q
    before_same t = let s : a ≡ b = step-eq a b (rw t tt) in rw s (precedes-cancel (k b) (keys k p) (keys k q))

    -- first steps that differ decide
    before-differ : same_step a b ≡ false → is_before_by k (a ∷ p) (b ∷ q) ≡ precedes (k a) (k b)
    before-differ t = precedes-differ (k a) (k b) (keys k p) (keys k q) (good.width a b) (λ e. other (good.injective a b e))
      where
        other : a ≡ b → ⊥
        other e = let s : T (same_step a b) = rw e (step-refl b) in rw t at s

-- ---- two paths given as ranges, compared from step i on

pub record Sharing (k : Step → List ℕ) (f g : ℕ → Step) (x y i : ℕ) : Type 0 where
  pub within-x : i ≤ x
  pub within-y : i ≤ y
  pub same : common (range f 0 x) (range g 0 y) ≡ i + common (rest f x i) (rest g y i)
  pub order : is_before_by k (range f 0 x) (range g 0 y) ≡ is_before_by k (rest f x i) (rest g y i)

pub share-start : (k : Step → List ℕ) (f g : ℕ → Step) (x y : ℕ) → Sharing k f g x y 0
share-start k f g x y =
    let ex : x - 0 ≡ x = omega arith in
    let ey : y - 0 ≡ y = omega arith in
    record {
      within-x = omega arith;
      within-y = omega arith;
      same = rw (ex, ey) (omega arith);
      order = rw (ex, ey);
    }

module _ {k : Step → List ℕ} (good : Keyed k) {f g : ℕ → Step} {x y i : ℕ} (inv : Sharing k f g x y i) where
  nothing_left : i ≡ x → is_before_by k [] (rest g y i) ≡ ltb x y
  nothing_left z = elim (dec_lt i y) [
    | yes j ↦ let n : x < y = omega arith in ap (is_before_by k []) (rest_more g y i j) ∙ before-some k good (g i) (rest g y (i + 1)) ∙ sym (lt-ltb x y n)
    | no j ↦ let n : y ≤ x = omega arith in ap (is_before_by k []) (rest_end g y i (omega arith)) ∙ sym (le-ltb x y n)
  ]

  -- at the end of one of them
  all-shared : min x y ≤ i → ComparedBy k (range f 0 x) (range g 0 y) i (ltb x y)
  all-shared h = elim (dec_lt i x) [
    | yes l ↦
        let j : y ≤ i = omega (arith, inv.within-y) in
        let w : i ≤ y = inv.within-y in
        let eg : rest g y i ≡ [] = rest_end g y i j in
        let ef : rest f x i ≡ f i ∷ rest f x (i + 1) = rest_more f x i l in
        let n : y ≤ x = omega arith in
        record {
          shared-is = sym (inv.same ∙ rw (ef, eg) (omega arith));
          before-is = le-ltb x y n ∙ sym (inv.order ∙ ap (is_before_by k (rest f x i)) eg ∙ before-none k (rest f x i));
        }
    | no l ↦
        let w : i ≤ x = inv.within-x in
        let z : i ≡ x = omega arith in
        let ef : rest f x i ≡ [] = rest_end f x i (omega arith) in
        record {
          shared-is = sym (inv.same ∙ rw ef (omega arith));
          before-is = sym (inv.order ∙ ap (λ (p : List Step). is_before_by k p (rest g y i)) ef ∙ nothing_left z);
        }
  ]

  -- so many steps are shared
  pub share-end : {n : ℕ} → n ≡ min x y → n ≤ i → ComparedBy k (range f 0 x) (range g 0 y) n (ltb x y)
  share-end {n} d h =
      let e : i ≡ n = omega (arith, inv.within-x, inv.within-y) in
      let s : ComparedBy k (range f 0 x) (range g 0 y) i (ltb x y) = all-shared (omega arith) in
      rw e at s

  -- at steps that were found the same or not
  module _ (hx : i < x) (hy : i < y) {r : Bool} (told : r ≡ same_step (f i) (g i)) where
    more-x : rest f x i ≡ f i ∷ rest f x (i + 1)
    more-x = rest_more f x i hx

    more-y : rest g y i ≡ g i ∷ rest g y (i + 1)
    more-y = rest_more g y i hy

    -- steps that differ decide
    pub share-differ : r ≡ false → {t : Bool} → t ≡ precedes (k (f i)) (k (g i)) → ComparedBy k (range f 0 x) (range g 0 y) i t
    share-differ d e =
        let s : same_step (f i) (g i) ≡ false = sym told ∙ d in
        record {
          shared-is = sym (inv.same ∙ rw (more-x, more-y, common-differ (f i) (g i) (rest f x (i + 1)) (rest g y (i + 1)) s) (omega arith));
          before-is = sym (inv.order ∙ ap₂ (is_before_by k) more-x more-y ∙ before-differ k good (f i) (g i) (rest f x (i + 1)) (rest g y (i + 1)) s ∙ sym e);
        }

    -- steps that are the same lead to the next
    pub share-next : r ≡ true → Sharing k f g x y (i + 1)
    share-next e =
        let s : same_step (f i) (g i) ≡ true = sym told ∙ e in
        record {
          within-x = omega arith;
          within-y = omega arith;
          same = inv.same ∙ rw (more-x, more-y, common-same (f i) (g i) (rest f x (i + 1)) (rest g y (i + 1)) s) (omega arith);
          order = inv.order ∙ ap₂ (is_before_by k) more-x more-y ∙ before_same k good (f i) (g i) (rest f x (i + 1)) (rest g y (i + 1)) s;
        }

-- ---- what the shared steps say

pub common-first : (p q : List Step) → common p q ≤ length p
common-first [] q = omega arith
common-first (a ∷ p) [] = omega arith
common-first (a ∷ p) (b ∷ q) = go (same_step a b) (common-first p q)
  where
    go : (t : Bool) → common p q ≤ length p → cond t (suc (common p q)) 0 ≤ suc (length p)
    go true h = omega arith
    go false h = omega arith

-- p is a prefix of q if they share all of p
pub common-prefix : (p q : List Step) → is_prefix p q ≡ eqb (common p q) (length p)
common-prefix [] q = refl
common-prefix (a ∷ p) [] = sym (eqb-zero-suc (length p))
common-prefix (a ∷ p) (b ∷ q) = go (same_step a b) (common-prefix p q)
  where
    go : (t : Bool) → is_prefix p q ≡ eqb (common p q) (length p) → (t && is_prefix p q) ≡ eqb (cond t (suc (common p q)) 0) (suc (length p))
    go true h = h ∙ sym (eqb-suc-suc (common p q) (length p))
    go false h = sym (eqb-zero-suc (length p))

step-turned : (a b : Step) → same_step a b ≡ same_step b a
unfolding same_step
step-turned a b = ap₂ (λ (x y : Bool). x && y) (turned a.name b.name) (turned a.label b.label)
  where
    turned : (x y : ℕ) → eqb x y ≡ eqb y x
    turned x y = same_test (eqb x y) (eqb y x) (swap x y) (swap y x)
      where
        swap : (u v : ℕ) → T (eqb u v) → T (eqb v u)
        swap u v t = let e : u ≡ v = eqb_yes t in yes_eqb (sym e)

-- the parent of q is a prefix of p if they share all of q but its last step
pub common-parent : (p q : List Step) → is_prefix (parent q) p ≡ leb (length q) (suc (common p q))
common-parent p [] = sym (leb-zero (suc (common p [])))
common-parent p (b ∷ []) = sym (leb-suc-suc 0 (common p (b ∷ [])) ∙ leb-zero (common p (b ∷ [])))
common-parent [] (b ∷ c ∷ q) = sym (leb-suc-suc (suc (length q)) 0 ∙ leb-suc-zero (length q))
common-parent (a ∷ p) (b ∷ c ∷ q) = rw (step-turned b a) (go (same_step a b) (common-parent p (c ∷ q)))
  where
    go : (t : Bool) → is_prefix (parent (c ∷ q)) p ≡ leb (length (c ∷ q)) (suc (common p (c ∷ q)))
        → (t && is_prefix (parent (c ∷ q)) p) ≡ leb (suc (length (c ∷ q))) (suc (cond t (suc (common p (c ∷ q))) 0))
    go true h = h ∙ sym (leb-suc-suc (length (c ∷ q)) (suc (common p (c ∷ q))))
    go false h = sym (leb-suc-suc (length (c ∷ q)) 0 ∙ leb-suc-zero (length q))

-- the paths are the same if they share all of both
pub common-same-path : (p q : List Step) → same_path p q ≡ (eqb (common q p) (length p) && eqb (length q) (length p))
common-same-path [] [] = refl
common-same-path [] (b ∷ q) = sym (eqb-suc-zero (length q))
common-same-path (a ∷ p) [] = sym (ap (λ (x : Bool). x && eqb 0 (suc (length p))) (eqb-zero-suc (length p)))
common-same-path (a ∷ p) (b ∷ q) = rw (step-turned a b) (go (same_step b a) (common-same-path p q))
  where
    go : (t : Bool) → same_path p q ≡ (eqb (common q p) (length p) && eqb (length q) (length p))
        → (t && same_path p q) ≡ (eqb (cond t (suc (common q p)) 0) (suc (length p)) && eqb (suc (length q)) (suc (length p)))
    go true h = h ∙ sym (ap₂ (λ (x y : Bool). x && y) (eqb-suc-suc (common q p) (length p)) (eqb-suc-suc (length q) (length p)))
    go false h = sym (ap (λ (x : Bool). x && eqb (suc (length q)) (suc (length p))) (eqb-zero-suc (length p)))

pub common-turned : (p q : List Step) → common p q ≡ common q p
common-turned [] [] = refl
common-turned [] (b ∷ q) = refl
common-turned (a ∷ p) [] = refl
common-turned (a ∷ p) (b ∷ q) = ap₂ (λ (t : Bool) (n : ℕ). cond t (suc n) 0) (step-turned a b) (common-turned p q)

-- the shared steps are at most those of the second path
pub common-second : (p q : List Step) → common p q ≤ length q
common-second p q = omega (arith, common-turned p q, common-first q p)

-- so many first steps of the second path are a prefix of the first
pub common-take : (p q : List Step) → T (is_prefix (take (common p q) q) p)
common-take [] q = tt
common-take (a ∷ p) [] = tt
common-take (a ∷ p) (b ∷ q) =
    decide (same_step a b)
    (λ (t : T (same_step a b)).
    rw (is_true (same_step a b) t)
    (both (same_step b a) (is_prefix (take (common p q) q) p) (rw (step-eq a b t) (step-refl b)) (common-take p q)))
    (λ (t : T (not (same_step a b))). rw (is_false (same_step a b) t) tt)
