-- The steps of a path before the first that bears a label: counted by a loop, and what is known where labels ascend to that label.
use mathlib.Core.Path.{◌≡◌, sym, ap, ◌∙◌, subst}
use mathlib.Core.Bool.{true, not}
use mathlib.Core.List.{List, [], ◌∷◌}
use Prim.Native.Nat.{ℕ, zero, suc, ◌+◌, ◌-◌, ◌/◌, ◌≤◌, ◌<◌}
use native.Mathlib.Omega.{arith}
use borrow.Author.Tests.{eq-eqb, ne_eqb}
use lib.ListN.{length, take}
use lib.Dec.{T, eqb, eqb_refl}
use mir.Facts.{eqb_yes, eqb_no, yes_eqb, not_T}
use Rattle.model.specs.Lists.{all, range}
use Rattle.model.specs.Label.{dominates}
use Rattle.model.specs.Path.{Step, same_step, is_prefix, ends_in, labels_ascend, valid_path, steps_of}
use Rattle.model.specs.Groups.{own_behind}
use Rattle.model.proofs.Bools.{and_l, and_r, both, decide}
use Rattle.model.proofs.Lists.{all_drop}
use Rattle.model.proofs.Dominance.{dominates-lower, dominates-antisym}
use Rattle.model.proofs.Paths.{step-refl, prefix-below}
use Rattle.model.proofs.Groups.{own-ends}
use Rattle.model.proofs.Walks.{rest, rest_more, rest_end}
use Rattle.path.specs.Steps.{lent_step}
use Rattle.path.proofs.Steps.{lent-range}
use Rattle.reach.specs.Before.{steps_before}

-- ---- by the first step

module _ (s : ℕ) (a : Step) (p : List Step) where
  -- none stands before a first step that bears the label
  before_here : a.label ≡ s → steps_before s (a ∷ p) ≡ 0
  before_here e = rw (eq-eqb a.label s e)

  -- any other is counted
  before-later : (a.label ≡ s → ⊥) → steps_before s (a ∷ p) ≡ suc (steps_before s p)
  before-later d = rw (ne_eqb a.label s d)

  -- one case of the two
  by_first : {X : Type 0} → (a.label ≡ s → steps_before s (a ∷ p) ≡ 0 → X) → ((a.label ≡ s → ⊥) → steps_before s (a ∷ p) ≡ suc (steps_before s p) → X) → X
  by_first f g =
      decide (eqb a.label s)
      (λ (t : T (eqb a.label s)). let e : a.label ≡ s = eqb_yes t in f e (before_here e))
      (λ (t : T (not (eqb a.label s))). let d : a.label ≡ s → ⊥ = eqb_no t in g d (before-later d))

-- ---- a loop over the steps

-- none of the steps before step i bears the label, and w is the count
pub record Passed (g : ℕ → Step) (s w c i : ℕ) : Type 0 where
  pub within : i ≤ c
  pub same : w ≡ i + steps_before s (rest g c i)

-- so it is at the first step of a lent path
pub pass-start : (b : List ℕ) (s : ℕ) → Passed (lent_step b) s (steps_before s (steps_of b)) (length b / 3) 0
pass-start b s =
    let e : length b / 3 ≡ length b / 3 - 0 = omega arith in
    let l : steps_of b ≡ rest (lent_step b) (length b / 3) 0 = lent-range b ∙ ap (range (lent_step b) 0) e in
    record { within = omega arith; same = ap (steps_before s) l ∙ omega arith }

module _ {g : ℕ → Step} {s w c i : ℕ} (inv : Passed g s w c i) where
  -- where no step is left, all are counted
  pub pass-end : c ≤ i → c ≡ w
  pass-end h = sym (inv.same ∙ ap (λ (p : List Step). i + steps_before s p) (rest_end g c i h) ∙ omega (arith, inv.within))

  module _ (h : i < c) where
    -- the count from step i on
    here : w ≡ i + steps_before s (g i ∷ rest g c (i + 1))
    here = inv.same ∙ ap (λ (p : List Step). i + steps_before s p) (rest_more g c i h)

    -- a step that bears the label ends the count
    pub pass-stop : (g i).label ≡ s → i ≡ w
    pass-stop e = omega (arith, here, before_here s (g i) (rest g c (i + 1)) e)

    -- behind any other it goes on
    pub pass-next : ((g i).label ≡ s → ⊥) → Passed g s w c (i + 1)
    pass-next d = record { within = omega arith; same = omega (arith, here, before-later s (g i) (rest g c (i + 1)) d) }

-- ---- how many they are

-- at most all
pub before-few : (s : ℕ) (p : List Step) → steps_before s p ≤ length p
before-few s [] = omega arith
before-few s (a ∷ p) =
    let r : steps_before s p ≤ length p = before-few s p in
    by_first s a p (λ e n. omega arith) (λ d n. omega arith)

-- fewer where the last step bears the label
pub before-less : (s : ℕ) (p : List Step) → T (ends_in s p) → steps_before s p < length p
before-less s [] ends = absurd ends
before-less s (a ∷ []) ends = omega (arith, before_here s a [] (eqb_yes ends))
before-less s (a ∷ b ∷ p) ends =
    let r : steps_before s (b ∷ p) < length (b ∷ p) = before-less s (b ∷ p) ends in
    by_first s a (b ∷ p) (λ e n. omega arith) (λ d n. omega arith)

-- ---- what stands behind them

-- where fewer steps are left out, one is left that does not bear the label
pub before-foreign : (s n : ℕ) (p : List Step) → n < steps_before s p → T (not (own_behind s n p))
unfolding own_behind
before-foreign s n [] h = absurd (omega arith)
before-foreign s zero (a ∷ p) h =
    not_T (all (λ d. eqb d.label s) (a ∷ p))
    (λ t. let e : a.label ≡ s = eqb_yes (and_l (eqb a.label s) (all (λ d. eqb d.label s) p) t) in omega (arith, before_here s a p e))
before-foreign s (suc n) (a ∷ p) h = by_first s a p (λ e k. absurd (omega arith)) (λ d k. before-foreign s n p (omega arith))

-- the labels of a valid path ascend
pub valid-ascend : (p : List Step) → T (valid_path p) → T (labels_ascend p)
unfolding valid_path
valid-ascend p v = search (and_l, and_r)

-- where labels ascend to one that the first step bears, each step bears it
own-all : (s : ℕ) (a : Step) (p : List Step) → T (labels_ascend (a ∷ p)) → T (ends_in s (a ∷ p)) → a.label ≡ s → T (all (λ d. eqb d.label s) (a ∷ p))
own-all s a [] up ends e = both (eqb a.label s) true (yes_eqb e) tt
own-all s a (b ∷ p) up ends e =
    let low : T (dominates b.label s) = subst (λ (n : ℕ). T (dominates b.label n)) e (and_l (dominates b.label a.label) (labels_ascend (b ∷ p)) up) in
    let more : T (labels_ascend (b ∷ p)) = and_r (dominates b.label a.label) (labels_ascend (b ∷ p)) up in
    let front : T (is_prefix (b ∷ []) (b ∷ p)) = both (same_step b b) true (step-refl b) tt in
    let high : T (dominates s b.label) = prefix-below s b.label (b ∷ []) (b ∷ p) (dominates-lower b.label s low) more ends front (eqb_refl b.label) in
    both (eqb a.label s) (all (λ d. eqb d.label s) (b ∷ p)) (yes_eqb e) (own-all s b p more ends (dominates-antisym b.label s low high))

-- so the steps behind all bear it
pub before-own : (s n : ℕ) (p : List Step) → T (labels_ascend p) → T (ends_in s p) → steps_before s p ≤ n → T (own_behind s n p)
unfolding own_behind
before-own s n [] up ends h = absurd ends
before-own s n (a ∷ []) up ends h = all_drop (λ d. eqb d.label s) n (a ∷ []) (own-all s a [] up ends (eqb_yes ends))
before-own s zero (a ∷ b ∷ p) up ends h = by_first s a (b ∷ p) (λ e k. own-all s a (b ∷ p) up ends e) (λ d k. absurd (omega arith))
before-own s (suc n) (a ∷ b ∷ p) up ends h =
    by_first s a (b ∷ p)
    (λ e k. all_drop (λ d. eqb d.label s) (suc n) (a ∷ b ∷ p) (own-all s a (b ∷ p) up ends e))
    (λ d k. before-own s n (b ∷ p) (and_r (dominates b.label a.label) (labels_ascend (b ∷ p)) up) ends (omega arith))

-- so each longer prefix ends in it
pub before-ends : (s : ℕ) (p : List Step) → T (labels_ascend p) → T (ends_in s p) → (k : ℕ) → steps_before s p < k → k ≤ length p → T (ends_in s (take k p))
before-ends s p up ends k h l = own-ends s (steps_before s p) p k (before-own s (steps_before s p) p up ends (omega arith)) h l
