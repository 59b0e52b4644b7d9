-- Path order in the document's words: of valid steps the key's order is `step_before`, and paths are compared step by step.
use mathlib.Core.Path.{◌≡◌, refl, sym, ap, ap₂, ◌∙◌}
use mathlib.Core.Logic.{◌⊎◌, inl, inr}
use mathlib.Core.Bool.{Bool, false, not, ◌&&◌, ◌||◌, or-false}
use mathlib.Core.List.{List, [], ◌∷◌, ◌++◌}
use Prim.Native.Nat.{ℕ, ◌-◌, ◌/◌, ◌%◌, ◌<◌}
use native.Mathlib.Omega.{arith}
use lib.Dec.{T, eqb, ltb}
use mir.Facts.{or_yes, not_T, T_not, eqb_yes, yes_eqb, ltb_yes, yes_ltb}
use Rattle.model.specs.Lists.{all}
use Rattle.model.specs.Label.{level, compartments}
use Rattle.model.specs.Sets.{precedes}
use Rattle.model.specs.Path.{Step, same_step, valid_step, step_before, path_precedes, key, path_rank}
use Rattle.model.proofs.Bools.{and_l, and_r, both, or_l, decide, is_true, is_false, same_test}
use Rattle.model.proofs.Order.{precedes-irrefl, precedes-cancel, precedes-differ}
use Rattle.model.proofs.Paths.{step-eq, step-refl, step-ranges, key-keyed}

-- of labels the key's second number tells the level from high to low, and its third, of one level, the compartments
module _ (l m : ℕ) (h : l < 32) (k : m < 32) where
  level-down : ltb (3 - level l) (3 - level m) ≡ ltb (level m) (level l)
  unfolding level
  level-down =
      same_test (ltb (3 - l / 8) (3 - m / 8)) (ltb (m / 8) (l / 8))
      (λ t. let e : 3 - l / 8 < 3 - m / 8 = ltb_yes t in let d : m / 8 < l / 8 = omega arith in yes_ltb d)
      (λ t. let e : m / 8 < l / 8 = ltb_yes t in let d : 3 - l / 8 < 3 - m / 8 = omega arith in yes_ltb d)

  level-same : eqb (3 - level l) (3 - level m) ≡ eqb (level l) (level m)
  unfolding level
  level-same =
      same_test (eqb (3 - l / 8) (3 - m / 8)) (eqb (l / 8) (m / 8))
      (λ t. let e : 3 - l / 8 ≡ 3 - m / 8 = eqb_yes t in let d : l / 8 ≡ m / 8 = omega arith in yes_eqb d)
      (λ t. let e : l / 8 ≡ m / 8 = eqb_yes t in let d : 3 - l / 8 ≡ 3 - m / 8 = ap (λ (x : ℕ). 3 - x) e in yes_eqb d)

  number_same : (eqb (3 - level l) (3 - level m) && (ltb l m || (eqb l m && false))) ≡ (eqb (level l) (level m) && ltb (compartments l) (compartments m))
  unfolding level compartments
  number_same =
      ap (λ (t : Bool). t && (ltb l m || (eqb l m && false))) level-same
      ∙ same_test (eqb (l / 8) (m / 8) && (ltb l m || (eqb l m && false))) (eqb (l / 8) (m / 8) && ltb (l % 8) (m % 8))
      (λ t.
      let e : l / 8 ≡ m / 8 = eqb_yes (and_l (eqb (l / 8) (m / 8)) (ltb l m || (eqb l m && false)) t) in
      let d : l < m = less (or_yes (ltb l m) (eqb l m && false) (and_r (eqb (l / 8) (m / 8)) (ltb l m || (eqb l m && false)) t)) in
      let c : l % 8 < m % 8 = omega arith in
      both (eqb (l / 8) (m / 8)) (ltb (l % 8) (m % 8)) (yes_eqb e) (yes_ltb c))
      (λ t.
      let e : l / 8 ≡ m / 8 = eqb_yes (and_l (eqb (l / 8) (m / 8)) (ltb (l % 8) (m % 8)) t) in
      let c : l % 8 < m % 8 = ltb_yes (and_r (eqb (l / 8) (m / 8)) (ltb (l % 8) (m % 8)) t) in
      let d : l < m = omega arith in
      both (eqb (l / 8) (m / 8)) (ltb l m || (eqb l m && false)) (yes_eqb e) (or_l (ltb l m) (eqb l m && false) (yes_ltb d)))
    where
      less : T (ltb l m) ⊎ T (eqb l m && false) → l < m
      less (inl t) = ltb_yes t
      less (inr t) = absurd (and_r (eqb l m) false t)

-- steps of labels
key-order : (a b : Step) → a.label < 32 → b.label < 32 → precedes (key a) (key b) ≡ step_before a b
unfolding key step_before
key-order a b h k =
    ap (λ (t : Bool). ltb a.name b.name || (eqb a.name b.name && t))
    (ap₂ (λ (x y : Bool). x || y) (level-down a.label b.label h k) (number_same a.label b.label h k))

-- paths of valid steps: the order of ranks is that of the document
pub rank-order : (p q : List Step) → T (all valid_step p) → T (all valid_step q) → precedes (path_rank p) (path_rank q) ≡ path_precedes p q
unfolding key
rank-order [] [] s t = refl
rank-order [] (b ∷ q) s t = refl
rank-order (a ∷ p) [] s t = refl
rank-order (a ∷ p) (b ∷ q) s t =
    decide (same_step a b)
    (λ (e : T (same_step a b)). same e (rank-order p q (and_r (valid_step a) (all valid_step p) s) (and_r (valid_step b) (all valid_step q) t)))
    (λ (e : T (not (same_step a b))).
    let f : same_step a b ≡ false = is_false (same_step a b) e in
    precedes-differ (key a) (key b) (path_rank p) (path_rank q) (key-keyed.width a b)
    (λ k. T_not (same_step a b) (rw (key-keyed.injective a b k) (step-refl b)) e)
    ∙ order
    ∙ rw f (sym (or-false (step_before a b))))
  where
    order : precedes (key a) (key b) ≡ step_before a b
    order = key-order a b (omega (arith, (step-ranges a (and_l (valid_step a) (all valid_step p) s)).2)) (omega (arith, (step-ranges b (and_l (valid_step b) (all valid_step q) t)).2))

    same : T (same_step a b) → precedes (path_rank p) (path_rank q) ≡ path_precedes p q → precedes (key a ++ path_rank p) (key b ++ path_rank q) ≡ (step_before a b || (same_step a b && path_precedes p q))
    same e r =
        let g : a ≡ b = step-eq a b e in
        let none : step_before b b ≡ false = sym (rw g at order) ∙ is_false (precedes (key b) (key b)) (not_T (precedes (key b) (key b)) (precedes-irrefl (key b))) in
        rw (g, none, is_true (same_step b b) (step-refl b)) (precedes-cancel (key b) (path_rank p) (path_rank q) ∙ r)
