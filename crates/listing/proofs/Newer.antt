-- What is new of a path after another: the prefixes beyond the steps that the two share.
use mathlib.Core.Path.{◌≡◌, refl, sym, ap, subst, ◌∙◌}
use mathlib.Core.Bool.{Bool, true, false, not, cond, ◌&&◌}
use mathlib.Core.List.{List, [], ◌∷◌, map}
use Prim.Native.Nat.{ℕ, suc, ◌-◌, ◌≤◌, ◌<◌}
use native.Mathlib.Omega.{arith}
use lib.ListN.{length, drop, length-drop}
use lib.Seq.{drop-nil}
use lib.Dec.{T}
use mir.Facts.{eqb_yes}
use Rattle.model.specs.Lists.{keep}
use Rattle.model.specs.Sets.{precedes}
use Rattle.model.specs.Path.{Step, same_step, is_prefix, prefixes, parent, key, path_rank}
use Rattle.model.proofs.Bools.{decide, cond_yes, cond_no, is_true, is_false}
use Rattle.model.proofs.Order.{precedes-cancel}
use Rattle.model.proofs.Paths.{step-eq, step-refl, key-keyed, prefix-first}
use Rattle.model.proofs.Lists.{drop-map}
use Rattle.model.proofs.Prefixes.{prefix-length, length-prefixes, parent_above, parent_shorter}
use Rattle.path.specs.Common.{common}
use Rattle.path.proofs.Common.{before-none, common-prefix}
use Rattle.listing.specs.Walk.{newer}

-- ---- lists

keep-map : {A B : Type 0} (t : B → Bool) (f : A → B) (l : List A) → keep t (map f l) ≡ map f (keep (λ x. t (f x)) l)
keep-map t f [] = refl
keep-map t f (x ∷ l) =
    decide (t (f x))
    (λ (h : T (t (f x))).
    cond_yes (t (f x)) (f x ∷ keep t (map f l)) (keep t (map f l)) h
    ∙ ap (λ z. f x ∷ z) (keep-map t f l)
    ∙ ap (map f) (sym (cond_yes (t (f x)) (x ∷ keep (λ y. t (f y)) l) (keep (λ y. t (f y)) l) h)))
    (λ (h : T (not (t (f x)))).
    cond_no (t (f x)) (f x ∷ keep t (map f l)) (keep t (map f l)) h
    ∙ keep-map t f l
    ∙ ap (map f) (sym (cond_no (t (f x)) (x ∷ keep (λ y. t (f y)) l) (keep (λ y. t (f y)) l) h)))

keep-ext : {A : Type 0} (s t : A → Bool) (l : List A) → ((x : A) → s x ≡ t x) → keep s l ≡ keep t l
keep-ext s t [] h = refl
keep-ext s t (x ∷ l) h = rw (h x, keep-ext s t l h)

keep_all : {A : Type 0} (l : List A) → keep (λ x. true) l ≡ l
keep_all [] = refl
keep_all (x ∷ l) = ap (λ z. x ∷ z) (keep_all l)

-- ---- what is new, by the steps shared

turned : (a b : Step) → T (same_step a b) → T (same_step b a)
turned a b t = let e : a ≡ b = step-eq a b t in rw e (step-refl b)

turned-not : (a b : Step) → T (not (same_step a b)) → same_step b a ≡ false
turned-not a b t =
    decide (same_step b a)
    (λ (s : T (same_step b a)). let e : same_step a b ≡ true = is_true (same_step a b) (turned b a s) in absurd (rw e at t))
    (λ (s : T (not (same_step b a))). is_false (same_step b a) s)

module _ (a b : Step) (r : List Step) (l : List (List Step)) where
  abbrev tail : List (List Step)
  tail = keep (λ x. not (is_prefix x (a ∷ r))) (map (λ x. b ∷ x) l)

  tail-same : same_step b a ≡ true → tail ≡ map (λ x. b ∷ x) (keep (λ x. not (is_prefix x r)) l)
  tail-same e =
      keep-map (λ x. not (is_prefix x (a ∷ r))) (λ x. b ∷ x) l
      ∙ ap (map (λ x. b ∷ x)) (keep-ext (λ x. not (same_step b a && is_prefix x r)) (λ x. not (is_prefix x r)) l (λ x. rw e))

  tail-differ : same_step b a ≡ false → tail ≡ map (λ x. b ∷ x) l
  tail-differ e =
      keep-map (λ x. not (is_prefix x (a ∷ r))) (λ x. b ∷ x) l
      ∙ ap (map (λ x. b ∷ x)) (keep-ext (λ x. not (same_step b a && is_prefix x r)) (λ x. true) l (λ x. rw e) ∙ keep_all l)

-- what is new are the prefixes longer than what is shared
pub newer-drop : (r q : List Step) → newer r q ≡ drop (common r q) (prefixes q)
newer-drop r [] = sym (drop-nil (common r []))
newer-drop [] (b ∷ q) =
    ap (λ z. (b ∷ []) ∷ z)
    (keep-map (λ x. not (is_prefix x [])) (λ x. b ∷ x) (prefixes q) ∙ ap (map (λ x. b ∷ x)) (keep_all (prefixes q)))
newer-drop (a ∷ r) (b ∷ q) =
    decide (same_step a b)
    (λ (s : T (same_step a b)).
    let e : same_step b a ≡ true = is_true (same_step b a) (turned a b s) in
    ap (λ (t : Bool). cond (not (t && true)) ((b ∷ []) ∷ tail a b r (prefixes q)) (tail a b r (prefixes q))) e
    ∙ tail-same a b r (prefixes q) e
    ∙ ap (map (λ x. b ∷ x)) (newer-drop r q)
    ∙ sym (drop-map (λ x. b ∷ x) (common r q) (prefixes q))
    ∙ ap (λ (k : ℕ). drop k (prefixes (b ∷ q))) (sym (cond_yes (same_step a b) (suc (common r q)) 0 s)))
    (λ (s : T (not (same_step a b))).
    let e : same_step b a ≡ false = turned-not a b s in
    ap (λ (t : Bool). cond (not (t && true)) ((b ∷ []) ∷ tail a b r (prefixes q)) (tail a b r (prefixes q))) e
    ∙ ap (λ (z : List (List Step)). (b ∷ []) ∷ z) (tail-differ a b r (prefixes q) e)
    ∙ ap (λ (k : ℕ). drop k (prefixes (b ∷ q))) (sym (cond_no (same_step a b) (suc (common r q)) 0 s)))

pub length-newer : (r q : List Step) → length (newer r q) ≡ length q - common r q
length-newer r q =
    ap length (newer-drop r q)
    ∙ length-drop (common r q) (prefixes q)
    ∙ ap (λ (n : ℕ). n - common r q) (length-prefixes q)

-- ---- something is new: the path's own line at least

-- a path that comes after r has a step that r does not share
pub common-less : (r q : List Step) → T (precedes (path_rank r) (path_rank q)) → common r q < length q
common-less [] [] t = absurd t
common-less (a ∷ r) [] t = absurd (subst T (before-none key (a ∷ r)) t)
common-less [] (b ∷ q) t = omega arith
common-less (a ∷ r) (b ∷ q) t =
    decide (same_step a b)
    (λ (s : T (same_step a b)).
    let e : common (a ∷ r) (b ∷ q) ≡ suc (common r q) = cond_yes (same_step a b) (suc (common r q)) 0 s in
    let f : precedes (path_rank (a ∷ r)) (path_rank (b ∷ q)) ≡ precedes (path_rank (b ∷ r)) (path_rank (b ∷ q)) = ap (λ (x : Step). precedes (path_rank (x ∷ r)) (path_rank (b ∷ q))) (step-eq a b s) in
    let i : common r q < length q = common-less r q (subst T (f ∙ precedes-cancel (key b) (path_rank r) (path_rank q)) t) in
    omega arith)
    (λ (s : T (not (same_step a b))).
    let e : common (a ∷ r) (b ∷ q) ≡ 0 = cond_no (same_step a b) (suc (common r q)) 0 s in
    omega arith)

-- a prefix shares all its steps
pub prefix-common : (p q : List Step) → T (is_prefix p q) → common p q ≡ length p
prefix-common p q t = eqb_yes (subst T (common-prefix p q) t)

-- the parent of p, before a path that is p or extends it
module _ (p q : List Step) (t : T (is_prefix p q)) where
  pub parent-common : common (parent p) q ≡ length (parent p)
  parent-common = prefix-common (parent p) q (parent_above p q t)

  pub parent-first : 1 ≤ length q → T (precedes (path_rank (parent p)) (path_rank q))
  parent-first h =
      prefix-first key key-keyed (parent p) q (parent_above p q t)
      (λ e. let k : length (parent p) < length q = parent_shorter p q t h in let l : length (parent p) ≡ length q = ap length e in omega arith)

  -- q is no prefix of the parent
  pub parent-not : 1 ≤ length q → T (is_prefix q (parent p)) → ⊥
  parent-not h s =
      let k : length (parent p) < length q = parent_shorter p q t h in
      let l : length q ≤ length (parent p) = prefix-length q (parent p) s in
      omega arith
