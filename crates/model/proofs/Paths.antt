-- Paths: equality, prefixes, ascending labels, and path order, a strict total order in which a prefix comes before its
-- extensions and what stands between a path and its extension extends the path.
use mathlib.Core.Path.{◌≡◌, refl, sym, ap, ap₂, ◌∙◌}
use mathlib.Core.Logic.{◌⊎◌, inl, inr}
use mathlib.Core.Bool.{true, false, not, ◌&&◌}
use mathlib.Core.List.Memᴰ
use mathlib.Core.List.{List, [], ◌∷◌, ◌++◌, map}
use Prim.Native.Nat.{ℕ, ◌+◌, ◌≤◌, ◌<◌}
use native.Mathlib.Omega.{arith}
use lib.ListN.{length, length-append}
use lib.Dec.{T, eqb, ltb, eqb_refl}
use mir.Facts.{or_no, leb_yes, eqb_yes, yes_eqb, ltb_yes, ltb_no, T_not}
use Rattle.model.specs.Sets.{precedes}
use Rattle.model.specs.Label.{is_label, dominates}
use Rattle.model.specs.Path.{Step, valid_step, same_step, same_path, is_prefix, prefixes, parent, ends_in, labels_ascend, key, former_key, keys}
use Rattle.model.specs.Lists.{◌∈◌}
use Rattle.model.proofs.Bools.{and_l, and_r, both, not-second}
use Rattle.model.proofs.Members.{map-in, in_map}
use Rattle.model.proofs.Dominance.{dominates-refl, dominates-trans}
use Rattle.model.proofs.Order.{precedes-total, precedes-cancel}

-- ---- equality and prefixes

pub step-eq : (a b : Step) → T (same_step a b) → a ≡ b
unfolding same_step
step-eq a b t =
    let n : a.name ≡ b.name = eqb_yes (search (and_l, and_r)) in
    let l : a.label ≡ b.label = eqb_yes (search (and_l, and_r)) in
    λ i. record { name = n i; label = l i }

pub step-refl : (a : Step) → T (same_step a a)
unfolding same_step
step-refl a = both (eqb a.name a.name) (eqb a.label a.label) (eqb_refl a.name) (eqb_refl a.label)

-- the numbers of a valid step
pub step-ranges : (a : Step) → T (valid_step a) → (1 ≤ a.name) × (a.name ≤ 65535) × (a.label ≤ 31)
unfolding valid_step is_label
step-ranges a t =
    let n : 1 ≤ a.name = leb_yes (search (and_l, and_r)) in
    let m : a.name ≤ 65535 = leb_yes (search (and_l, and_r)) in
    let l : a.label < 32 = ltb_yes (search (and_l, and_r)) in
    (n, m, omega arith)

pub same-eq : (p q : List Step) → T (same_path p q) → p ≡ q
same-eq [] [] t = refl
same-eq [] (b ∷ q) t = absurd t
same-eq (a ∷ p) [] t = absurd t
same-eq (a ∷ p) (b ∷ q) t = ap₂ (λ (x : Step) (y : List Step). x ∷ y) (step-eq a b (and_l (same_step a b) (same_path p q) t)) (same-eq p q (and_r (same_step a b) (same_path p q) t))

pub same_refl : (p : List Step) → T (same_path p p)
same_refl [] = tt
same_refl (a ∷ p) = both (same_step a a) (same_path p p) (step-refl a) (same_refl p)

pub prefix_refl : (p : List Step) → T (is_prefix p p)
prefix_refl [] = tt
prefix_refl (a ∷ p) = both (same_step a a) (is_prefix p p) (step-refl a) (prefix_refl p)

pub prefix_trans : (p q r : List Step) → T (is_prefix p q) → T (is_prefix q r) → T (is_prefix p r)
prefix_trans [] q r s t = tt
prefix_trans (a ∷ p) [] r s t = absurd s
prefix_trans (a ∷ p) (b ∷ q) [] s t = absurd t
prefix_trans (a ∷ p) (b ∷ q) (c ∷ r) s t =
    both (same_step a c) (is_prefix p r)
    (rw (step-eq a b (and_l (same_step a b) (is_prefix p q) s)) (and_l (same_step b c) (is_prefix q r) t))
    (prefix_trans p q r (and_r (same_step a b) (is_prefix p q) s) (and_r (same_step b c) (is_prefix q r) t))

pub parent-prefix : (p : List Step) → T (is_prefix (parent p) p)
parent-prefix [] = tt
parent-prefix (a ∷ []) = tt
parent-prefix (a ∷ b ∷ p) = both (same_step a a) (is_prefix (parent (b ∷ p)) (b ∷ p)) (step-refl a) (parent-prefix (b ∷ p))

pub prefix_parent : (q p : List Step) → T (is_prefix q p) → (q ≡ p) ⊎ T (is_prefix q (parent p))
prefix_parent [] p t = inr tt
prefix_parent (a ∷ q) [] t = absurd t
prefix_parent (a ∷ []) (b ∷ []) t = inl (ap (λ (x : Step). x ∷ []) (step-eq a b (and_l (same_step a b) true t)))
prefix_parent (a ∷ c ∷ q) (b ∷ []) t = absurd (and_r (same_step a b) false t)
prefix_parent (a ∷ q) (b ∷ d ∷ p) t = go (prefix_parent q (d ∷ p) (and_r (same_step a b) (is_prefix q (d ∷ p)) t))
  where
    e : T (same_step a b)
    e = and_l (same_step a b) (is_prefix q (d ∷ p)) t

    go : (q ≡ d ∷ p) ⊎ T (is_prefix q (parent (d ∷ p))) → (a ∷ q ≡ b ∷ d ∷ p) ⊎ T (is_prefix (a ∷ q) (parent (b ∷ d ∷ p)))
    go (inl h) = inl (ap₂ (λ (x : Step) (y : List Step). x ∷ y) (step-eq a b e) h)
    go (inr h) = inr (both (same_step a b) (is_prefix q (parent (d ∷ p))) e h)

pub in-prefixes : (q p : List Step) → q ∈ prefixes p → T (is_prefix q p)
in-prefixes q [] m = absurd (Memᴰ.not-nil m)
in-prefixes q (a ∷ p) m = go (Memᴰ.cases_cons m) (λ x k. in-prefixes x p k)
  where
    go : (q ≡ a ∷ []) ⊎ (q ∈ map (λ r. a ∷ r) (prefixes p)) → ((x : List Step) → x ∈ prefixes p → T (is_prefix x p)) → T (is_prefix q (a ∷ p))
    go (inl e) f = rw e (both (same_step a a) true (step-refl a) tt)
    go (inr k) f = let r = map-in (λ r. a ∷ r) (prefixes p) k in rw r.2 (both (same_step a a) (is_prefix r.0 p) (step-refl a) (f r.0 r.1))

pub prefixes-in : (a : Step) (q p : List Step) → T (is_prefix (a ∷ q) p) → a ∷ q ∈ prefixes p
prefixes-in a q [] t = absurd t
prefixes-in a [] (b ∷ p) t = Memᴰ.head (ap (λ (x : Step). x ∷ []) (step-eq a b (and_l (same_step a b) true t)))
prefixes-in a (c ∷ q) (b ∷ p) t =
    let e : a ≡ b = step-eq a b (and_l (same_step a b) (is_prefix (c ∷ q) p) t) in
    let m : c ∷ q ∈ prefixes p = prefixes-in c q p (and_r (same_step a b) (is_prefix (c ∷ q) p) t) in
    rw e (Memᴰ.tail (in_map (λ r. b ∷ r) (prefixes p) m))

-- ---- labels ascend along a path

-- the last label dominates the first
first_below : (m : ℕ) (a : Step) (r : List Step) → T (is_label m) → T (labels_ascend (a ∷ r)) → T (ends_in m (a ∷ r)) → T (dominates m a.label)
first_below m a [] h s t = let l : a.label ≡ m = eqb_yes t in rw l (dominates-refl m h)
first_below m a (b ∷ r) h s t =
    dominates-trans m b.label a.label
    (first_below m b r h (and_r (dominates b.label a.label) (labels_ascend (b ∷ r)) s) t)
    (and_l (dominates b.label a.label) (labels_ascend (b ∷ r)) s)

-- so a path's label dominates that of each of its prefixes
pub prefix-below : (m n : ℕ) (q r : List Step) → T (is_label m) → T (labels_ascend r) → T (ends_in m r) → T (is_prefix q r) → T (ends_in n q)
    → T (dominates m n)
prefix-below m n [] r h c t b s = absurd s
prefix-below m n (a ∷ q) [] h c t b s = absurd b
prefix-below m n (a ∷ []) (a' ∷ r) h c t b s =
    let e : a ≡ a' = step-eq a a' (and_l (same_step a a') true b) in
    let l : a.label ≡ n = eqb_yes s in
    rw (← l, e) (first_below m a' r h c t)
prefix-below m n (a ∷ d ∷ q) (a' ∷ []) h c t b s = absurd (and_r (same_step a a') false b)
prefix-below m n (a ∷ d ∷ q) (a' ∷ d' ∷ r) h c t b s =
    prefix-below m n (d ∷ q) (d' ∷ r) h (and_r (dominates d'.label a'.label) (labels_ascend (d' ∷ r)) c) t
    (and_r (same_step a a') (is_prefix (d ∷ q) (d' ∷ r)) b) s

-- ---- path order

-- what a key must have to order paths: it tells steps apart, and all keys have one length, not 0
pub record Keyed (k : Step → List ℕ) : Type 0 where
  pub injective : (a b : Step) → k a ≡ k b → a ≡ b
  pub width : (a b : Step) → length (k a) ≡ length (k b)
  pub filled : (a : Step) → 0 < length (k a)

pub key-keyed : Keyed key
unfolding key
key-keyed = record {
  injective = λ a b e. let n : a.name ≡ b.name = cc in let l : a.label ≡ b.label = cc in λ i. record { name = n i; label = l i };
  width = λ a b. refl;
  filled = λ a. omega arith;
}

pub former-keyed : Keyed former_key
unfolding former_key
former-keyed = record {
  injective = λ a b e. let n : a.name ≡ b.name = cc in let l : a.label ≡ b.label = cc in λ i. record { name = n i; label = l i };
  width = λ a b. refl;
  filled = λ a. omega arith;
}

-- equal lists that begin with parts of one length have equal parts
parts-eq : (x y u v : List ℕ) → length x ≡ length y → x ++ u ≡ y ++ v → (x ≡ y) × (u ≡ v)
parts-eq [] [] u v l e = (refl, e)
parts-eq [] (b ∷ y) u v l e = absurd (omega arith)
parts-eq (a ∷ x) [] u v l e = absurd (omega arith)
parts-eq (a ∷ x) (b ∷ y) u v l e =
    let h : a ≡ b = cc in
    let t : x ++ u ≡ y ++ v = cc in
    let r : (x ≡ y) × (u ≡ v) = parts-eq x y u v (omega arith) t in
    (ap₂ (λ (c : ℕ) (z : List ℕ). c ∷ z) h r.0, r.1)

-- the empty list is before any other
before-filled : (x r : List ℕ) → 0 < length x → T (precedes [] (x ++ r))
before-filled [] r h = absurd (omega arith)
before-filled (a ∷ x) r h = tt

-- a list that is not before one nor after another with the same beginning has that beginning
squeezed : (x y u v w : List ℕ) → length x ≡ length y → T (not (precedes (y ++ v) (x ++ u))) → T (not (precedes (x ++ w) (y ++ v)))
    → (x ≡ y) × T (not (precedes v u)) × T (not (precedes w v))
squeezed [] [] u v w l s t = (refl, s, t)
squeezed [] (b ∷ y) u v w l s t = absurd (omega arith)
squeezed (a ∷ x) [] u v w l s t = absurd (omega arith)
squeezed (a ∷ x) (b ∷ y) u v w l s t =
    let s' = or_no (ltb b a) (eqb b a && precedes (y ++ v) (x ++ u)) s in
    let t' = or_no (ltb a b) (eqb a b && precedes (x ++ w) (y ++ v)) t in
    let h : a ≤ b = ltb_no s'.0 in
    let k : b ≤ a = ltb_no t'.0 in
    let e : a ≡ b = omega arith in
    let f : b ≡ a = omega arith in
    let r = squeezed x y u v w (omega arith) (not-second (eqb b a) (precedes (y ++ v) (x ++ u)) (yes_eqb f) s'.1)
    (not-second (eqb a b) (precedes (x ++ w) (y ++ v)) (yes_eqb e) t'.1) in
    (ap₂ (λ (c : ℕ) (z : List ℕ). c ∷ z) e r.0, r.1, r.2)

-- paths by the order of a key
module _ (k : Step → List ℕ) (good : Keyed k) where
  no_key : (a : Step) (r : List ℕ) → [] ≡ k a ++ r → ⊥
  no_key a r e =
      let f : 0 < length (k a) = good.filled a in
      let g : 0 ≡ length (k a) + length r = ap length e ∙ length-append (k a) r in
      omega arith

  pub keys-injective : (p q : List Step) → keys k p ≡ keys k q → p ≡ q
  keys-injective [] [] e = refl
  keys-injective [] (b ∷ q) e = absurd (no_key b (keys k q) e)
  keys-injective (a ∷ p) [] e = absurd (no_key a (keys k p) (sym e))
  keys-injective (a ∷ p) (b ∷ q) e =
      let r : (k a ≡ k b) × (keys k p ≡ keys k q) = parts-eq (k a) (k b) (keys k p) (keys k q) (good.width a b) e in
      ap₂ (λ (x : Step) (y : List Step). x ∷ y) (good.injective a b r.0) (keys-injective p q r.1)

  -- the order is strict (`precedes-irrefl`, `precedes-trans`) and total
  pub order-total : (p q : List Step) → T (not (precedes (keys k p) (keys k q))) → T (not (precedes (keys k q) (keys k p))) → p ≡ q
  order-total p q s t = keys-injective p q (precedes-total (keys k p) (keys k q) s t)

  pub prefix-first : (p q : List Step) → T (is_prefix p q) → (p ≡ q → ⊥) → T (precedes (keys k p) (keys k q))
  prefix-first [] [] t d = absurd (d refl)
  prefix-first [] (b ∷ q) t d = before-filled (k b) (keys k q) (good.filled b)
  prefix-first (a ∷ p) [] t d = absurd t
  prefix-first (a ∷ p) (b ∷ q) t d =
      let e : a ≡ b = step-eq a b (and_l (same_step a b) (is_prefix p q) t) in
      rw (← e)
      (rw (precedes-cancel (k a) (keys k p) (keys k q))
      (prefix-first p q (and_r (same_step a b) (is_prefix p q) t) (λ h. d (ap₂ (λ (x : Step) (y : List Step). x ∷ y) e h))))

  -- what is neither before a path nor after an extension of it extends it
  pub between-extends : (p q r : List Step) → T (is_prefix p r) → T (not (precedes (keys k q) (keys k p)))
      → T (not (precedes (keys k r) (keys k q))) → T (is_prefix p q)
  between-extends [] q r t s u = tt
  between-extends (a ∷ p) [] r t s u = absurd (T_not (precedes [] (k a ++ keys k p)) (before-filled (k a) (keys k p) (good.filled a)) s)
  between-extends (a ∷ p) (b ∷ q) [] t s u = absurd t
  between-extends (a ∷ p) (b ∷ q) (c ∷ r) t s u =
      let e : a ≡ c = step-eq a c (and_l (same_step a c) (is_prefix p r) t) in
      let z = squeezed (k a) (k b) (keys k p) (keys k q) (keys k r) (good.width a b) s (rw (← e) at u) in
      both (same_step a b) (is_prefix p q) (rw (good.injective a b z.0) (step-refl b))
      (between-extends p q r (and_r (same_step a c) (is_prefix p r) t) z.1 z.2)
