-- In a set of valid elements of label n, ascending order, by any key, and the prefixes of the own label come to each path following
-- the one before: its parent, if it ends in n, is then a prefix of the path before.
use mathlib.Core.Path.{◌≡◌, refl, ap, ◌∙◌}
use mathlib.Core.Logic.{◌⊎◌, inl, inr, ⊎_elim}
use mathlib.Core.Bool.{false, not, ◌&&◌, ◌||◌}
use mathlib.Core.List.Memᴰ
use mathlib.Core.List.{List, [], ◌∷◌, ◌++◌, append_assoc}
use Prim.Native.Nat.{ℕ, ◌<◌}
use native.Mathlib.Omega.{arith}
use lib.ListN.{length}
use lib.Dec.{T, leb, eqb_refl}
use mir.Facts.{or_yes, T_not, not_T}
use Rattle.model.specs.Lists.{all, ◌∈◌}
use Rattle.model.specs.Sets.{ascending, sorted, ahead}
use Rattle.model.specs.Label.{is_label, dominates}
use Rattle.model.specs.Path.{Step, same_step, is_prefix, parent, ends_in, labels_ascend, valid_path, keys}
use Rattle.model.specs.Element.{Element, valid_element, contains, closed}
use Rattle.model.proofs.Bools.{and_l, and_r, both, or_l, or_r, decide, same_test}
use Rattle.model.proofs.Members.{all_in, in-front, in-back}
use Rattle.model.proofs.Dominance.{dominates-lower, dominates-antisym}
use Rattle.model.proofs.Order.{precedes-irrefl, precedes-trans, precedes-asym, ascending-sorted}
use Rattle.model.proofs.Paths.{step-eq, prefix_trans, prefix_parent, prefix-below, Keyed, prefix-first, between-extends, parent-prefix}
use Rattle.model.proofs.Sets.{contains-in, in-contains, Closed, closed_facts, facts-closed}
use Rattle.path.specs.Common.{is_before_by}
use Rattle.path.proofs.Common.{before-some}
use Rattle.partition.specs.Linked.{may_follow, linked}

-- ---- parents

-- a parent is shorter
parent_shorter : (a : Step) (p : List Step) → length (parent (a ∷ p)) < length (a ∷ p)
parent_shorter a [] = omega arith
parent_shorter a (b ∷ p) = let h : length (parent (b ∷ p)) < length (b ∷ p) = parent_shorter b p in omega arith

-- a path but the root ends in some label
ends_some : (a : Step) (p : List Step) → (m : ℕ) × T (ends_in m (a ∷ p))
ends_some a [] = (a.label, eqb_refl a.label)
ends_some a (b ∷ p) = ends_some b p

-- only the root is a prefix of the root, and it ends in no label
root_ends : (n : ℕ) (q : List Step) → T (is_prefix q []) → T (ends_in n q) → ⊥
root_ends n [] b s = s
root_ends n (a ∷ q) b s = b

-- labels ascend along a prefix too
ascend-prefix : (r p : List Step) → T (is_prefix r p) → T (labels_ascend p) → T (labels_ascend r)
ascend-prefix [] p t s = tt
ascend-prefix (a ∷ r) [] t s = absurd t
ascend-prefix (a ∷ []) (b ∷ p) t s = tt
ascend-prefix (a ∷ c ∷ r) (b ∷ []) t s = absurd (and_r (same_step a b) false t)
ascend-prefix (a ∷ c ∷ r) (b ∷ d ∷ p) t s =
    let e : a ≡ b = step-eq a b (and_l (same_step a b) (is_prefix (c ∷ r) (d ∷ p)) t) in
    let u : T (is_prefix (c ∷ r) (d ∷ p)) = and_r (same_step a b) (is_prefix (c ∷ r) (d ∷ p)) t in
    let f : c ≡ d = step-eq c d (and_l (same_step c d) (is_prefix r p) u) in
    both (dominates c.label a.label) (labels_ascend (c ∷ r))
    (rw (e, f) (and_l (dominates d.label b.label) (labels_ascend (d ∷ p)) s))
    (ascend-prefix (c ∷ r) (d ∷ p) u (and_r (dominates d.label b.label) (labels_ascend (d ∷ p)) s))

-- where a prefix of a path's parent ends in the path's own label, so does the parent: the labels between are the same
own-parent : (n : ℕ) (q p : List Step) → T (is_label n) → T (labels_ascend p) → T (ends_in n p) → T (ends_in n q) → T (is_prefix q (parent p))
    → T (ends_in n (parent p))
own-parent n q p l s t u h = go (parent p) (parent-prefix p) h
  where
    go : (r : List Step) → T (is_prefix r p) → T (is_prefix q r) → T (ends_in n r)
    go [] b k = absurd (root_ends n q k u)
    go (a ∷ r) b k =
        let e : (m : ℕ) × T (ends_in m (a ∷ r)) = ends_some a r in
        let m : ℕ = e.0 in
        let up : T (dominates n m) = prefix-below n m (a ∷ r) p l s t b e.1 in
        let down : T (dominates m n) =
        prefix-below m n q (a ∷ r) (dominates-lower n m up) (ascend-prefix (a ∷ r) p b s) e.1 k u in
        rw (dominates-antisym n m up down) e.1

-- ---- linked lists ascend, and have the prefixes

-- the set has each prefix of p that ends in n
abbrev Covers : ℕ → List Element → List Step → Type 0
Covers n es p = (q : List Step) → T (is_prefix q p) → T (ends_in n q) → T (contains es q)

contains-front : (es ds : List Element) (q : List Step) → T (contains es q) → T (contains (es ++ ds) q)
contains-front es ds q t =
    let r : (e : Element) × (e ∈ es) × (q ≡ e.path) = contains-in es q t in
    rw r.2 (in-contains (es ++ ds) r.0 (in-front es ds r.1))

-- an element's rank in the order of a key
abbrev pub rank_by : (Step → List ℕ) → Element → List ℕ
rank_by k e = keys k e.path

module _ (k : Step → List ℕ) (n : ℕ) where
  linked-ascends : (p : List Step) (es : List Element) → T (linked k n p es) → T (ascending (rank_by k) es)
  unfolding may_follow
  linked-ascends p [] t = tt
  linked-ascends p (e ∷ []) t = tt
  linked-ascends p (e ∷ d ∷ es) t =
      let r : T (linked k n e.path (d ∷ es)) = and_r (may_follow k n p e.path) (linked k n e.path (d ∷ es)) t in
      both (is_before_by k e.path d.path) (ascending (rank_by k) (d ∷ es))
      (and_l (is_before_by k e.path d.path) _ (and_l (may_follow k n e.path d.path) (linked k n d.path es) r))
      (linked-ascends e.path (d ∷ es) r)

  module _ (label : T (is_label n)) where
    -- a set that covers what stands before e covers e, with e
    cover-next : (front : List Element) (p : List Step) (e : Element) → T (valid_element n e) → Covers n front p → T (may_follow k n p e.path)
        → Covers n (front ++ (e ∷ [])) e.path
    unfolding valid_element valid_path may_follow
    cover-next front p e v f t q b s = go (prefix_parent q e.path b)
      where
        -- a prefix of the parent is one of p
        near : T (is_prefix q (parent e.path)) → T (not (ends_in n (parent e.path))) ⊎ T (is_prefix (parent e.path) p) → T (contains (front ++ (e ∷ [])) q)
        near h (inl i) =
            absurd (T_not (ends_in n (parent e.path))
            (own-parent n q e.path label (search (and_l, and_r)) (search (and_l, and_r)) s h) i)
        near h (inr i) = contains-front front (e ∷ []) q (f q (prefix_trans q (parent e.path) p h i) s)

        go : (q ≡ e.path) ⊎ T (is_prefix q (parent e.path)) → T (contains (front ++ (e ∷ [])) q)
        go (inl h) = rw h (in-contains (front ++ (e ∷ [])) e (in-back front (e ∷ []) (Memᴰ.head refl)))
        go (inr h) =
            near h (or_yes (not (ends_in n (parent e.path))) (is_prefix (parent e.path) p)
            (and_r (is_before_by k p e.path) (not (ends_in n (parent e.path)) || is_prefix (parent e.path) p) t))

    -- so each element's prefixes are there, whatever stands before
    linked-covers : (front : List Element) (p : List Step) (es : List Element) → T (all (valid_element n) es) → Covers n front p → T (linked k n p es)
        → (x : Element) → x ∈ es → Covers n (front ++ es) x.path
    linked-covers front p [] v f t x m = absurd (Memᴰ.not-nil m)
    linked-covers front p (e ∷ es) v f t x m =
        let here : Covers n (front ++ (e ∷ [])) e.path =
        cover-next front p e (and_l (valid_element n e) (all (valid_element n) es) v) f (and_l (may_follow k n p e.path) (linked k n e.path es) t) in
        rw (← (append_assoc front (e ∷ []) es))
        (⊎_elim
        (λ (h : x ≡ e) q b s. contains-front (front ++ (e ∷ [])) es q (here q (rw h at b) s))
        (linked-covers (front ++ (e ∷ [])) e.path es (and_r (valid_element n e) (all (valid_element n) es) v) here (and_r (may_follow k n p e.path) (linked k n e.path es) t) x)
        (Memᴰ.cases_cons m))

-- ---- and the other way

-- where a parent ends in a label, it is not the path
parent-differs : (n : ℕ) (p : List Step) → T (ends_in n (parent p)) → parent p ≡ p → ⊥
parent-differs n [] t e = t
parent-differs n (a ∷ p) t e =
    let h : length (parent (a ∷ p)) < length (a ∷ p) = parent_shorter a p in
    let i : length (parent (a ∷ p)) ≡ length (a ∷ p) = ap length e in
    omega arith

-- in a whole set, each member is still to come or does not stand behind p, in the order of a key
abbrev Passed : (Step → List ℕ) → List Element → List Step → List Element → Type 0
Passed k whole p es = (d : Element) → d ∈ whole → (d ∈ es) ⊎ T (not (is_before_by k p d.path))

module _ (k : Step → List ℕ) (good : Keyed k) (n : ℕ) (whole : List Element) (c : Closed n whole) where
  -- e's parent stands in the set before e, so it does not stand behind p
  parent-passed : (p : List Step) (e : Element) (es : List Element) → e ∈ whole → T (ahead (rank_by k) e es) → Passed k whole p (e ∷ es)
      → T (is_before_by k p e.path) → T (ends_in n (parent e.path)) → T (is_prefix (parent e.path) p)
  parent-passed p e es m a f b t =
      let r : (d : Element) × (d ∈ whole) × (q ≡ d.path) = contains-in whole q (c e m q (parent-prefix e.path) t) in
      between-extends k good q p e.path (parent-prefix e.path) (rw r.2 (go r.0 r.2 (f r.0 r.1))) (precedes-asym (keys k p) (keys k e.path) b)
    where
      q : List Step
      q = parent e.path

      before : T (is_before_by k q e.path)
      before = prefix-first k good q e.path (parent-prefix e.path) (parent-differs n e.path t)

      -- q is not e's path, nor a later one
      later : (d : Element) → q ≡ d.path → (d ≡ e) ⊎ (d ∈ es) → ⊥
      later d h (inl i) = precedes-irrefl (keys k e.path) (rw (h ∙ ap (λ (x : Element). x.path) i) at before)
      later d h (inr i) =
          precedes-irrefl (keys k q)
          (precedes-trans (keys k q) (keys k e.path) (keys k q) before (rw h (all_in (λ x. is_before_by k e.path x.path) es a i)))

      go : (d : Element) → q ≡ d.path → (d ∈ e ∷ es) ⊎ T (not (is_before_by k p d.path)) → T (not (is_before_by k p d.path))
      go d h (inl i) = absurd (later d h (Memᴰ.cases_cons i))
      go d h (inr i) = i

  closed-linked : (p : List Step) (es : List Element) → ((d : Element) → d ∈ es → d ∈ whole) → Passed k whole p es → T (sorted (rank_by k) es)
      → ((d : Element) → d ∈ es → T (is_before_by k p d.path)) → T (linked k n p es)
  unfolding may_follow
  closed-linked p [] w f s b = tt
  closed-linked p (e ∷ es) w f s b =
      let here : e ∈ e ∷ es = Memᴰ.head refl in
      let a : T (ahead (rank_by k) e es) = and_l (ahead (rank_by k) e es) (sorted (rank_by k) es) s in
      let be : T (is_before_by k p e.path) = b e here in
      both (may_follow k n p e.path) (linked k n e.path es)
      (both (is_before_by k p e.path) (not (ends_in n (parent e.path)) || is_prefix (parent e.path) p) be
      (decide (ends_in n (parent e.path))
      (λ (t : T (ends_in n (parent e.path))).
      or_r (not (ends_in n (parent e.path))) (is_prefix (parent e.path) p) (parent-passed p e es (w e here) a f be t))
      (λ (t : T (not (ends_in n (parent e.path)))). or_l (not (ends_in n (parent e.path))) (is_prefix (parent e.path) p) t)))
      (closed-linked e.path es (λ d i. w d (Memᴰ.tail i)) (λ d i. passed d (f d i)) (and_r (ahead (rank_by k) e es) (sorted (rank_by k) es) s)
      (λ d i. all_in (λ x. is_before_by k e.path x.path) es a i))
    where
      passed : (d : Element) → (d ∈ e ∷ es) ⊎ T (not (is_before_by k p d.path)) → (d ∈ es) ⊎ T (not (is_before_by k e.path d.path))
      passed d (inl i) = one (Memᴰ.cases_cons i)
        where
          one : (d ≡ e) ⊎ (d ∈ es) → (d ∈ es) ⊎ T (not (is_before_by k e.path d.path))
          one (inl h) = inr (rw h (not_T (is_before_by k e.path e.path) (precedes-irrefl (keys k e.path))))
          one (inr h) = inl h
      passed d (inr i) =
          inr (not_T (is_before_by k e.path d.path) (λ u. T_not (is_before_by k p d.path) (precedes-trans (keys k p) (keys k e.path) (keys k d.path) (b e (Memᴰ.head refl)) u) i))

-- ---- together

module _ (k : Step → List ℕ) (good : Keyed k) (n : ℕ) where
  root_before : (e : Element) → T (valid_element n e) → T (is_before_by k [] e.path)
  unfolding valid_element valid_path
  root_before e v = go e.path (search (and_l, and_r))
    where
      go : (p : List Step) → T (leb 1 (length p)) → T (is_before_by k [] p)
      go [] t = absurd t
      go (a ∷ p) t = rw (before-some k good a p) tt

  -- a set of valid elements ascends and has its prefixes where each path may follow the one before
  pub linked-is : (es : List Element) → T (is_label n) → T (all (valid_element n) es) → (ascending (rank_by k) es && closed n es) ≡ linked k n [] es
  linked-is es l v =
      same_test (ascending (rank_by k) es && closed n es) (linked k n [] es)
      (λ (t : T (ascending (rank_by k) es && closed n es)).
      closed-linked k good n es (closed_facts n es (and_r (ascending (rank_by k) es) (closed n es) t)) [] es (λ d i. i) (λ d i. inl i)
      (ascending-sorted (rank_by k) es (and_l (ascending (rank_by k) es) (closed n es) t)) (λ d i. root_before d (all_in (valid_element n) es v i)))
      (λ (t : T (linked k n [] es)).
      both (ascending (rank_by k) es) (closed n es) (linked-ascends k n [] es t)
      (facts-closed n es (linked-covers k n l [] [] es v (λ q b s. absurd (root_ends n q b s)) t)))
