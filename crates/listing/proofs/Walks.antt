-- A walk over the elements in path order lists what the view lists.
use mathlib.Core.Path.{◌≡◌, refl, sym, ap, subst, ◌∙◌}
use mathlib.Core.Logic.{◌⊎◌, inl, inr}
use mathlib.Core.Bool.{not}
use mathlib.Core.List.Memᴰ
use mathlib.Core.List.{List, [], ◌∷◌}
use Prim.Native.Nat.{ℕ, ◌+◌, ◌-◌, ◌≤◌, ◌<◌}
use lib.ListN.{length, length-append}
use lib.Dec.{T}
use mir.Facts.{T_not, not_T}
use Rattle.model.specs.Lists.{keep, gather, ◌∈◌}
use Rattle.model.specs.Sets.{precedes, sort, is_before, ahead, sorted}
use Rattle.model.specs.Path.{Step, is_prefix, prefixes, parent, key, path_rank}
use Rattle.model.specs.Element.{Element, rank}
use Rattle.model.specs.View.{listed, below}
use Rattle.model.proofs.Bools.{and_l, and_r, decide}
use Rattle.model.proofs.Members.{in-front, in-back, all_in, keep-in, in-keep, gather-in, in-gather}
use Rattle.model.proofs.Order.{precedes-trans, precedes-irrefl, precedes-asym, sorted-keep, sorted_sort, sorted-unique, sort-in, in-sort, in-sort-members, sorted-append}
use Rattle.model.proofs.Paths.{prefix_refl, prefix_trans, prefix_parent, in-prefixes, key-keyed, keys-injective, between-extends}
use Rattle.model.proofs.Prefixes.{prefixes-filled, filled-prefix, prefix-before, prefix-line}
use Rattle.path.specs.Common.{common}
use Rattle.listing.specs.Walk.{newer, walk, under}
use Rattle.listing.proofs.Newer.{length-newer, common-less, parent-first, parent-not}
use Rattle.listing.proofs.Sorted.{prefixes-sorted}

-- ---- path order and prefixes

-- a prefix of q that is none of an earlier r comes after r
new-after : (r q x : List Step) → T (is_prefix x q) → T (not (is_prefix x r)) → T (not (precedes (path_rank q) (path_rank r)))
    → T (precedes (path_rank r) (path_rank x))
new-after r q x t d s =
    decide (precedes (path_rank r) (path_rank x))
    (λ (h : T (precedes (path_rank r) (path_rank x))). h)
    (λ (h : T (not (precedes (path_rank r) (path_rank x)))). absurd (T_not (is_prefix x r) (between-extends key key-keyed x r q t h s) d))

-- ---- what is left of a walk

-- members with one path are one element, and none is the root
pub record Distinct (v : List Element) : Type 0 where
  pub one : (d e : Element) → d ∈ v → e ∈ v → d.path ≡ e.path → d ≡ e
  pub some : (e : Element) → e ∈ v → 1 ≤ length e.path

-- es holds, in path order, the elements of v that are at p or extend it and come after r; of the prefixes of p only p may be new
pub record Rest (v : List Element) (p r : List Step) (es : List Element) : Type 0 where
  pub rises : T (sorted rank es)
  pub later : (e : Element) → e ∈ es → T (precedes (path_rank r) (rank e))
  pub below : (e : Element) → e ∈ es → T (is_prefix p e.path)
  pub inside : (e : Element) → e ∈ es → e ∈ v
  pub whole : (e : Element) → e ∈ v → T (is_prefix p e.path) → T (precedes (path_rank r) (rank e)) → e ∈ es
  pub start : (x : List Step) → T (is_prefix x p) → (x ≡ p) ⊎ T (is_prefix x r)

-- at the beginning
pub rest-start : {v : List Element} (p : List Step) → Distinct v → Rest v p (parent p) (below p v)
rest-start {v} p d =
    record {
      rises = sorted_sort rank (under p v);
      later = λ e m. parent-first p e.path (at e m).1 (d.some e (at e m).0);
      below = λ e m. (at e m).1;
      inside = λ e m. (at e m).0;
      whole = λ e m t s. in-sort-members rank (under p v) one_rank (in-keep (λ c. is_prefix p c.path) v m t);
      start = λ x t. prefix_parent x p t;
    }
  where
    at : (e : Element) → e ∈ below p v → (e ∈ v) × T (is_prefix p e.path)
    at e m = keep-in (λ c. is_prefix p c.path) v (sort-in rank (under p v) m)

    one_rank : (x y : Element) → x ∈ under p v → y ∈ under p v → rank x ≡ rank y → x ≡ y
    one_rank x y h k e =
        d.one x y (keep-in (λ c. is_prefix p c.path) v h).0 (keep-in (λ c. is_prefix p c.path) v k).0
        (keys-injective key key-keyed x.path y.path e)

module _ {v : List Element} {p r : List Step} {e : Element} {es : List Element} (f : Rest v p r (e ∷ es)) where
  -- at least the element's own path is new
  pub rest-new : common r e.path < length e.path
  rest-new = common-less r e.path (f.later e (Memᴰ.head refl))

  first_of : (d : Element) → d ∈ es → T (precedes (rank e) (rank d))
  first_of d m = all_in (is_before rank e) es (and_l (ahead rank e es) (sorted rank es) f.rises) m

  -- after the element
  pub rest-next : Rest v p e.path es
  rest-next =
      record {
        rises = and_r (ahead rank e es) (sorted rank es) f.rises;
        later = first_of;
        below = λ d m. f.below d (Memᴰ.tail m);
        inside = λ d m. f.inside d (Memᴰ.tail m);
        whole = λ d m t s. other d s (Memᴰ.cases_cons (f.whole d m t (after-r d s)));
        start = λ x t. inr (prefix_trans x p e.path t (f.below e (Memᴰ.head refl)));
      }
    where
      after-r : (d : Element) → T (precedes (rank e) (rank d)) → T (precedes (path_rank r) (rank d))
      after-r d s = precedes-trans (path_rank r) (rank e) (rank d) (f.later e (Memᴰ.head refl)) s

      other : (d : Element) → T (precedes (rank e) (rank d)) → (d ≡ e) ⊎ (d ∈ es) → d ∈ es
      other d s (inl q) = absurd (precedes-irrefl (rank e) (subst (λ (c : Element). T (precedes (rank e) (rank c))) q s))
      other d s (inr k) = k

  -- what is new with an element comes after r, is p or extends it, and is the element's path or comes before it
  module _ {x : List Step} (m : x ∈ newer r e.path) where
    pub new-of : T (is_prefix x e.path)
    new-of = in-prefixes x e.path (keep-in (λ y. not (is_prefix y r)) (prefixes e.path) m).0

    pub new-not : T (not (is_prefix x r))
    new-not = (keep-in (λ y. not (is_prefix y r)) (prefixes e.path) m).1

    pub new-later : T (precedes (path_rank r) (path_rank x))
    new-later = new-after r e.path x new-of new-not (precedes-asym (path_rank r) (rank e) (f.later e (Memᴰ.head refl)))

    pub new-below : T (is_prefix p x)
    new-below = go (prefix-line p x e.path (f.below e (Memᴰ.head refl)) new-of)
      where
        at_p : (x ≡ p) ⊎ T (is_prefix x r) → T (is_prefix p x)
        at_p (inl q) = rw q (prefix_refl p)
        at_p (inr q) = absurd (T_not (is_prefix x r) q new-not)

        go : T (is_prefix x p) ⊎ T (is_prefix p x) → T (is_prefix p x)
        go (inl h) = at_p (f.start x h)
        go (inr h) = h

    -- no other element has its path
    pub new-only : (d : Element) → d ∈ v → x ≡ d.path → d ≡ e
    new-only d k q = go (Memᴰ.cases_cons (f.whole d k (rw (← q) new-below) (rw (← q) new-later)))
      where
        not-later : T (precedes (rank e) (rank d)) → (x ≡ e.path) ⊎ T (precedes (path_rank x) (rank e)) → ⊥
        not-later h (inl a) = precedes-irrefl (rank e) (subst (λ (y : List Step). T (precedes (rank e) (path_rank y))) (sym q ∙ a) h)
        not-later h (inr a) = precedes-irrefl (rank e) (precedes-trans (rank e) (path_rank x) (rank e) (rw q h) a)

        go : (d ≡ e) ⊎ (d ∈ es) → d ≡ e
        go (inl h) = h
        go (inr h) = absurd (not-later (first_of d h) (prefix-before x e.path new-of))

-- ---- the walk

-- how many paths it lists
pub length-walk : (r : List Step) (e : Element) (es : List Element)
    → length (walk r (e ∷ es)) ≡ length e.path - common r e.path + length (walk e.path es)
length-walk r e es =
    length-append (newer r e.path) (walk e.path es)
    ∙ ap (λ (n : ℕ). n + length (walk e.path es)) (length-newer r e.path)

module _ {v : List Element} {p : List Step} where
  walk_after : (r : List Step) (es : List Element) → Rest v p r es → (x : List Step) → x ∈ walk r es → T (precedes (path_rank r) (path_rank x))
  walk_after r [] f x m = absurd (Memᴰ.not-nil m)
  walk_after r (e ∷ es) f x m = go (Memᴰ.append_cases (newer r e.path) m) (λ k. walk_after e.path es (rest-next f) x k)
    where
      go : (x ∈ newer r e.path) ⊎ (x ∈ walk e.path es) → (x ∈ walk e.path es → T (precedes (rank e) (path_rank x)))
          → T (precedes (path_rank r) (path_rank x))
      go (inl h) g = new-later f h
      go (inr h) g = precedes-trans (path_rank r) (rank e) (path_rank x) (f.later e (Memᴰ.head refl)) (g h)

  walk-sorted : (r : List Step) (es : List Element) → Rest v p r es → T (sorted path_rank (walk r es))
  walk-sorted r [] f = tt
  walk-sorted r (e ∷ es) f =
      sorted-append path_rank (newer r e.path) (walk e.path es)
      (sorted-keep path_rank (λ y. not (is_prefix y r)) (prefixes e.path) (prefixes-sorted e.path))
      (walk-sorted e.path es (rest-next f))
      (λ x y h k. go x y (prefix-before x e.path (new-of f h)) (walk_after e.path es (rest-next f) y k))
    where
      go : (x y : List Step) → (x ≡ e.path) ⊎ T (precedes (path_rank x) (rank e)) → T (precedes (rank e) (path_rank y))
          → T (precedes (path_rank x) (path_rank y))
      go x y (inl h) t = rw h t
      go x y (inr h) t = precedes-trans (path_rank x) (rank e) (path_rank y) h t

  -- what the walk lists is a prefix of an element's path, and p or an extension of it
  walk-in : (r : List Step) (es : List Element) → Rest v p r es → (x : List Step) → x ∈ walk r es
      → (e : Element) × (e ∈ v) × (x ∈ prefixes e.path) × T (is_prefix p x)
  walk-in r [] f x m = absurd (Memᴰ.not-nil m)
  walk-in r (e ∷ es) f x m = go (Memᴰ.append_cases (newer r e.path) m) (λ k. walk-in e.path es (rest-next f) x k)
    where
      go : (x ∈ newer r e.path) ⊎ (x ∈ walk e.path es)
          → (x ∈ walk e.path es → (d : Element) × (d ∈ v) × (x ∈ prefixes d.path) × T (is_prefix p x))
          → (d : Element) × (d ∈ v) × (x ∈ prefixes d.path) × T (is_prefix p x)
      go (inl h) g = (e, f.inside e (Memᴰ.head refl), (keep-in (λ y. not (is_prefix y r)) (prefixes e.path) h).0, new-below f h)
      go (inr h) g = g h

-- and every such prefix that is none of r is there
in-walk : (r : List Step) (es : List Element) (x : List Step) (e : Element) → e ∈ es → x ∈ prefixes e.path → T (not (is_prefix x r))
    → x ∈ walk r es
in-walk r [] x e m b d = absurd (Memᴰ.not-nil m)
in-walk r (c ∷ es) x e m b d =
    decide (is_prefix x c.path)
    (λ (h : T (is_prefix x c.path)).
    in-front (newer r c.path) (walk c.path es)
    (in-keep (λ y. not (is_prefix y r)) (prefixes c.path) (filled-prefix x c.path (prefixes-filled x e.path b) h) d))
    (λ (h : T (not (is_prefix x c.path))).
    in-back (newer r c.path) (walk c.path es) (go h (Memᴰ.cases_cons m) (λ k. in-walk c.path es x e k b h)))
  where
    go : T (not (is_prefix x c.path)) → (e ≡ c) ⊎ (e ∈ es) → (e ∈ es → x ∈ walk c.path es) → x ∈ walk c.path es
    go h (inl q) g =
        absurd (T_not (is_prefix x c.path) (subst (λ (y : Element). T (is_prefix x y.path)) q (in-prefixes x e.path b)) h)
    go h (inr k) g = g k

-- the walk after the parent of p lists what the view at p lists
pub walk-listed : (v : List Element) (p : List Step) → Distinct v → listed v p ≡ walk (parent p) (below p v)
unfolding listed
walk-listed v p d =
    sorted-unique path_rank (sort path_rank (keep (is_prefix p) all)) (walk (parent p) es)
    (sorted_sort path_rank (keep (is_prefix p) all)) (walk-sorted (parent p) es f)
    (λ x m. there x (keep-in (is_prefix p) all (sort-in path_rank (keep (is_prefix p) all) m)))
    (λ x m. back x (walk-in (parent p) es f x m))
  where
    all : List (List Step)
    all = gather (λ e. prefixes e.path) v

    es : List Element
    es = below p v

    f : Rest v p (parent p) es
    f = rest-start p d

    there : (x : List Step) → (x ∈ all) × T (is_prefix p x) → x ∈ walk (parent p) es
    there x m =
        let g = gather-in (λ (e : Element). prefixes e.path) v m.0 in
        let q = g.0.path in
        let b : T (is_prefix p q) = prefix_trans p x q m.1 (in-prefixes x q g.2) in
        let l : 1 ≤ length x = prefixes-filled x q g.2 in
        in-walk (parent p) es x g.0 (f.whole g.0 g.1 b (parent-first p q b (d.some g.0 g.1))) g.2
        (not_T (is_prefix x (parent p)) (parent-not p x m.1 l))

    back : (x : List Step) → (e : Element) × (e ∈ v) × (x ∈ prefixes e.path) × T (is_prefix p x) → x ∈ sort path_rank (keep (is_prefix p) all)
    back x m =
        in-sort path_rank (keys-injective key key-keyed) (keep (is_prefix p) all)
        (in-keep (is_prefix p) all (in-gather (λ e. prefixes e.path) v m.1 m.2) m.3)
