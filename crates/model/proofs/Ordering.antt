-- Trees with their siblings in path order: to order them changes none of their elements; and the elements of ordered trees ascend, so that
-- no two have one path.
use mathlib.Core.Path.{◌≡◌, refl, ap, ap₂, ◌∙◌}
use mathlib.Core.Logic.{◌⊎◌, inl, inr}
use mathlib.Core.Bool.{Bool, true, not, cond, ◌&&◌}
use mathlib.Core.Option.{Option}
use mathlib.Core.List.Memᴰ
use mathlib.Core.List.{List, [], ◌∷◌, ◌++◌}
use Prim.Native.Nat.{ℕ, suc, ◌<◌}
use native.Mathlib.Omega.{arith}
use lib.ListN.{length}
use lib.Dec.{T}
use mir.Facts.{T_not}
use Rattle.model.specs.Lists.{any, ◌∈◌}
use Rattle.model.specs.Sets.{precedes, is_before, ahead, sorted}
use Rattle.model.specs.Path.{Step, same_step, is_prefix, key, path_rank}
use Rattle.model.specs.Value.{Content}
use Rattle.model.specs.Tree.{Forest, empty, element, Entry, entries}
use Rattle.model.specs.Intake.{siblings, differ, in_form}
use Rattle.model.proofs.Bools.{and_l, and_r, both, decide, cond_yes, cond_no}
use Rattle.model.proofs.Members.{all_in, in_all, not-any}
use Rattle.model.proofs.Alike.{Alike, alike_refl, alike-trans, parts-cases, within, alike-parts, swap, alike-swap}
use Rattle.model.proofs.Order.{precedes-total, precedes-irrefl, precedes-asym, precedes-cancel, precedes-differ, ahead-trans, sorted-append}
use Rattle.model.proofs.Paths.{step-eq, step-refl, prefix_refl, key-keyed, prefix-first}
use Rattle.model.proofs.Trees.{entry_rank, prefix-front, longer-below}
use Rattle.model.proofs.Sending.{form-parts}

-- ---- siblings in path order

-- ordered trees with one more, behind those whose steps come before its own
abbrev pub placed : Step → Option Content → Forest → Forest → Forest
placed a c i empty = element a c i empty
placed a c i (element b e j o) = cond (is_before key b a) (element b e j (placed a c i o)) (element a c i (element b e j o))

-- the trees with siblings in path order, at every level
abbrev pub in_order : Forest → Forest
in_order empty = empty
in_order (element a c inside behind) = placed a c (in_order inside) (in_order behind)

-- siblings are in path order, at every level
abbrev pub is_ordered : Forest → Bool
is_ordered empty = true
is_ordered (element a c inside behind) = ahead key a (siblings behind) && is_ordered inside && is_ordered behind

module _ (a : Step) (c : Option Content) (i o : Forest) where
  -- what order says of an element
  ordered-parts : T (is_ordered (element a c i o)) → T (ahead key a (siblings o)) × T (is_ordered i) × T (is_ordered o)
  ordered-parts t = (
    and_l (ahead key a (siblings o)) (is_ordered i) (and_l (ahead key a (siblings o) && is_ordered i) (is_ordered o) t),
    and_r (ahead key a (siblings o)) (is_ordered i) (and_l (ahead key a (siblings o) && is_ordered i) (is_ordered o) t),
    and_r (ahead key a (siblings o) && is_ordered i) (is_ordered o) t,
  )

  -- and what gives it
  parts-ordered : T (ahead key a (siblings o)) → T (is_ordered i) → T (is_ordered o) → T (is_ordered (element a c i o))
  parts-ordered r s t = both (ahead key a (siblings o) && is_ordered i) (is_ordered o) (both (ahead key a (siblings o)) (is_ordered i) r s) t

-- the two places of a tree at the first of others
module _ (a : Step) (c : Option Content) (i : Forest) (b : Step) (e : Option Content) (j o : Forest) where
  -- behind it
  placed-behind : T (is_before key b a) → placed a c i (element b e j o) ≡ element b e j (placed a c i o)
  placed-behind t = cond_yes (is_before key b a) (element b e j (placed a c i o)) (element a c i (element b e j o)) t

  -- before it
  placed-before : T (not (is_before key b a)) → placed a c i (element b e j o) ≡ element a c i (element b e j o)
  placed-before t = cond_no (is_before key b a) (element b e j (placed a c i o)) (element a c i (element b e j o)) t

-- ---- ordering keeps the elements

-- a tree put at its place
placed_alike : (r : List Step) (a : Step) (c : Option Content) (i o : Forest) → Alike (entries r (placed a c i o)) (entries r (element a c i o))
placed_alike r a c i empty = alike_refl (entries r (element a c i empty))
placed_alike r a c i (element b e j o) =
    decide (is_before key b a)
    (λ (t : T (is_before key b a)).
    rw (placed-behind a c i b e j o t)
    (alike-trans
    (alike-parts (record { path = r ++ (b ∷ []); content = e }) (alike_refl (entries (r ++ (b ∷ [])) j)) (placed_alike r a c i o))
    (alike-swap (record { path = r ++ (b ∷ []); content = e }) (record { path = r ++ (a ∷ []); content = c }) (entries (r ++ (b ∷ [])) j) (entries (r ++ (a ∷ [])) i) (entries r o))))
    (λ (t : T (not (is_before key b a))). rw (placed-before a c i b e j o t) (alike_refl (entries r (element a c i (element b e j o)))))

-- ordered trees have the same elements
pub order_alike : (r : List Step) (f : Forest) → Alike (entries r (in_order f)) (entries r f)
order_alike r empty = alike_refl []
order_alike r (element a c i o) =
    alike-trans (placed_alike r a c (in_order i) (in_order o))
    (alike-parts (record { path = r ++ (a ∷ []); content = c }) (order_alike (r ++ (a ∷ [])) i) (order_alike r o))

-- ---- what is ordered is in order

-- trees with one more have no other steps
placed-siblings : (a : Step) (c : Option Content) (i o : Forest) {x : Step} → x ∈ siblings (placed a c i o) → x ∈ a ∷ siblings o
placed-siblings a c i empty m = m
placed-siblings a c i (element b e j o) {x} m =
    decide (is_before key b a)
    (λ (t : T (is_before key b a)).
    swap b a [] [] (siblings o) x
    (within b [] [] (siblings (placed a c i o)) (a ∷ siblings o) (λ y k. k) (λ y k. placed-siblings a c i o k) x (rw (placed-behind a c i b e j o t) at m)))
    (λ (t : T (not (is_before key b a))). rw (placed-before a c i b e j o t) at m)

-- ordered trees have no other steps
order-siblings : (f : Forest) {x : Step} → x ∈ siblings (in_order f) → x ∈ siblings f
order-siblings empty m = m
order-siblings (element a c i o) {x} m =
    within a [] [] (siblings (in_order o)) (siblings o) (λ y k. k) (λ y k. order-siblings o k) x (placed-siblings a c (in_order i) (in_order o) m)

-- a tree whose step the others do not have is put in order
placed-ordered : (a : Step) (c : Option Content) (i o : Forest) → ((b : Step) → b ∈ siblings o → T (not (same_step a b)))
    → T (is_ordered i) → T (is_ordered o) → T (is_ordered (placed a c i o))
placed-ordered a c i empty d s t = parts-ordered a c i empty tt s tt
placed-ordered a c i (element b e j o) d s t =
    let p = ordered-parts b e j o t in
    decide (is_before key b a)
    (λ (h : T (is_before key b a)).
    rw (placed-behind a c i b e j o h)
    (parts-ordered b e j (placed a c i o)
    (in_all (is_before key b) (siblings (placed a c i o)) (λ x m. later h p.0 x (Memᴰ.cases_cons (placed-siblings a c i o m))))
    p.1 (placed-ordered a c i o (λ x m. d x (Memᴰ.tail m)) s p.2)))
    (λ (h : T (not (is_before key b a))).
    let n : T (is_before key a b) = first h in
    rw (placed-before a c i b e j o h)
    (parts-ordered a c i (element b e j o) (both (is_before key a b) (ahead key a (siblings o)) n (ahead-trans key a b (siblings o) n p.0)) s t))
  where
    later : T (is_before key b a) → T (ahead key b (siblings o)) → (x : Step) → (x ≡ a) ⊎ (x ∈ siblings o) → T (is_before key b x)
    later h k x (inl e) = rw e h
    later h k x (inr m) = all_in (is_before key b) (siblings o) k m

    first : T (not (is_before key b a)) → T (is_before key a b)
    first h =
        decide (is_before key a b)
        (λ (k : T (is_before key a b)). k)
        (λ (k : T (not (is_before key a b))).
        absurd (T_not (same_step a b) (rw (key-keyed.injective a b (precedes-total (key a) (key b) k h)) (step-refl b)) (d b (Memᴰ.head refl))))

-- siblings that differ are put in order
pub order-ordered : (d : ℕ) (f : Forest) → T (in_form d f) → T (differ (siblings f)) → T (is_ordered (in_order f))
order-ordered d empty s t = tt
order-ordered d (element a c i o) s t =
    let x = form-parts d a c i o s in
    placed-ordered a c (in_order i) (in_order o)
    (λ b m. not-any (same_step a) (siblings o) (and_l (not (any (same_step a) (siblings o))) (differ (siblings o)) t) (order-siblings o m))
    (order-ordered (suc d) i x.within x.differs)
    (order-ordered d o x.next (and_r (not (any (same_step a) (siblings o))) (differ (siblings o)) t))

-- a tree that comes before all others is put first
placed_first : (a : Step) (c : Option Content) (i o : Forest) → T (ahead key a (siblings o)) → placed a c i o ≡ element a c i o
placed_first a c i empty t = refl
placed_first a c i (element b e j o) t = placed-before a c i b e j o (precedes-asym (key a) (key b) (and_l (is_before key a b) (ahead key a (siblings o)) t))

-- what is in order stays as it is
pub ordered_same : (f : Forest) → T (is_ordered f) → in_order f ≡ f
ordered_same empty t = refl
ordered_same (element a c i o) t =
    let p = ordered-parts a c i o t in
    ap₂ (placed a c) (ordered_same i p.1) (ordered_same o p.2) ∙ placed_first a c i o p.0

-- ---- the elements of ordered trees ascend

-- a path comes before those that extend it
extension-after : (q : List Step) (b : Step) (x : List Step) → T (is_prefix (q ++ (b ∷ [])) x) → T (precedes (path_rank q) (path_rank x))
extension-after q b x t =
    let l : length q < length x = longer-below q b x t in
    prefix-first key key-keyed q x (prefix-front q b x t) (λ e. let k : length q ≡ length x = ap length e in omega arith)

-- ranks of one length decide what they begin
precedes-front : (x y u v : List ℕ) → length x ≡ length y → T (precedes x y) → T (precedes (x ++ u) (y ++ v))
precedes-front x y u v l t = rw (precedes-differ x y u v l (λ e. precedes-irrefl y (rw e at t))) t

-- siblings decide what stands below them
siblings-after : (r : List Step) (a b : Step) (x y : List Step) → T (is_before key a b) → T (is_prefix (r ++ (a ∷ [])) x) → T (is_prefix (r ++ (b ∷ [])) y)
    → T (precedes (path_rank x) (path_rank y))
siblings-after [] a b [] y h s t = absurd s
siblings-after [] a b (d ∷ x) [] h s t = absurd t
siblings-after [] a b (d ∷ x) (e ∷ y) h s t =
    let p : a ≡ d = step-eq a d (and_l (same_step a d) true s) in
    let q : b ≡ e = step-eq b e (and_l (same_step b e) true t) in
    precedes-front (key d) (key e) (path_rank x) (path_rank y) (key-keyed.width d e) (rw (p, q) at h)
siblings-after (c ∷ r) a b [] y h s t = absurd s
siblings-after (c ∷ r) a b (d ∷ x) [] h s t = absurd t
siblings-after (c ∷ r) a b (d ∷ x) (e ∷ y) h s t =
    let p : c ≡ d = step-eq c d (and_l (same_step c d) (is_prefix (r ++ (a ∷ [])) x) s) in
    let q : c ≡ e = step-eq c e (and_l (same_step c e) (is_prefix (r ++ (b ∷ [])) y) t) in
    rw (← p, ← q, precedes-cancel (key c) (path_rank x) (path_rank y))
    (siblings-after r a b x y h (and_r (same_step c d) (is_prefix (r ++ (a ∷ [])) x) s) (and_r (same_step c e) (is_prefix (r ++ (b ∷ [])) y) t))

-- an element of trees below a path is at or below one of their steps
pub entries-under : (r : List Step) (f : Forest) {e : Entry} → e ∈ entries r f → (b : Step) × (b ∈ siblings f) × T (is_prefix (r ++ (b ∷ [])) e.path)
entries-under r empty m = absurd (Memᴰ.not-nil m)
entries-under r (element a c i o) {e} m =
    parts-cases (record { path = r ++ (a ∷ []); content = c }) (entries (r ++ (a ∷ [])) i) (entries r o) m
    (λ q. (a, Memᴰ.head refl, rw q (prefix_refl (r ++ (a ∷ [])))))
    (λ k. let u = entries-under (r ++ (a ∷ [])) i k in (a, Memᴰ.head refl, prefix-front (r ++ (a ∷ [])) u.0 e.path u.2))
    (λ k. let u = entries-under r o k in (u.0, Memᴰ.tail u.1, u.2))

-- the elements of ordered trees ascend
pub ordered-sorted : (r : List Step) (f : Forest) → T (is_ordered f) → T (sorted entry_rank (entries r f))
ordered-sorted r empty t = tt
ordered-sorted r (element a c i o) t =
    let top : Entry = record { path = r ++ (a ∷ []); content = c } in
    let inside : List Entry = entries (r ++ (a ∷ [])) i in
    let p = ordered-parts a c i o t in
    sorted-append entry_rank (top ∷ inside) (entries r o)
    (both (ahead entry_rank top inside) (sorted entry_rank inside)
    (in_all (is_before entry_rank top) inside (λ x m. let u = entries-under (r ++ (a ∷ [])) i m in extension-after (r ++ (a ∷ [])) u.0 x.path u.2))
    (ordered-sorted (r ++ (a ∷ [])) i p.1))
    (ordered-sorted r o p.2)
    (λ x y m k.
    let u = entries-under r o k in
    siblings-after r a u.0 x.path y.path (all_in (is_before key a) (siblings o) p.0 u.1) (in-first x (Memᴰ.cases_cons m)) u.2)
  where
    in-first : (x : Entry) → (x ≡ record { path = r ++ (a ∷ []); content = c }) ⊎ (x ∈ entries (r ++ (a ∷ [])) i) → T (is_prefix (r ++ (a ∷ [])) x.path)
    in-first x (inl q) = rw q (prefix_refl (r ++ (a ∷ [])))
    in-first x (inr m) = let u = entries-under (r ++ (a ∷ [])) i m in prefix-front (r ++ (a ∷ [])) u.0 x.path u.2
