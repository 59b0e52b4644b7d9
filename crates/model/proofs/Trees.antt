-- Trees by the elements in them: the elements of a view's trees, each before those inside it, are what the listing lists; and they leave
-- one forest only.
use mathlib.Core.Path.{◌≡◌, refl, sym, ap, ap₂, subst, ◌∙◌}
use mathlib.Core.Logic.{◌⊎◌, inl, inr}
use mathlib.Core.Bool.{Bool, false, not}
use mathlib.Core.Option.{Option, some}
use mathlib.Core.List.Memᴰ
use mathlib.Core.List.{List, [], ◌∷◌, ◌++◌, map}
use Prim.Native.Nat.{ℕ, zero, suc, ◌≤◌, ◌<◌}
use native.Mathlib.Omega.{arith}
use lib.ListN.{length, length-append, take}
use lib.Seq.{length-take-le}
use lib.Dec.{T, ltb}
use mir.Facts.{T_not, not_T, yes_ltb, no_ltb}
use Rattle.model.specs.Lists.{all, keep, ◌∈◌}
use Rattle.model.specs.Sets.{precedes, is_before, ahead, sorted}
use Rattle.model.specs.Path.{Step, same_step, is_prefix, parent, last_step, key, path_rank}
use Rattle.model.specs.Element.{Element}
use Rattle.model.specs.View.{listed, content_at}
use Rattle.model.specs.Tree.{Forest, empty, element, Entry, entries, shown_below, grown, nest, forest}
use Rattle.model.proofs.Bools.{and_l, and_r, both, yes-not-not, decide, cond_yes, cond_no}
use Rattle.model.proofs.Members.{all_in, in_all, any-in, in-any, keep-in, in-keep, map-in, in_map}
use Rattle.model.proofs.Lists.{all_append}
use Rattle.model.proofs.Order.{precedes-trans, precedes-irrefl, precedes-asym, sorted-keep, ascending-sorted}
use Rattle.model.proofs.Paths.{step-eq, prefix_refl, prefix_trans, prefix_parent, key-keyed, between-extends}
use Rattle.model.proofs.Prefixes.{prefix-length, prefix-take, prefix-before, prefix-shorter, prefix-line, prefix-of-longer, parent_above, parent_shorter}
use Rattle.model.proofs.Sets.{length-keep}
use Rattle.model.proofs.Listings.{listed-ascends, listed_in, listed-filled, in-listed}

-- an entry's rank is its path's
abbrev pub entry_rank : Entry → List ℕ
entry_rank e = path_rank e.path

-- ---- one step more than a path

pub longer : (r : List Step) (a : Step) → length (r ++ (a ∷ [])) ≡ suc (length r)
longer r a = length-append r (a ∷ []) ∙ omega arith

pub last-longer : (r : List Step) (a : Step) → last_step (r ++ (a ∷ [])) ≡ some a
last-longer [] a = refl
last-longer (b ∷ []) a = refl
last-longer (b ∷ c ∷ r) a = last-longer (c ∷ r) a

-- without its last step it is the path
pub parent-longer : (r : List Step) (a : Step) → parent (r ++ (a ∷ [])) ≡ r
parent-longer [] a = refl
parent-longer (b ∷ []) a = refl
parent-longer (b ∷ c ∷ r) a = ap (λ (l : List Step). b ∷ l) (parent-longer (c ∷ r) a)

pub one-longer : (r q : List Step) → T (is_prefix r q) → length q ≡ suc (length r) → (a : Step) × (q ≡ r ++ (a ∷ []))
one-longer [] [] t h = absurd (omega arith)
one-longer [] (a ∷ []) t h = (a, refl)
one-longer [] (a ∷ b ∷ q) t h = absurd (omega arith)
one-longer (b ∷ r) [] t h = absurd t
one-longer (b ∷ r) (c ∷ q) t h =
    let e : b ≡ c = step-eq b c (and_l (same_step b c) (is_prefix r q) t) in
    let m = one-longer r q (and_r (same_step b c) (is_prefix r q) t) (omega arith) in
    (m.0, ap₂ (λ (x : Step) (l : List Step). x ∷ l) (sym e) m.1)

pub longer-same : (r : List Step) (a b : Step) → r ++ (a ∷ []) ≡ r ++ (b ∷ []) → a ≡ b
longer-same [] a b e = cc
longer-same (c ∷ r) a b e = longer-same r a b (let f : r ++ (a ∷ []) ≡ r ++ (b ∷ []) = cc in f)

-- what extends it extends the path
pub prefix-front : (r : List Step) (a : Step) (q : List Step) → T (is_prefix (r ++ (a ∷ [])) q) → T (is_prefix r q)
prefix-front r a q t = rw (parent-longer r a) at (parent_above (r ++ (a ∷ [])) q t)

-- and is longer than the path
pub longer-below : (r : List Step) (a : Step) (q : List Step) → T (is_prefix (r ++ (a ∷ [])) q) → length r < length q
longer-below r a q t =
    let l : length (r ++ (a ∷ [])) ≡ suc (length r) = longer r a in
    let k : length (r ++ (a ∷ [])) ≤ length q = prefix-length (r ++ (a ∷ [])) q t in
    omega arith

-- ---- a forest is determined by its elements

-- whether there is a first member, and it passes
abbrev pub leads : {A : Type 0} → (A → Bool) → List A → Bool
leads p [] = false
leads p (x ∷ l) = p x

-- of two equal lists the parts up to the first member that does not pass are equal, and so are the rests
pub parts-apart : {A : Type 0} (p : A → Bool) (x y u v : List A) → T (all p x) → T (all p y) → T (not (leads p u)) → T (not (leads p v))
    → x ++ u ≡ y ++ v → (x ≡ y) × (u ≡ v)
parts-apart p [] [] u v s t f g e = (refl, e)
parts-apart p [] (b ∷ y) u v s t f g e =
    absurd (T_not (p b) (and_l (p b) (all p y) t) (subst (λ (l : List _). T (not (leads p l))) e f))
parts-apart p (a ∷ x) [] u v s t f g e =
    absurd (T_not (p a) (and_l (p a) (all p x) s) (subst (λ (l : List _). T (not (leads p l))) (sym e) g))
parts-apart {A} p (a ∷ x) (b ∷ y) u v s t f g e =
    let h : a ≡ b = cc in
    let k : x ++ u ≡ y ++ v = cc in
    let r : (x ≡ y) × (u ≡ v) = parts-apart p x y u v (and_r (p a) (all p x) s) (and_r (p b) (all p y) t) f g k in
    (ap₂ (λ (c : A) (z : List A). c ∷ z) h r.0, r.1)

-- deeper than n steps
abbrev deeper : ℕ → Entry → Bool
deeper n e = ltb n (length e.path)

-- what stands below a path is longer, and the first is one step longer
entries-deeper : (n : ℕ) (r : List Step) (f : Forest) → n ≤ length r → T (all (deeper n) (entries r f))
entries-deeper n r empty h = tt
entries-deeper n r (element a c inside behind) h =
    let l : length (r ++ (a ∷ [])) ≡ suc (length r) = longer r a in
    let d : n < length (r ++ (a ∷ [])) = omega arith in
    both (ltb n (length (r ++ (a ∷ [])))) (all (deeper n) (entries (r ++ (a ∷ [])) inside ++ entries r behind)) (yes_ltb d)
    (all_append (deeper n) (entries (r ++ (a ∷ [])) inside) (entries r behind)
    (entries-deeper n (r ++ (a ∷ [])) inside (omega arith)) (entries-deeper n r behind h))

entries-first : (r : List Step) (f : Forest) → T (not (leads (deeper (suc (length r))) (entries r f)))
entries-first r empty = tt
entries-first r (element a c inside behind) = let d : length (r ++ (a ∷ [])) ≤ suc (length r) = omega (arith, longer r a) in no_ltb d

pub entries-injective : (r : List Step) (f g : Forest) → entries r f ≡ entries r g → f ≡ g
entries-injective r empty empty e = refl
entries-injective r empty (element b d i o) e = let z : 0 ≡ suc (length (entries (r ++ (b ∷ [])) i ++ entries r o)) = ap length e in absurd (omega arith)
entries-injective r (element a c i o) empty e = let z : suc (length (entries (r ++ (a ∷ [])) i ++ entries r o)) ≡ 0 = ap length e in absurd (omega arith)
entries-injective r (element a c i o) (element b d j u) e =
    let first : ◌≡◌ {A = Entry} (record { path = r ++ (a ∷ []); content = c }) (record { path = r ++ (b ∷ []); content = d }) = cc in
    let step : a ≡ b = longer-same r a b (ap (λ (x : Entry). x.path) first) in
    let content : c ≡ d = ap (λ (x : Entry). x.content) first in
    let rest : entries (r ++ (a ∷ [])) i ++ entries r o ≡ entries (r ++ (b ∷ [])) j ++ entries r u = cc in
    let same : entries (r ++ (a ∷ [])) i ++ entries r o ≡ entries (r ++ (a ∷ [])) j ++ entries r u =
    rest ∙ ap (λ (x : Step). entries (r ++ (x ∷ [])) j ++ entries r u) (sym step) in
    let deep : suc (length r) ≤ length (r ++ (a ∷ [])) = omega (arith, longer r a) in
    let parts = parts-apart (deeper (suc (length r))) (entries (r ++ (a ∷ [])) i) (entries (r ++ (a ∷ [])) j) (entries r o) (entries r u)
    (entries-deeper (suc (length r)) (r ++ (a ∷ [])) i deep) (entries-deeper (suc (length r)) (r ++ (a ∷ [])) j deep)
    (entries-first r o) (entries-first r u) same in
    let inside : i ≡ j = entries-injective (r ++ (a ∷ [])) i j parts.0 in
    let behind : o ≡ u = entries-injective r o u parts.1 in
    λ k. element (step k) (content k) (inside k) (behind k)

-- ---- entries that make a forest below a path

-- they ascend and stand below r, and each path between r and one of theirs is among them
pub record Branch (r : List Step) (es : List Entry) : Type 0 where
  pub rises : T (sorted entry_rank es)
  pub below : (e : Entry) → e ∈ es → T (is_prefix r e.path) × (length r < length e.path)
  pub whole : (e : Entry) (x : List Step) → e ∈ es → T (is_prefix x e.path) → length r < length x → (d : Entry) × (d ∈ es) × (x ≡ d.path)

module _ {r : List Step} {e : Entry} {es : List Entry} (f : Branch r (e ∷ es)) where
  later : (d : Entry) → d ∈ es → T (precedes (entry_rank e) (entry_rank d))
  later d m = all_in (is_before entry_rank e) es (and_l (ahead entry_rank e es) (sorted entry_rank es) f.rises) m

  -- the first stands one step below r
  first-length : length e.path ≡ suc (length r)
  first-length = go (Memᴰ.cases_cons w.1)
    where
      x : List Step
      x = take (suc (length r)) e.path

      l : length x ≡ suc (length r)
      l = length-take-le (suc (length r)) e.path (f.below e (Memᴰ.head refl)).1

      t : T (is_prefix x e.path)
      t = prefix-take (suc (length r)) e.path

      w : (d : Entry) × (d ∈ e ∷ es) × (x ≡ d.path)
      w = f.whole e x (Memᴰ.head refl) t (omega (arith, l))

      not-later : T (precedes (entry_rank e) (path_rank x)) → (x ≡ e.path) ⊎ T (precedes (path_rank x) (entry_rank e)) → ⊥
      not-later h (inl q) = precedes-irrefl (entry_rank e) (subst (λ (y : List Step). T (precedes (entry_rank e) (path_rank y))) q h)
      not-later h (inr q) = precedes-irrefl (entry_rank e) (precedes-trans (entry_rank e) (path_rank x) (entry_rank e) h q)

      go : (w.0 ≡ e) ⊎ (w.0 ∈ es) → length e.path ≡ suc (length r)
      go (inl q) = ap length (sym (w.2 ∙ ap (λ (d : Entry). d.path) q)) ∙ l
      go (inr m) = absurd (not-later (subst (λ (y : List Step). T (precedes (entry_rank e) (path_rank y))) (sym w.2) (later w.0 m)) (prefix-before x e.path t))

  first_step : (a : Step) × (e.path ≡ r ++ (a ∷ []))
  first_step = one-longer r e.path (f.below e (Memᴰ.head refl)).0 first-length

  -- whether an entry stands inside the first
  abbrev in_first : Entry → Bool
  in_first d = is_prefix e.path d.path

  inside-branch : Branch e.path (keep in_first es)
  inside-branch =
      record {
        rises = sorted-keep entry_rank in_first es (and_r (ahead entry_rank e es) (sorted entry_rank es) f.rises);
        below = λ d m. let k = keep-in in_first es m in (k.1, prefix-shorter e.path d.path k.1 (later d k.0));
        whole = λ d x m t h.
            let k = keep-in in_first es m in
            found d x t h k.1 (f.whole d x (Memᴰ.tail k.0) t (omega (arith, h, first-length)));
      }
    where
      found : (d : Entry) (x : List Step) → T (is_prefix x d.path) → length e.path < length x → T (in_first d)
          → (c : Entry) × (c ∈ e ∷ es) × (x ≡ c.path) → (c : Entry) × (c ∈ keep in_first es) × (x ≡ c.path)
      found d x t h k w = go (Memᴰ.cases_cons w.1)
        where
          go : (w.0 ≡ e) ⊎ (w.0 ∈ es) → (c : Entry) × (c ∈ keep in_first es) × (x ≡ c.path)
          go (inl q) = let l : length x ≡ length e.path = ap length (w.2 ∙ ap (λ (c : Entry). c.path) q) in absurd (omega arith)
          go (inr m) = (w.0, in-keep in_first es m (rw (← w.2) (prefix-of-longer e.path x d.path k t (omega arith))), w.2)

  behind-branch : Branch r (keep (λ d. not (in_first d)) es)
  behind-branch =
      record {
        rises = sorted-keep entry_rank (λ d. not (in_first d)) es (and_r (ahead entry_rank e es) (sorted entry_rank es) f.rises);
        below = λ d m. f.below d (Memᴰ.tail (keep-in (λ c. not (in_first c)) es m).0);
        whole = λ d x m t h.
            let k = keep-in (λ c. not (in_first c)) es m in
            found d x t k.1 (f.whole d x (Memᴰ.tail k.0) t h);
      }
    where
      found : (d : Entry) (x : List Step) → T (is_prefix x d.path) → T (not (in_first d))
          → (c : Entry) × (c ∈ e ∷ es) × (x ≡ c.path) → (c : Entry) × (c ∈ keep (λ c. not (in_first c)) es) × (x ≡ c.path)
      found d x t k w = go (Memᴰ.cases_cons w.1)
        where
          outside : T (is_prefix e.path x) → ⊥
          outside y = T_not (in_first d) (prefix_trans e.path x d.path y t) k

          go : (w.0 ≡ e) ⊎ (w.0 ∈ es) → (c : Entry) × (c ∈ keep (λ c. not (in_first c)) es) × (x ≡ c.path)
          go (inl q) = absurd (outside (rw (w.2 ∙ ap (λ (c : Entry). c.path) q) (prefix_refl e.path)))
          go (inr m) = (w.0, in-keep (λ c. not (in_first c)) es m (rw (← w.2) (not_T (is_prefix e.path x) outside)), w.2)

-- ---- those inside the first stand before the others

keep-none : {A : Type 0} (p : A → Bool) (l : List A) → ((x : A) → x ∈ l → T (not (p x))) → (keep p l ≡ []) × (keep (λ x. not (p x)) l ≡ l)
keep-none p [] h = (refl, refl)
keep-none {A} p (x ∷ l) h =
    let t : T (not (p x)) = h x (Memᴰ.head refl) in
    let r = keep-none p l (λ y m. h y (Memᴰ.tail m)) in (
      cond_no (p x) (x ∷ keep p l) (keep p l) t ∙ r.0,
      cond_yes (not (p x)) (x ∷ keep (λ y. not (p y)) l) (keep (λ y. not (p y)) l) t ∙ ap (λ (z : List A). x ∷ z) r.1,
    )

together : (q : List Step) (es : List Entry) → T (sorted entry_rank es) → ((d : Entry) → d ∈ es → T (precedes (path_rank q) (entry_rank d)))
    → keep (λ d. is_prefix q d.path) es ++ keep (λ d. not (is_prefix q d.path)) es ≡ es
together q [] s h = refl
together q (d ∷ es) s h =
    let t : T (sorted entry_rank es) = and_r (ahead entry_rank d es) (sorted entry_rank es) s in
    decide (is_prefix q d.path)
    (λ (y : T (is_prefix q d.path)).
    ap₂ (λ (x z : List Entry). x ++ z)
    (cond_yes (is_prefix q d.path) (d ∷ keep (λ c. is_prefix q c.path) es) (keep (λ c. is_prefix q c.path) es) y)
    (cond_no (not (is_prefix q d.path)) (d ∷ keep (λ c. not (is_prefix q c.path)) es) (keep (λ c. not (is_prefix q c.path)) es) (yes-not-not (is_prefix q d.path) y))
    ∙ ap (λ (x : List Entry). d ∷ x) (together q es t (λ c m. h c (Memᴰ.tail m))))
    (λ (y : T (not (is_prefix q d.path))).
    let r = keep-none (λ (c : Entry). is_prefix q c.path) (d ∷ es) (λ c m. outside y c (Memᴰ.cases_cons m)) in
    ap₂ (λ (x z : List Entry). x ++ z) r.0 r.1)
  where
    -- what comes after one that does not extend q does not extend it
    outside : T (not (is_prefix q d.path)) → (c : Entry) → (c ≡ d) ⊎ (c ∈ es) → T (not (is_prefix q c.path))
    outside y c (inl e) = rw e y
    outside y c (inr m) = not_T (is_prefix q c.path) (λ x.
        T_not (is_prefix q d.path)
        (between-extends key key-keyed q d.path c.path x
        (precedes-asym (path_rank q) (entry_rank d) (h d (Memᴰ.head refl)))
        (precedes-asym (entry_rank d) (entry_rank c) (all_in (is_before entry_rank d) es (and_l (ahead entry_rank d es) (sorted entry_rank es) s) m))) y)

-- ---- the elements of a forest made of entries are these entries

-- an element one step below r: its entry, those inside it and those behind it
pub grown-entries : (r : List Step) (e : Entry) (a : Step) (f g : Forest) {x y : List Entry} → e.path ≡ r ++ (a ∷ [])
    → entries e.path f ≡ x → entries r g ≡ y → entries r (grown (last_step e.path) e.content f g) ≡ e ∷ (x ++ y)
grown-entries r e a f g q h k =
    ap (λ (o : Option Step). entries r (grown o e.content f g)) (ap last_step q ∙ last-longer r a)
    ∙ ap (λ (p : List Step). record { path = p; content = e.content } ∷ (entries p f ++ entries r g)) (sym q)
    ∙ ap₂ (λ (u v : List Entry). e ∷ (u ++ v)) h k

nest-entries : (n : ℕ) (r : List Step) (es : List Entry) → length es ≤ n → Branch r es → entries r (nest n es) ≡ es
nest-entries zero r [] h f = refl
nest-entries zero r (e ∷ es) h f = absurd (omega arith)
nest-entries (suc n) r [] h f = refl
nest-entries (suc n) r (e ∷ es) h f =
    let in_e : List Entry = keep (λ d. is_prefix e.path d.path) es in
    let out-e : List Entry = keep (λ d. not (is_prefix e.path d.path)) es in
    let inside : entries e.path (nest n in_e) ≡ in_e =
    nest-entries n e.path in_e (omega (arith, length-keep (λ (d : Entry). is_prefix e.path d.path) es)) (inside-branch f) in
    let behind : entries r (nest n out-e) ≡ out-e =
    nest-entries n r out-e (omega (arith, length-keep (λ (d : Entry). not (is_prefix e.path d.path)) es)) (behind-branch f) in
    grown-entries r e (first_step f).0 (nest n in_e) (nest n out-e) (first_step f).1 inside behind
    ∙ ap (λ (l : List Entry). e ∷ l)
    (together e.path es (and_r (ahead entry_rank e es) (sorted entry_rank es) f.rises) (later f))

-- ---- the trees of a view

module _ (v : List Element) (p : List Step) where
  abbrev at : List Step → Entry
  at q = record { path = q; content = content_at v q }

  sorted-at : (l : List (List Step)) → T (sorted path_rank l) → T (sorted entry_rank (map at l))
  sorted-at [] t = tt
  sorted-at (q ∷ l) t =
      both (ahead entry_rank (at q) (map at l)) (sorted entry_rank (map at l))
      (in_all (is_before entry_rank (at q)) (map at l) (λ d m.
      let k = map-in at l m in
      rw k.2 (all_in (is_before path_rank q) l (and_l (ahead path_rank q l) (sorted path_rank l) t) k.1)))
      (sorted-at l (and_r (ahead path_rank q l) (sorted path_rank l) t))

  -- a path between the parent of p and a listed path is listed
  between-listed : (q x : List Step) → q ∈ listed v p → T (is_prefix x q) → length (parent p) < length x → x ∈ listed v p
  between-listed q [] m t h = absurd (omega arith)
  between-listed [] (a ∷ x) m t h = absurd t
  between-listed (b ∷ q) (a ∷ x) m t h =
      let k = listed_in v p (b ∷ q) m in
      let r = any-in (λ e. is_prefix (b ∷ q) e.path) v k.1 in
      in-listed v p a x (go (prefix-line p (a ∷ x) (b ∷ q) k.0 t))
      (in-any (λ e. is_prefix (a ∷ x) e.path) v r.1 (prefix_trans (a ∷ x) (b ∷ q) r.0.path t r.2))
    where
      at_p : (a ∷ x ≡ p) ⊎ T (is_prefix (a ∷ x) (parent p)) → T (is_prefix p (a ∷ x))
      at_p (inl e) = rw e (prefix_refl p)
      at_p (inr s) = let l : length (a ∷ x) ≤ length (parent p) = prefix-length (a ∷ x) (parent p) s in absurd (omega arith)

      go : T (is_prefix (a ∷ x) p) ⊎ T (is_prefix p (a ∷ x)) → T (is_prefix p (a ∷ x))
      go (inl s) = at_p (prefix_parent (a ∷ x) p s)
      go (inr s) = s

  pub shown-branch : Branch (parent p) (shown_below v p)
  unfolding shown_below
  shown-branch =
      record {
        rises = sorted-at (listed v p) (ascending-sorted path_rank (listed v p) (listed-ascends v p));
        below = λ e m. let k = map-in at (listed v p) m in rw k.2 (under k.0 k.1);
        whole = λ e x m t h. let k = map-in at (listed v p) m in (at x, in_map at (listed v p) (between-listed k.0 x k.1 (rw k.2 at t) h), refl);
      }
    where
      under : (q : List Step) → q ∈ listed v p → T (is_prefix (parent p) q) × (length (parent p) < length q)
      under q m = let s : T (is_prefix p q) = (listed_in v p q m).0 in (parent_above p q s, parent_shorter p q s (listed-filled v p q m))

  -- the elements of the trees are what the listing lists
  pub forest-listed : entries (parent p) (forest v p) ≡ shown_below v p
  unfolding forest
  forest-listed = nest-entries (length (shown_below v p)) (parent p) (shown_below v p) (omega arith) shown-branch

  -- so no other forest has them
  pub forest-only : (f : Forest) → entries (parent p) f ≡ shown_below v p → forest v p ≡ f
  forest-only f e = entries-injective (parent p) (forest v p) f (forest-listed ∙ sym e)
