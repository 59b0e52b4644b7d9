-- Elements that come one after another: the set with all of them stays valid, and what is in it. The elements of a tree sent in form come so
-- to the subject's set, and its rows depend only on the partitions that he dominates.
use mathlib.Core.Path.{◌≡◌, refl, sym, ap, subst, ◌∙◌}
use mathlib.Core.Logic.{◌⊎◌, inl, inr}
use mathlib.Core.Bool.{true, not, ◌&&◌}
use mathlib.Core.Option.{Option, none, some}
use mathlib.Core.List.Memᴰ
use mathlib.Core.List.{List, [], ◌∷◌, ◌++◌}
use Prim.Native.Nat.{ℕ, suc, ◌+◌, ◌%◌, ◌≤◌, ◌<◌}
use native.Mathlib.Omega.{arith}
use lib.ListN.{length, length-append}
use lib.Dec.{T, eqb, leb, eqb_refl}
use mir.Facts.{or_yes, eqb_yes, yes_eqb, yes_leb, leb_yes, ltb_no, not_T, T_not}
use Rattle.model.specs.Lists.{all, any, ◌∈◌}
use Rattle.model.specs.Sets.{put}
use Rattle.model.specs.Label.{is_label, dominates}
use Rattle.model.specs.Path.{Step, same_step, is_prefix, ends_in, valid_step, labels_ascend, valid_path, steps_of, key}
use Rattle.model.specs.Value.{Content, allowed, storable, bringable}
use Rattle.model.specs.Element.{Element, rank, valid_element, contains}
use Rattle.model.specs.Model.{Model, own_set, live}
use Rattle.model.specs.View.{in_view}
use Rattle.model.specs.Tree.{Forest, empty, element, Entry, entries}
use Rattle.model.specs.Intake.{siblings, differ, in_form, own_live, is_one, live_at, elements_of, with_all}
use Rattle.model.specs.Rows.{good_path, view_path, refusal, take_rows}
use Rattle.model.specs.Call.{insert_xml, op_rows}
use Rattle.model.proofs.Bools.{and_l, and_r, both, not-not}
use Rattle.model.proofs.Members.{in-any, not-any, any-ext, gather-in, in-gather, gather_append}
use Rattle.model.proofs.Lists.{all_append}
use Rattle.model.proofs.Dominance.{dominates-refl}
use Rattle.model.proofs.Order.{put_in, in-put, put-new, length-put}
use Rattle.model.proofs.Paths.{step-refl, prefix_refl, prefix_parent}
use Rattle.model.proofs.Prefixes.{prefix-whole, prefix-of-longer}
use Rattle.model.proofs.Partitions.{ValidSet}
use Rattle.model.proofs.Sets.{contains-in, in-contains, contains-more, closed_facts, fresh, put-valid}
use Rattle.model.proofs.Trees.{longer, last-longer, parent-longer, longer-same, prefix-front, longer-below}
use Rattle.model.proofs.Sending.{ElementForm, form-parts}
use Rattle.model.proofs.Ordering.{entries-under}
use Rattle.model.proofs.Rows.{Passes}
use Rattle.model.proofs.Restriction.{restrict, live_own, same-own, same_view, same_live}
use Rattle.model.proofs.Keeps.{ValidSets, in-view-own, in-view-below}

-- ---- elements put in one after another

-- an element may come to a set of label s: it is valid, its path is not there, and each other prefix of the own label is
pub record Comes (s : ℕ) (es : List Element) (x : Element) : Type 0 where
  pub valid : T (valid_element s x)
  pub lacks : T (not (contains es x.path))
  pub closes : (q : List Step) → T (is_prefix q x.path) → T (ends_in s q) → (q ≡ x.path) ⊎ T (contains es q)

-- elements may come one after another, each to the set with those before it
abbrev pub Coming : ℕ → List Element → List Element → Type 0
Coming s es [] = Unit {0}
Coming s es (x ∷ xs) = Comes s es x × Coming s (put rank x es) xs

-- the set with two lists of elements is that with the first, then with the second
pub with_append : (xs ys es : List Element) → with_all (xs ++ ys) es ≡ with_all ys (with_all xs es)
with_append [] ys es = refl
with_append (x ∷ xs) ys es = with_append xs ys (put rank x es)

-- what was there stays
pub with-old : (xs es : List Element) {e : Element} → e ∈ es → e ∈ with_all xs es
with-old [] es m = m
with-old (x ∷ xs) es m = with-old xs (put rank x es) (in-put rank x es m)

-- what is there afterwards was there, or it came
pub with_in : (xs es : List Element) {e : Element} → e ∈ with_all xs es → (e ∈ es) ⊎ (e ∈ xs)
with_in [] es m = inl m
with_in (x ∷ xs) es {e} m = go (with_in xs (put rank x es) m)
  where
    one : (e ≡ x) ⊎ (e ∈ es) → (e ∈ es) ⊎ (e ∈ x ∷ xs)
    one (inl q) = inr (Memᴰ.head q)
    one (inr k) = inl k

    go : (e ∈ put rank x es) ⊎ (e ∈ xs) → (e ∈ es) ⊎ (e ∈ x ∷ xs)
    go (inl k) = one (put_in rank x es k)
    go (inr k) = inr (Memᴰ.tail k)

module _ (s : ℕ) where
  -- a list and another behind it may come if the one may, and then the other
  pub coming-append : (xs ys es : List Element) → Coming s es xs → Coming s (with_all xs es) ys → Coming s es (xs ++ ys)
  coming-append [] ys es c d = d
  coming-append (x ∷ xs) ys es c d = (c.0, coming-append xs ys (put rank x es) c.1 d)

  -- and only if
  pub coming-front : (xs ys es : List Element) → Coming s es (xs ++ ys) → Coming s es xs
  coming-front [] ys es c = tt
  coming-front (x ∷ xs) ys es c = (c.0, coming-front xs ys (put rank x es) c.1)

  -- the other behind the one
  pub coming-back : (xs ys es : List Element) → Coming s es (xs ++ ys) → Coming s (with_all xs es) ys
  coming-back [] ys es c = c
  coming-back (x ∷ xs) ys es c = coming-back xs ys (put rank x es) c.1

  -- each is one more
  pub coming-length : (xs es : List Element) → Coming s es xs → length (with_all xs es) ≡ length es + length xs
  coming-length [] es c = omega arith
  coming-length (x ∷ xs) es c =
      let one : length (put rank x es) ≡ suc (length es) = length-put rank x es (fresh x es c.0.lacks) in
      let rest : length (with_all xs (put rank x es)) ≡ length (put rank x es) + length xs = coming-length xs (put rank x es) c.1 in
      omega arith

  -- the set stays valid, if there is room for them
  pub coming-valid : (xs es : List Element) → ValidSet key s es → length es + length xs ≤ 32 → Coming s es xs → ValidSet key s (with_all xs es)
  coming-valid [] es v h c = v
  coming-valid (x ∷ xs) es v h c =
      let one : length (put rank x es) ≡ suc (length es) = length-put rank x es (fresh x es c.0.lacks) in
      coming-valid xs (put rank x es) (put-valid x es c.0.lacks s v c.0.valid (omega arith) c.0.closes) (omega arith) c.1

  -- each is there afterwards
  pub with-new : (xs es : List Element) → Coming s es xs → {e : Element} → e ∈ xs → e ∈ with_all xs es
  with-new [] es c m = absurd (Memᴰ.not-nil m)
  with-new (x ∷ xs) es c {e} m = go (Memᴰ.cases_cons m) (λ (k : e ∈ xs). with-new xs (put rank x es) c.1 k)
    where
      go : (e ≡ x) ⊎ (e ∈ xs) → (e ∈ xs → e ∈ with_all xs (put rank x es)) → e ∈ with_all xs (put rank x es)
      go (inl q) f = rw q (with-old xs (put rank x es) (put-new rank x es (fresh x es c.0.lacks)))
      go (inr k) f = f k

-- a path that was there stays
contains-with : (xs es : List Element) (q : List Step) → T (contains es q) → T (contains (with_all xs es) q)
contains-with xs es q t = contains-more es (with_all xs es) (λ d m. with-old xs es m) q t

-- ---- a path with one step more

-- it ends in the step's label
pub ends-longer : (s : ℕ) (r : List Step) (a : Step) → a.label ≡ s → T (ends_in s (r ++ (a ∷ [])))
ends-longer s r a e = rw (last-longer r a) (yes_eqb e)

-- its labels ascend if those of the path do and the step's dominates the last
ascend-longer : (r : List Step) (n : ℕ) (b : Step) → T (labels_ascend r) → T (ends_in n r) → T (dominates b.label n) → T (labels_ascend (r ++ (b ∷ [])))
ascend-longer [] n b t e d = tt
ascend-longer (a ∷ []) n b t e d = let l : a.label ≡ n = eqb_yes e in both (dominates b.label a.label) true (rw l d) tt
ascend-longer (a ∷ c ∷ r) n b t e d =
    both (dominates c.label a.label) (labels_ascend ((c ∷ r) ++ (b ∷ [])))
    (and_l (dominates c.label a.label) (labels_ascend (c ∷ r)) t)
    (ascend-longer (c ∷ r) n b (and_r (dominates c.label a.label) (labels_ascend (c ∷ r)) t) e d)

-- a valid step more makes a valid path
valid-longer : (r : List Step) (n : ℕ) (b : Step) → T (valid_path r) → T (ends_in n r) → T (dominates b.label n) → T (valid_step b) → length r < 6
    → T (valid_path (r ++ (b ∷ [])))
unfolding valid_path
valid-longer r n b v e d w h =
    let l : length (r ++ (b ∷ [])) ≡ suc (length r) = longer r b in
    let low : 1 ≤ length (r ++ (b ∷ [])) = omega arith in
    let high : length (r ++ (b ∷ [])) ≤ 6 = omega arith in
    let lo : T (leb 1 (length (r ++ (b ∷ [])))) = yes_leb low in
    let hi : T (leb (length (r ++ (b ∷ []))) 6) = yes_leb high in
    let steps : T (all valid_step (r ++ (b ∷ []))) = all_append valid_step r (b ∷ []) (search (and_l, and_r)) (both (valid_step b) true w tt) in
    let up : T (labels_ascend (r ++ (b ∷ []))) = ascend-longer r n b (search (and_l, and_r)) e d in
    search both

-- one to begin with too
valid-first : (b : Step) → T (valid_step b) → T (valid_path (b ∷ []))
unfolding valid_path
valid-first b w = let all_one : T (all valid_step (b ∷ [])) = both (valid_step b) true w tt in search both

-- a valid path is not the root
valid-filled : (r : List Step) → T (valid_path r) → 1 ≤ length r
unfolding valid_path
valid-filled r v = leb_yes (search (and_l, and_r))

-- so it ends in a label
last-label : (r : List Step) → 1 ≤ length r → (n : ℕ) × T (ends_in n r)
last-label [] h = absurd (omega arith)
last-label (a ∷ []) h = (a.label, eqb_refl a.label)
last-label (a ∷ b ∷ r) h = last-label (b ∷ r) (omega arith)

-- ---- the elements of trees

-- those of the first, of the trees inside it, and of the trees behind it
pub elements-parts : (r : List Step) (a : Step) (c : Option Content) (i b : Forest)
    → elements_of r (element a c i b) ≡ live_at (r ++ (a ∷ [])) c ++ (elements_of (r ++ (a ∷ [])) i ++ elements_of r b)
unfolding elements_of
elements-parts r a c i b =
    ap (λ (l : List Element). live_at (r ++ (a ∷ [])) c ++ l)
    (gather_append (λ e. live_at e.path e.content) (entries (r ++ (a ∷ [])) i) (entries r b))

-- no tree, no element
pub elements-none : (r : List Step) → elements_of r empty ≡ []
unfolding elements_of
elements-none r = refl

-- an element as an entry
abbrev pub entry_of : Element → Entry
entry_of x = record { path = x.path; content = some x.content }

-- the elements that trees bring are their live entries
pub elements-in : (r : List Step) (f : Forest) {x : Element} → x ∈ elements_of r f → entry_of x ∈ entries r f
unfolding elements_of
elements-in r f {x} m =
    let g = gather-in (λ (e : Entry). live_at e.path e.content) (entries r f) m in
    subst (λ (e : Entry). e ∈ entries r f) (go g.0 g.0.content refl g.2) g.1
  where
    one : (e : Entry) (c : Content) → e.content ≡ some c → (x ≡ record { path = e.path; content = c }) ⊎ (x ∈ []) → e ≡ entry_of x
    one e c q (inl j) = (λ i. record { path = e.path; content = q i }) ∙ ap entry_of (sym j)
    one e c q (inr j) = absurd (Memᴰ.not-nil j)

    go : (e : Entry) (c : Option Content) → e.content ≡ c → x ∈ live_at e.path c → e ≡ entry_of x
    go e none q j = absurd (Memᴰ.not-nil j)
    go e (some c) q j = one e c q (Memᴰ.cases_cons j)

-- and the other way
pub in-elements : (r : List Step) (f : Forest) (x : Element) → entry_of x ∈ entries r f → x ∈ elements_of r f
unfolding elements_of
in-elements r f x m = in-gather (λ (e : Entry). live_at e.path e.content) (entries r f) m (Memᴰ.head refl)

-- they stand below the path
elements-below : (r : List Step) (f : Forest) {e : Element} → e ∈ elements_of r f → T (is_prefix r e.path)
elements-below r f {e} m = let u = entries-under r f (elements-in r f m) in prefix-front r u.0 e.path u.2

-- an element that bears label s and is live, and so are all others
pub own-parts : (s : ℕ) (a : Step) (c : Content) (i b : Forest) → T (own_live s (element a (some c) i b)) → (a.label ≡ s) × T (own_live s i) × T (own_live s b)
own-parts s a c i b t = (eqb_yes (search (and_l, and_r)), search (and_l, and_r), search (and_l, and_r))

-- where each is live, there are as many as entries
pub elements-count : (s : ℕ) (r : List Step) (f : Forest) → T (own_live s f) → length (elements_of r f) ≡ length (entries r f)
elements-count s r empty t = ap length (elements-none r)
elements-count s r (element a none i b) t = absurd t
elements-count s r (element a (some c) i b) t =
    let p : List Step = r ++ (a ∷ []) in
    let o = own-parts s a c i b t in
    let x : length (elements_of p i) ≡ length (entries p i) = elements-count s p i o.1 in
    let y : length (elements_of r b) ≡ length (entries r b) = elements-count s r b o.2 in
    let u : length (elements_of p i ++ elements_of r b) ≡ length (elements_of p i) + length (elements_of r b) = length-append (elements_of p i) (elements_of r b) in
    let v : length (entries p i ++ entries r b) ≡ length (entries p i) + length (entries r b) = length-append (entries p i) (entries r b) in
    let w : length (elements_of r (element a (some c) i b)) ≡ suc (length (elements_of p i ++ elements_of r b)) = ap length (elements-parts r a (some c) i b) in
    omega arith

-- the steps of trees that stand beside each other bear the label
pub own-siblings : (s : ℕ) (f : Forest) → T (own_live s f) → {d : Step} → d ∈ siblings f → d.label ≡ s
own-siblings s empty t m = absurd (Memᴰ.not-nil m)
own-siblings s (element a none i b) t m = absurd t
own-siblings s (element a (some c) i b) t {d} m = go (Memᴰ.cases_cons m) (λ (k : d ∈ siblings b). own-siblings s b (own-parts s a c i b t).2 k)
  where
    go : (d ≡ a) ⊎ (d ∈ siblings b) → (d ∈ siblings b → d.label ≡ s) → d.label ≡ s
    go (inl q) f = rw q (own-parts s a c i b t).0
    go (inr k) f = f k

-- ---- the elements of trees come one after another

-- elements of label s may stand one step below a path: with a valid step more it is valid, and the set has its prefixes of the label
pub record Under (s : ℕ) (r : List Step) (es : List Element) : Type 0 where
  pub steps : (a : Step) → T (valid_step a) → a.label ≡ s → length r < 6 → T (valid_path (r ++ (a ∷ [])))
  pub above : (q : List Step) → T (is_prefix q r) → T (ends_in s q) → T (contains es q)

-- the set has nothing at or below the paths of the trees' own elements
abbrev pub Bare : List Step → Forest → List Element → Type 0
Bare r f es = (a : Step) → a ∈ siblings f → (e : Element) → e ∈ es → T (is_prefix (r ++ (a ∷ [])) e.path) → ⊥

-- a larger set
under-with : {s : ℕ} {r : List Step} (xs es : List Element) → Under s r es → Under s r (with_all xs es)
under-with xs es u = record { steps = u.steps; above = λ q t e. contains-with xs es q (u.above q t e) }

-- the first of trees, below r, of label s
module _ (s : ℕ) (r : List Step) (a : Step) (c : Content) (i b : Forest) (es : List Element) (own : a.label ≡ s)
    (form : ElementForm (length r) a (some c) i b) (under : Under s r es) (bare : Bare r (element a (some c) i b) es) where
  abbrev place : List Step
  place = r ++ (a ∷ [])

  abbrev first : Element
  first = record { path = place; content = c }

  -- its path is valid
  good-path : T (valid_path place)
  good-path = under.steps a form.step own form.shallow

  -- a prefix of its path is the path, or a prefix of the one above
  near : (q : List Step) → T (is_prefix q place) → (q ≡ place) ⊎ T (is_prefix q r)
  near q t = rw (parent-longer r a) at (prefix_parent q place t)

  -- nothing is below it
  none_below : (e : Element) → e ∈ es → T (is_prefix place e.path) → ⊥
  none_below = bare a (Memᴰ.head refl)

  -- it may come
  first-comes : Comes s es first
  unfolding valid_element storable bringable
  first-comes =
      let path : T (valid_path place) = good-path in
      let ends : T (ends_in s place) = ends-longer s r a own in
      let value : T (allowed c.kind c.value) = form.shows in
      record {
        valid = search both;
        lacks = not_T (contains es place) (λ t. let k = contains-in es place t in none_below k.0 k.1 (rw (← k.2) (prefix_refl place)));
        closes = λ q t e. go q e (near q t);
      }
    where
      go : (q : List Step) → T (ends_in s q) → (q ≡ place) ⊎ T (is_prefix q r) → (q ≡ place) ⊎ T (contains es q)
      go q e (inl h) = inl h
      go q e (inr h) = inr (under.above q h e)

  -- those inside may stand below it
  inside_under : Under s place (put rank first es)
  unfolding valid_step
  inside_under =
      record {
        steps = λ d v l h.
            let label : T (is_label d.label) = search (and_l, and_r) in
            valid-longer place s d good-path (ends-longer s r a own) (subst (λ (n : ℕ). T (dominates d.label n)) l (dominates-refl d.label label)) v h;
        above = λ q t e. go q e (near q t);
      }
    where
      go : (q : List Step) → T (ends_in s q) → (q ≡ place) ⊎ T (is_prefix q r) → T (contains (put rank first es) q)
      go q e (inl h) = rw h (in-contains (put rank first es) first (put-new rank first es (fresh first es first-comes.lacks)))
      go q e (inr h) = contains-with (first ∷ []) es q (under.above q h e)

  -- and the set with it has nothing where they come
  inside-bare : Bare place i (put rank first es)
  inside-bare d m e k t = go (put_in rank first es k)
    where
      go : (e ≡ first) ⊎ (e ∈ es) → ⊥
      go (inl h) = let l : length place < length place = longer-below place d place (rw h at t) in omega arith
      go (inr h) = none_below e h (prefix-front place d e.path t)

  -- nor has the set with those inside too where those behind come, if their steps differ from its step
  behind-bare : T (not (any (same_step a) (siblings b))) → Bare r b (with_all (first ∷ elements_of place i) es)
  behind-bare other d m e k t = go (with_in (first ∷ elements_of place i) es k)
    where
      apart : T (is_prefix place e.path) → ⊥
      apart h =
          let x : length place ≡ suc (length r) = longer r a in
          let y : length (r ++ (d ∷ [])) ≡ suc (length r) = longer r d in
          let z : place ≡ r ++ (d ∷ []) = prefix-whole place (r ++ (d ∷ [])) (prefix-of-longer place (r ++ (d ∷ [])) e.path h t (omega arith)) (omega arith) in
          let same : a ≡ d = longer-same r a d z in
          T_not (any (same_step a) (siblings b)) (in-any (same_step a) (siblings b) m (subst (λ (n : Step). T (same_step a n)) same (step-refl a))) other

      inner : (e ≡ first) ⊎ (e ∈ elements_of place i) → ⊥
      inner (inl h) = apart (rw h (prefix_refl place))
      inner (inr h) = apart (elements-below place i h)

      go : (e ∈ es) ⊎ (e ∈ first ∷ elements_of place i) → ⊥
      go (inl h) = bare d (Memᴰ.tail m) e h t
      go (inr h) = inner (Memᴰ.cases_cons h)

-- all elements of trees in form, of siblings that differ, each live and of label s
pub trees-come : (s : ℕ) (r : List Step) (f : Forest) (es : List Element) → T (in_form (length r) f) → T (own_live s f) → T (differ (siblings f))
    → Under s r es → Bare r f es → Coming s es (elements_of r f)
trees-come s r empty es t o d u n = rw (elements-none r) tt
trees-come s r (element a none i b) es t o d u n = absurd o
trees-come s r (element a (some c) i b) es t o d u n =
    let p : List Step = r ++ (a ∷ []) in
    let x : Element = record { path = p; content = c } in
    let form : ElementForm (length r) a (some c) i b = form-parts (length r) a (some c) i b t in
    let own = own-parts s a c i b o in
    let inside : Coming s (put rank x es) (elements_of p i) =
    trees-come s p i (put rank x es) (rw (longer r a) form.within) own.1 form.differs
    (inside_under s r a c i b es own.0 form u n) (inside-bare s r a c i b es own.0 form u n) in
    let behind : Coming s (with_all (x ∷ elements_of p i) es) (elements_of r b) =
    trees-come s r b (with_all (x ∷ elements_of p i) es) form.next own.2 (and_r (not (any (same_step a) (siblings b))) (differ (siblings b)) d)
    (under-with (x ∷ elements_of p i) es u)
    (behind-bare s r a c i b es own.0 form u n (and_l (not (any (same_step a) (siblings b))) (differ (siblings b)) d)) in
    subst (λ (l : List Element). Coming s es l) (sym (elements-parts r a (some c) i b))
    (coming-append s (x ∷ elements_of p i) (elements_of r b) es (first-comes s r a c i b es own.0 form u n, inside) behind)

-- ---- a tree that is taken in

-- what rows 4, 13, 14, 7, 8 and 9 show: the path above, one tree in form, its elements live and of the subject's label; the path is in view, the
-- tree's own element is not there, and there is room for all
pub record Taken (s : ℕ) (m : Model) (p : List ℕ) (f : Forest) : Type 0 where
  pub path : T (view_path p)
  pub one : T (is_one f)
  pub form : T (in_form (length (steps_of p)) f)
  pub own : T (own_live s f)
  pub seen : T (in_view s m (steps_of p))
  pub lacks : (a : Step) → a ∈ siblings f → T (not (contains (own_set s m) (steps_of p ++ (a ∷ []))))
  pub free : length (own_set s m) + length (entries (steps_of p) f) ≤ 32

-- the rows show it
pub rows_taken : (s : ℕ) (m : Model) (p : List ℕ) (f : Forest) → Passes (op_rows (insert_xml p f) s m) → Taken s m p f
unfolding op_rows
rows_taken s m p f h =
    let sent : T (is_one f && in_form (length (steps_of p)) f) = not-not (is_one f && in_form (length (steps_of p)) f) h.1.0 in
    let own : T (own_live s f) = not-not (own_live s f) h.1.1.0 in
    record {
      path = not-not (view_path p) h.0;
      one = and_l (is_one f) (in_form (length (steps_of p)) f) sent;
      form = and_r (is_one f) (in_form (length (steps_of p)) f) sent;
      own = own;
      seen = not-not (in_view s m (steps_of p)) h.1.1.1.0;
      lacks = λ a k.
          rw (live_own s m (steps_of p ++ (a ∷ [])) (ends-longer s (steps_of p) a (own-siblings s f own k)))
          at (not-any (λ d. live m (steps_of p ++ (d ∷ []))) (siblings f) h.1.1.1.1.0 k);
      free = ltb_no h.1.1.1.1.1.0;
    }

-- the path above is the root or a valid path
view-steps : (p : List ℕ) → T (view_path p) → (steps_of p ≡ []) ⊎ T (valid_path (steps_of p))
unfolding view_path good_path
view-steps p t = go p (or_yes (eqb (length p) 0) (eqb (length p % 3) 0 && valid_path (steps_of p)) t)
  where
    go : (q : List ℕ) → T (eqb (length q) 0) ⊎ T (eqb (length q % 3) 0 && valid_path (steps_of q)) → (steps_of q ≡ []) ⊎ T (valid_path (steps_of q))
    go [] h = inl refl
    go (x ∷ q) (inl h) = let z : suc (length q) ≡ 0 = eqb_yes h in absurd (omega arith)
    go (x ∷ q) (inr h) = inr (and_r (eqb (length (x ∷ q) % 3) 0) (valid_path (steps_of (x ∷ q))) h)

-- the subject's elements may stand below a path in his view
seen-under : (s : ℕ) (m : Model) (r : List Step) → ValidSets m → (r ≡ []) ⊎ T (valid_path r) → T (in_view s m r) → Under s r (own_set s m)
seen-under s m r sets k v = record { steps = λ a w l h. go k a w l h; above = λ q t e. in-view-own s m r q sets v t e }
  where
    go : (r ≡ []) ⊎ T (valid_path r) → (a : Step) → T (valid_step a) → a.label ≡ s → length r < 6 → T (valid_path (r ++ (a ∷ [])))
    go (inl e) a w l h = rw e (valid-first a w)
    go (inr g) a w l h =
        let n : (n : ℕ) × T (ends_in n r) = last-label r (valid-filled r g) in
        valid-longer r n.0 a g n.1 (rw l (in-view-below s m r n.0 sets v n.1)) w h

-- one tree has no two siblings
one-differs : (f : Forest) → T (is_one f) → T (differ (siblings f))
one-differs empty t = absurd t
one-differs (element a c i empty) t = tt
one-differs (element a c i (element b e j o)) t = absurd t

module _ {s : ℕ} {m : Model} {p : List ℕ} {f : Forest} (sets : ValidSets m) (t : Taken s m p f) where
  -- its elements may come to the subject's set one after another
  pub taken-coming : Coming s (own_set s m) (elements_of (steps_of p) f)
  taken-coming =
      trees-come s (steps_of p) f (own_set s m) t.form t.own (one-differs f t.one)
      (seen-under s m (steps_of p) sets (view-steps p t.path) t.seen)
      (λ a k e j b.
      T_not (contains (own_set s m) (steps_of p ++ (a ∷ [])))
      (closed_facts s (own_set s m) (sets s).closes e j (steps_of p ++ (a ∷ [])) b (ends-longer s (steps_of p) a (own-siblings s f t.own k)))
      (t.lacks a k))

  -- so it stays valid
  pub taken-valid : ValidSet key s (with_all (elements_of (steps_of p) f) (own_set s m))
  taken-valid =
      let n : length (elements_of (steps_of p) f) ≡ length (entries (steps_of p) f) = elements-count s (steps_of p) f t.own in
      let room : length (own_set s m) + length (entries (steps_of p) f) ≤ 32 = t.free in
      coming-valid s (elements_of (steps_of p) f) (own_set s m) (sets s) (omega arith) taken-coming

-- rows 7 to 9 of a tree whose elements bear the subject's label depend only on the partitions that he dominates
pub same-take : (s : ℕ) (m : Model) → T (is_label s) → (p : List Step) (f : Forest) → T (own_live s f)
    → refusal (take_rows s m p f) ≡ refusal (take_rows s (restrict s m) p f)
same-take s m t p f o = rw (same_view s m t p, same-top, same-own s m t)
  where
    same-top : any (λ a. live m (p ++ (a ∷ []))) (siblings f) ≡ any (λ a. live (restrict s m) (p ++ (a ∷ []))) (siblings f)
    same-top =
        any-ext (λ a. live m (p ++ (a ∷ []))) (λ a. live (restrict s m) (p ++ (a ∷ []))) (siblings f)
        (λ a k. same_live s m t (p ++ (a ∷ [])) (ends-longer s p a (own-siblings s f o k)))
