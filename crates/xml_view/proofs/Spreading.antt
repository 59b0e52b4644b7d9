-- Of the walk's entries the trees by depth are the model's.
use mathlib.Core.Path.{◌≡◌, refl, sym, ap, subst, ◌∙◌}
use mathlib.Core.Bool.{not}
use mathlib.Core.List.Memᴰ
use mathlib.Core.List.{List, [], ◌∷◌, ◌++◌, map}
use Prim.Native.Nat.{ℕ, zero, suc, ◌+◌, ◌-◌, ◌≤◌, ◌<◌}
use native.Mathlib.Omega.{arith}
use lib.ListN.{length, take, drop, length-drop, drop_of_length-le}
use lib.Seq.{take-add, take_all, length-take-le}
use lib.Dec.{T, ltb}
use mir.Facts.{ltb_yes, ltb_no}
use Rattle.model.specs.Lists.{gather, ◌∈◌}
use Rattle.model.specs.Path.{Step, is_prefix, prefixes, parent}
use Rattle.model.specs.Element.{Element}
use Rattle.model.specs.View.{listed, below}
use Rattle.model.specs.Tree.{Entry, entries, shown_below, forest}
use Rattle.model.proofs.Bools.{decide}
use Rattle.model.proofs.Paths.{prefix_refl, prefix_trans, parent-prefix}
use Rattle.model.proofs.Prefixes.{prefix-length, prefix-of-longer, length-parent, length-prefixes, prefix-at, take_parent}
use Rattle.model.proofs.Trees.{one-longer, grown-entries, shown-branch, forest-only}
use Rattle.path.specs.Common.{common}
use Rattle.path.proofs.Common.{common-take}
use Rattle.listing.specs.Walk.{walk_of}
use Rattle.listing.proofs.Walks.{Distinct, Rest, rest-start, rest-new, rest-next}
use Rattle.listing.proofs.Printed.{walk-shown}
use Rattle.xml_view.specs.Nested.{inner, contents}
use Rattle.xml_view.specs.Places.{entry_at, shown}
use Rattle.xml_view.proofs.Nesting.{steps, inner-more, inner-none, inner-empty, inner-split, contents-empty, contents-none, contents-more}
use Rattle.xml_view.proofs.Places.{walk-left}

-- ---- entries each of which stands one step below the one before it or below a prefix of that

abbrev Stepwise : List Step → List Entry → Type 0
Stepwise q [] = Unit {0}
Stepwise q (e ∷ es) = T (is_prefix (parent e.path) q) × (1 ≤ steps e) × Stepwise e.path es

-- the first has no more than n steps
abbrev Begins : ℕ → List Entry → Type 0
Begins n [] = Unit {0}
Begins n (e ∷ es) = steps e ≤ n

begins : (q : List Step) (es : List Entry) → Stepwise q es → Begins (suc (length q)) es
begins q [] w = tt
begins q (e ∷ es) w = omega (arith, length-parent e.path, prefix-length (parent e.path) q w.0)

-- a prefix of q that is no longer than the parent is a prefix of the path
under : (x q : List Step) (e : Entry) → T (is_prefix x q) → T (is_prefix (parent e.path) q) → length x < steps e → T (is_prefix x e.path)
under x q e s t h =
    prefix_trans x (parent e.path) e.path
    (prefix-of-longer x (parent e.path) q s t (omega (arith, length-parent e.path))) (parent-prefix e.path)

-- what is left behind those inside x
module _ (x : List Step) where
  abbrev behind : List Entry → List Entry
  behind es = drop (inner (length x) es) es

  after-inner : (q : List Step) (es : List Entry) → Stepwise q es → T (is_prefix x q)
      → (r : List Step) × T (is_prefix x r) × Stepwise r (behind es) × Begins (length x) (behind es)
  after-inner q [] w t = rw (inner-empty (length x)) (q, t, tt, tt)
  after-inner q (e ∷ es) w t =
      decide (ltb (length x) (steps e))
      (λ (h : T (ltb (length x) (steps e))).
      rw (inner-more (length x) e es (ltb_yes h)) (after-inner e.path es w.2 (under x q e t w.0 (ltb_yes h))))
      (λ (h : T (not (ltb (length x) (steps e)))).
      rw (inner-none (length x) e es (ltb_no h)) (q, t, w, ltb_no h))

-- ---- the elements of the trees are the entries

none-entries : (r : List Step) → entries r (contents (length r) []) ≡ take (inner (length r) []) []
none-entries r = ap (entries r) (contents-empty (length r)) ∙ sym (ap (λ (k : ℕ). take k []) (inner-empty (length r)))

contents-entries : (n : ℕ) (r q : List Step) (es : List Entry) → length es ≤ n → T (is_prefix r q) → Stepwise q es → Begins (suc (length r)) es
    → entries r (contents (length r) es) ≡ take (inner (length r) es) es
contents-entries zero r q [] l t w g = none-entries r
contents-entries zero r q (e ∷ es) l t w g = absurd (omega arith)
contents-entries (suc n) r q [] l t w g = none-entries r
contents-entries (suc n) r q (e ∷ es) l t w g =
    decide (ltb (length r) (steps e))
    (λ (h : T (ltb (length r) (steps e))).
    let d : length r < steps e = ltb_yes h in
    let s : steps e ≡ suc (length r) = omega arith in
    let o = one-longer r e.path (under r q e t w.0 d) s in
    let k : ℕ = inner (steps e) es in
    let rest : List Entry = drop k es in
    let after = after-inner e.path e.path es w.2 (prefix_refl e.path) in
    let inside : entries e.path (contents (steps e) es) ≡ take k es =
    contents-entries n e.path e.path es (omega arith) (prefix_refl e.path) w.2 (begins e.path es w.2) in
    let others : entries r (contents (length r) rest) ≡ take (inner (length r) rest) rest =
    contents-entries n r after.0 rest (omega (arith, length-drop k es))
    (prefix_trans r e.path after.0 (under r q e t w.0 d) after.1) after.2 (subst (λ (j : ℕ). Begins j rest) s after.3) in
    ap (entries r) (contents-more (length r) e es d)
    ∙ grown-entries r e o.0 (contents (steps e) es) (contents (length r) rest) o.1 inside others
    ∙ ap (λ (x : List Entry). e ∷ x) (sym (take-add k (inner (length r) rest) es))
    ∙ ap (λ (j : ℕ). take j (e ∷ es)) (sym (inner-more (length r) e es d ∙ ap suc (inner-split (length r) (steps e) es d))))
    (λ (h : T (not (ltb (length r) (steps e)))).
    ap (entries r) (contents-none (length r) e es (ltb_no h)) ∙ sym (ap (λ (j : ℕ). take j (e ∷ es)) (inner-none (length r) e es (ltb_no h))))

-- ---- the walk goes stepwise

-- of an element: its first d + 1 steps, and then what is left of it
first-stepwise : (d : ℕ) (e : Element) (es : List Entry) (r : List Step) → d < length e.path → T (is_prefix (take d e.path) r)
    → Stepwise (take (suc d) e.path) (gather (shown (e ∷ [])) (drop (suc d) (prefixes e.path)) ++ es)
    → Stepwise r (gather (shown (e ∷ [])) (drop d (prefixes e.path)) ++ es)
first-stepwise d e es r h t w =
    let s : length (take (suc d) e.path) ≡ suc d = length-take-le (suc d) e.path h in
    subst (λ (x : List (List Step)). Stepwise r (gather (shown (e ∷ [])) x ++ es)) (sym (prefix-at d e.path h))
    (rw (take_parent d e.path h) t, omega (arith, s), w)

-- from its first d + 1 steps on, k entries and one
left-stepwise : (k d : ℕ) (e : Element) (es : List Entry) (r : List Step) → suc d + k ≡ length e.path → T (is_prefix (take d e.path) r)
    → Stepwise e.path es → Stepwise r (gather (shown (e ∷ [])) (drop d (prefixes e.path)) ++ es)
left-stepwise zero d e es r l t w =
    let few : length (prefixes e.path) ≤ suc d = omega (arith, length-prefixes e.path) in
    let whole : take (suc d) e.path ≡ e.path = take_all (suc d) e.path (omega arith) in
    first-stepwise d e es r (omega arith) t (rw (drop_of_length-le (prefixes e.path) few, whole) w)
left-stepwise (suc k) d e es r l t w =
    first-stepwise d e es r (omega arith) t
    (left-stepwise k (suc d) e es (take (suc d) e.path) (omega arith) (prefix_refl (take (suc d) e.path)) w)

walk-stepwise : {v : List Element} {p : List Step} (r : List Step) (es : List Element) → Rest v p r es → Stepwise r (walk_of shown r es)
walk-stepwise r [] f = tt
walk-stepwise r (e ∷ es) f =
    let n : common r e.path < length e.path = rest-new f in
    subst (Stepwise r) (sym (walk-left r e es))
    (left-stepwise (length e.path - suc (common r e.path)) (common r e.path) e (walk_of shown e.path es) r (omega arith)
    (common-take r e.path) (walk-stepwise e.path es (rest-next f)))

-- ---- the whole view

inner-all : (d : ℕ) (es : List Entry) → ((e : Entry) → e ∈ es → d < steps e) → inner d es ≡ length es
inner-all d [] h = inner-empty d
inner-all d (e ∷ es) h = inner-more d e es (h e (Memᴰ.head refl)) ∙ ap suc (inner-all d es (λ c m. h c (Memᴰ.tail m)))

gather-shown : (v : List Element) (l : List (List Step)) → gather (shown v) l ≡ map (entry_at v) l
gather-shown v [] = refl
gather-shown v (q ∷ l) = ap (λ (x : List Entry). entry_at v q ∷ x) (gather-shown v l)

module _ (v : List Element) (p : List Step) (d : Distinct v) where
  -- the walk lists what the view shows
  pub walk-entries : walk_of shown (parent p) (below p v) ≡ shown_below v p
  unfolding shown_below
  walk-entries = sym (walk-shown shown (λ x u w e. ap (λ c. record { path = x; content = c } ∷ []) e) v p d) ∙ gather-shown v (listed v p)

  -- the trees by depth are those of the view
  pub contents-forest : contents (length (parent p)) (walk_of shown (parent p) (below p v)) ≡ forest v p
  contents-forest =
      let es : List Entry = walk_of shown (parent p) (below p v) in
      let w : Stepwise (parent p) es = walk-stepwise (parent p) (below p v) (rest-start p d) in
      let all : inner (length (parent p)) es ≡ length es =
      subst (λ (l : List Entry). inner (length (parent p)) l ≡ length l) (sym walk-entries)
      (inner-all (length (parent p)) (shown_below v p) (λ e m. ((shown-branch v p).below e m).1)) in
      sym (forest-only v p (contents (length (parent p)) es)
      (contents-entries (length es) (parent p) (parent p) es (omega arith) (prefix_refl (parent p)) w (begins (parent p) es w)
      ∙ ap (λ (k : ℕ). take k es) all
      ∙ take_all (length es) es (omega arith)
      ∙ walk-entries))
