-- A tree that stands alone at its path, among the elements that are shown, is shown as it is, siblings in path order.
use mathlib.Core.Path.{◌≡◌, refl, sym, ap, subst, ◌∙◌}
use mathlib.Core.Logic.{◌⊎◌, inl, inr}
use mathlib.Core.Bool.{not}
use mathlib.Core.Option.{none, some}
use mathlib.Core.List.Memᴰ
use mathlib.Core.List.{List, [], ◌∷◌, ◌++◌}
use Prim.Native.Nat.{ℕ, suc, ◌≤◌, ◌<◌}
use native.Mathlib.Omega.{arith}
use lib.ListN.{length}
use lib.Dec.{T, ltb}
use mir.Facts.{T_not, ltb_yes, ltb_no}
use Rattle.model.specs.Lists.{◌∈◌}
use Rattle.model.specs.Sets.{sorted}
use Rattle.model.specs.Path.{Step, same_path, is_prefix, path_rank}
use Rattle.model.specs.Value.{Content}
use Rattle.model.specs.Element.{Element}
use Rattle.model.specs.View.{listed, content_at}
use Rattle.model.specs.Tree.{Forest, empty, element, Entry, entries, shown_below, forest}
use Rattle.model.specs.Intake.{in_form, own_live, elements_of}
use Rattle.model.proofs.Bools.{decide, cond_yes, cond_no}
use Rattle.model.proofs.Members.{in-front, in-back, map-in, in_map}
use Rattle.model.proofs.Alike.{Alike, parts-cases}
use Rattle.model.proofs.Order.{sorted-unique, sorted-one}
use Rattle.model.proofs.Paths.{same-eq, same_refl, prefix_refl, prefix_trans, in-prefixes}
use Rattle.model.proofs.Prefixes.{prefix-whole, prefix-of-longer}
use Rattle.model.proofs.Listings.{reached, listed_of, in-listed}
use Rattle.model.proofs.Trees.{entry_rank, longer, parent-longer, prefix-front, longer-below, shown-branch, forest-only}
use Rattle.model.proofs.Ordering.{in_order, order_alike, order-ordered, entries-under, ordered-sorted}
use Rattle.model.proofs.Taking.{entry_of, elements-in, in-elements, own-parts}

-- ---- the elements of trees

-- a path between that of trees and an element's is an element's
entries-whole : (r : List Step) (f : Forest) {e : Entry} → e ∈ entries r f → (x : List Step) → T (is_prefix x e.path) → length r < length x
    → (d : Entry) × (d ∈ entries r f) × (x ≡ d.path)
entries-whole r empty m x t h = absurd (Memᴰ.not-nil m)
entries-whole r (element a c i o) {e} m x t h =
    let l : length (r ++ (a ∷ [])) ≡ suc (length r) = longer r a in
    parts-cases (record { path = r ++ (a ∷ []); content = c }) (entries (r ++ (a ∷ [])) i) (entries r o) m
    (λ q. (record { path = r ++ (a ∷ []); content = c }, Memᴰ.head refl, prefix-whole x (r ++ (a ∷ [])) (rw q at t) (omega arith)))
    (λ k. decide (ltb (suc (length r)) (length x))
    (λ (g : T (ltb (suc (length r)) (length x))).
    let g' : suc (length r) < length x = ltb_yes g in
    let w = entries-whole (r ++ (a ∷ [])) i k x t (omega arith) in
    (w.0, Memᴰ.tail (in-front (entries (r ++ (a ∷ [])) i) (entries r o) w.1), w.2))
    (λ (g : T (not (ltb (suc (length r)) (length x)))).
    let g' : length x ≤ suc (length r) = ltb_no g in
    let u = entries-under (r ++ (a ∷ [])) i k in
    let s : T (is_prefix x (r ++ (a ∷ []))) = prefix-of-longer x (r ++ (a ∷ [])) e.path t (prefix-front (r ++ (a ∷ [])) u.0 e.path u.2) (omega arith) in
    (record { path = r ++ (a ∷ []); content = c }, Memᴰ.head refl, prefix-whole x (r ++ (a ∷ [])) s (omega arith))))
    (λ k. let w = entries-whole r o k x t h in (w.0, Memᴰ.tail (in-back (entries (r ++ (a ∷ [])) i) (entries r o) w.1), w.2))

-- the entries of live trees are elements
live-entry : (s : ℕ) (r : List Step) (f : Forest) → T (own_live s f) → {e : Entry} → e ∈ entries r f → (x : Element) × (e ≡ entry_of x)
live-entry s r empty t m = absurd (Memᴰ.not-nil m)
live-entry s r (element a none i o) t m = absurd t
live-entry s r (element a (some c) i o) t {e} m =
    parts-cases (record { path = r ++ (a ∷ []); content = some c }) (entries (r ++ (a ∷ [])) i) (entries r o) m
    (λ q. (record { path = r ++ (a ∷ []); content = c }, q))
    (λ k. live-entry s (r ++ (a ∷ [])) i (own-parts s a c i o t).1 k)
    (λ k. live-entry s r o (own-parts s a c i o t).2 k)

-- ---- trees that stand alone at a path

-- the content at an element's path, if an element of this path is itself
content-at : (v : List Element) (x : Element) → x ∈ v → ((y : Element) → y ∈ v → x.path ≡ y.path → y ≡ x) → content_at v x.path ≡ some x.content
content-at [] x m one = absurd (Memᴰ.not-nil m)
content-at (y ∷ v) x m one =
    decide (same_path x.path y.path)
    (λ (t : T (same_path x.path y.path)).
    cond_yes (same_path x.path y.path) (some y.content) (content_at v x.path) t
    ∙ ap (λ (e : Element). some e.content) (one y (Memᴰ.head refl) (same-eq x.path y.path t)))
    (λ (t : T (not (same_path x.path y.path))).
    cond_no (same_path x.path y.path) (some y.content) (content_at v x.path) t
    ∙ content-at v x (later t (Memᴰ.cases_cons m)) (λ e k q. one e (Memᴰ.tail k) q))
  where
    later : T (not (same_path x.path y.path)) → (x ≡ y) ⊎ (x ∈ v) → x ∈ v
    later t (inl e) = absurd (T_not (same_path x.path y.path) (rw e (same_refl y.path)) t)
    later t (inr k) = k

-- what stands at a path with a step more, or below it, is listed
path-listed : (v : List Element) (p : List Step) (a : Step) (x : Element) → x ∈ v → (q : List Step) → q ≡ x.path → T (is_prefix (p ++ (a ∷ [])) q)
    → q ∈ listed v (p ++ (a ∷ []))
path-listed v p a x m [] e t = let l : length p < 0 = longer-below p a [] t in absurd (omega arith)
path-listed v p a x m (b ∷ q) e t =
    in-listed v (p ++ (a ∷ [])) b q t (reached v (b ∷ q) m (subst (λ (y : List Step). T (is_prefix (b ∷ q) y)) e (prefix_refl (b ∷ q))))

-- one live tree
abbrev pub tree : Step → Content → Forest → Forest
tree a c inside = element a (some c) inside empty

-- elements that are those of a tree below path p, as far as they are at or below the tree's path
pub record Alone (v : List Element) (p : List Step) (a : Step) (c : Content) (inside : Forest) : Type 0 where
  pub comes : (x : Element) → x ∈ elements_of p (tree a c inside) → x ∈ v
  pub only : (x : Element) → x ∈ v → T (is_prefix (p ++ (a ∷ [])) x.path) → x ∈ elements_of p (tree a c inside)

module _ (p : List Step) (a : Step) (c : Content) (inside : Forest) (form : T (in_form (length p) (tree a c inside))) where
  -- the tree's path
  abbrev top : List Step
  top = p ++ (a ∷ [])

  -- its elements
  abbrev sent : List Entry
  sent = entries p (tree a c inside)

  -- the same in path order
  abbrev ordered : List Entry
  ordered = entries p (in_order (tree a c inside))

  -- they ascend
  rising : T (sorted entry_rank ordered)
  rising = ordered-sorted p (in_order (tree a c inside)) (order-ordered (length p) (tree a c inside) form tt)

  -- and are the tree's
  alike : Alike ordered sent
  alike = order_alike p (tree a c inside)

  -- no two elements have one path
  sent-one : (d e : Entry) → d ∈ sent → e ∈ sent → d.path ≡ e.path → d ≡ e
  sent-one d e h k q = sorted-one entry_rank ordered rising d e (alike.from d h) (alike.from e k) (ap path_rank q)

  -- all are at or below the tree's path
  sent-below : {e : Entry} → e ∈ sent → T (is_prefix top e.path)
  sent-below {e} m = let u = entries-under p (tree a c inside) m in go u.0 (Memᴰ.cases_cons u.1) u.2
    where
      go : (b : Step) → (b ≡ a) ⊎ (b ∈ []) → T (is_prefix (p ++ (b ∷ [])) e.path) → T (is_prefix top e.path)
      go b (inl q) t = rw q at t
      go b (inr k) t = absurd (Memᴰ.not-nil k)

  -- so of the elements that it brings
  elements-one : (x y : Element) → x ∈ elements_of p (tree a c inside) → y ∈ elements_of p (tree a c inside) → x.path ≡ y.path → x ≡ y
  elements-one x y h k r =
      let q : entry_of x ≡ entry_of y = sent-one (entry_of x) (entry_of y) (elements-in p (tree a c inside) h) (elements-in p (tree a c inside) k) r in
      let z : some x.content ≡ some y.content = ap (λ (d : Entry). d.content) q in
      let content : x.content ≡ y.content = cc in
      λ i. record { path = r i; content = content i }

  module _ (s : ℕ) (live : T (own_live s (tree a c inside))) (v : List Element) (alone : Alone v p a c inside) where
    -- a path as it is shown
    abbrev shown_at : List Step → Entry
    shown_at q = record { path = q; content = content_at v q }

    -- each element of the tree is one that it brings
    sent-comes : {e : Entry} → e ∈ sent → (x : Element) × (e ≡ entry_of x) × (x ∈ elements_of p (tree a c inside))
    sent-comes m =
        let w = live-entry s p (tree a c inside) live m in
        (w.0, w.1, in-elements p (tree a c inside) w.0 (subst (λ (d : Entry). d ∈ sent) w.1 m))

    -- it is shown with its content
    sent-content : {e : Entry} → e ∈ sent → shown_at e.path ≡ e
    sent-content m =
        let w = sent-comes m in
        ap (λ (d : Entry). shown_at d.path) w.1 ∙ (λ i. record { path = w.0.path; content = content w.0 w.2 i }) ∙ sym w.1
      where
        content : (x : Element) → x ∈ elements_of p (tree a c inside) → content_at v x.path ≡ some x.content
        content x k = content-at v x (alone.comes x k) (λ y h r.
            elements-one y x (alone.only y h (subst (λ (q : List Step). T (is_prefix top q)) r (sent-below (elements-in p (tree a c inside) k)))) k (sym r))

    -- so it is shown
    sent-shown : (e : Entry) → e ∈ sent → e ∈ shown_below v top
    unfolding shown_below
    sent-shown e m =
        let w = sent-comes m in
        subst (λ (d : Entry). d ∈ shown_below v top) (sent-content m)
        (in_map shown_at (listed v top) (path-listed v p a w.0 (alone.comes w.0 w.2) e.path (ap (λ (d : Entry). d.path) w.1) (sent-below m)))

    -- a listed path is one of them
    listed-sent : (q : List Step) → q ∈ listed v top → (d : Entry) × (d ∈ sent) × (q ≡ d.path)
    listed-sent q m =
        let l = listed_of v top q m in
        let t : T (is_prefix q l.0.path) = in-prefixes q l.0.path l.2 in
        entries-whole p (tree a c inside) (elements-in p (tree a c inside) (alone.only l.0 l.1 (prefix_trans top q l.0.path l.3 t)))
        q t (longer-below p a q l.3)

    -- so nothing else is shown
    shown-sent : (e : Entry) → e ∈ shown_below v top → e ∈ sent
    unfolding shown_below
    shown-sent e m = let k = map-in shown_at (listed v top) m in go k.0 k.2 (listed-sent k.0 k.1)
      where
        go : (q : List Step) → e ≡ shown_at q → (d : Entry) × (d ∈ sent) × (q ≡ d.path) → e ∈ sent
        go q h w = subst (λ (d : Entry). d ∈ sent) (sym (h ∙ ap shown_at w.2 ∙ sent-content w.1)) w.1

    -- the trees at the tree's path are the tree with siblings in path order
    pub forest-alone : forest v top ≡ in_order (tree a c inside)
    forest-alone =
        forest-only v top (in_order (tree a c inside))
        (ap (λ (r : List Step). entries r (in_order (tree a c inside))) (parent-longer p a)
        ∙ sorted-unique entry_rank ordered (shown_below v top) rising (shown-branch v top).rises
        (λ e m. sent-shown e (alike.to e m)) (λ e m. alike.from e (shown-sent e m)))
