-- What a view shows at a path in view is what stands in the set of the path's label: its content where it is live, and the mark
-- of a removed element where it is not.
use mathlib.Core.Path.{◌≡◌, refl, sym, ap, subst, ◌∙◌}
use mathlib.Core.Bool.{Bool, true, false, not, cond, ◌&&◌, ◌||◌}
use mathlib.Core.Option.{Option, none, some}
use mathlib.Core.List.{List, [], ◌∷◌, ◌++◌}
use Prim.Native.Nat.{ℕ}
use native.Mathlib.Omega.{arith}
use lib.Dec.{T, eqb, eqb_refl}
use mir.Facts.{eqb_yes, eqb_no}
use Rattle.model.specs.Lists.{any, gather, ◌∈◌}
use Rattle.model.specs.Label.{labels, is_label, dominates}
use Rattle.model.specs.Path.{Step, same_path, last_step, bears, ends_in, key}
use Rattle.model.specs.Value.{Content}
use Rattle.model.specs.Element.{Element, rank, valid_element, contains}
use Rattle.model.specs.Model.{Model, own_set, live}
use Rattle.model.specs.View.{visible, in_view, removed, content_at}
use Rattle.model.proofs.Bools.{and_l, and_r, or_l, decide, cond_yes, cond_no, is_true, is_false}
use Rattle.model.proofs.Members.{all_in, in-any}
use Rattle.model.proofs.Dominance.{in-labels, dominates-lower}
use Rattle.model.proofs.Order.{ascending-sorted, sorted-one}
use Rattle.model.proofs.Paths.{prefix_refl, key-keyed, keys-injective}
use Rattle.model.proofs.Sets.{contains-in}
use Rattle.model.proofs.Restriction.{live_own}
use Rattle.model.proofs.Keeps.{ValidSets, in-view-below}
use Rattle.model.proofs.Listings.{reached}

-- ---- the content at a path, in lists one after another

-- there is a content
abbrev pub is_some : Option Content → Bool
is_some none = false
is_some (some c) = true

pub content-some : (v : List Element) (p : List Step) → is_some (content_at v p) ≡ contains v p
unfolding contains
content-some [] p = refl
content-some (e ∷ v) p =
    decide (same_path p e.path)
    (λ (t : T (same_path p e.path)).
    ap is_some (cond_yes (same_path p e.path) (some e.content) (content_at v p) t)
    ∙ sym (is_true (contains (e ∷ v) p) (or_l (same_path p e.path) (contains v p) t)))
    (λ (t : T (not (same_path p e.path))).
    ap is_some (cond_no (same_path p e.path) (some e.content) (content_at v p) t)
    ∙ content-some v p
    ∙ sym (or_right (same_path p e.path) (contains v p) t))
  where
    or_right : (a b : Bool) → T (not a) → (a || b) ≡ b
    or_right true b h = absurd h
    or_right false b h = refl

pub content-none : (v : List Element) (p : List Step) → T (not (contains v p)) → content_at v p ≡ none
content-none v p t = go (content_at v p) (content-some v p ∙ is_false (contains v p) t)
  where
    go : (c : Option Content) → is_some c ≡ false → c ≡ none
    go none e = refl
    go (some c) e = let z : ◌≡◌ {A = ℕ} 0 1 = cc in absurd (omega arith)

content-append : (v w : List Element) (p : List Step) → content_at (v ++ w) p ≡ cond (contains v p) (content_at v p) (content_at w p)
unfolding contains
content-append [] w p = refl
content-append (e ∷ v) w p =
    ap (cond (same_path p e.path) (some e.content)) (content-append v w p)
    ∙ pick (same_path p e.path) (contains v p) (some e.content) (content_at v p) (content_at w p)
  where
    pick : (a b : Bool) (x y z : Option Content) → cond a x (cond b y z) ≡ cond (a || b) (cond a x y) z
    pick true b x y z = refl
    pick false b x y z = refl

-- where only the list of l has the path
content-gather : (g : ℕ → List Element) (l : ℕ) (p : List Step) → ((n : ℕ) → (n ≡ l → ⊥) → T (not (contains (g n) p))) → (ns : List ℕ)
    → content_at (gather g ns) p ≡ cond (any (λ n. eqb n l) ns) (content_at (g l) p) none
content-gather g l p f [] = refl
content-gather g l p f (n ∷ ns) =
    content-append (g n) (gather g ns) p
    ∙ ap (cond (contains (g n) p) (content_at (g n) p)) (content-gather g l p f ns)
    ∙ decide (eqb n l)
    (λ (t : T (eqb n l)).
    let e : n ≡ l = eqb_yes t in
    rw (e, is_true (eqb l l) (eqb_refl l)) (here (contains (g l) p) (any (λ n. eqb n l) ns) (content_at (g l) p) (content-none (g l) p)))
    (λ (t : T (not (eqb n l))).
    rw (is_false (eqb n l) t) (cond_no (contains (g n) p) (content_at (g n) p) _ (f n (eqb_no t))))
  where
    here : (a b : Bool) (x : Option Content) → (T (not a) → x ≡ none) → cond a x (cond b x none) ≡ x
    here true b x h = refl
    here false true x h = refl
    here false false x h = sym (h tt)

-- ---- labels

label-listed : (l : ℕ) → T (is_label l) → T (any (λ n. eqb n l) labels)
label-listed l t = in-any (λ n. eqb n l) labels (in-labels l t) (eqb_refl l)

-- a path ends in one label
ends-once : (p : List Step) (m n : ℕ) → T (ends_in m p) → T (ends_in n p) → m ≡ n
ends-once p m n = go (last_step p)
  where
    go : (a : Option Step) → T (bears m a) → T (bears n a) → m ≡ n
    go none s t = absurd s
    go (some a) s t = let x : a.label ≡ m = eqb_yes s in let y : a.label ≡ n = eqb_yes t in cc

-- ---- elements of one path are one

module _ (m : Model) (sets : ValidSets m) where
  pub own-label : (n : ℕ) (e : Element) → e ∈ own_set n m → T (ends_in n e.path)
  unfolding valid_element
  own-label n e k =
      let v : T (valid_element n e) = all_in (valid_element n) (own_set n m) (sets n).valid k in
      search (and_l, and_r)

  module _ (j k : ℕ) {d e : Element} (g : d ∈ own_set j m) (h : e ∈ own_set k m) (q : rank d ≡ rank e) where
    pub own_same : j ≡ k
    own_same =
        ends-once e.path j k
        (subst (λ (p : List Step). T (ends_in j p)) (keys-injective key key-keyed d.path e.path q) (own-label j d g)) (own-label k e h)

    pub own-one : d ≡ e
    own-one =
        sorted-one rank (own_set k m) (ascending-sorted rank (own_set k m) (sets k).ascends) d e
        (subst (λ (n : ℕ). d ∈ own_set n m) own_same g) h q

-- ---- what is visible at a path

-- where an element is visible, its path is in view
pub seen-in-view : (s : ℕ) (m : Model) (p : List Step) → T (contains (visible s m) p) → T (in_view s m p)
unfolding in_view
seen-in-view s m p t =
    let r : (e : Element) × (e ∈ visible s m) × (p ≡ e.path) = contains-in (visible s m) p t in
    reached (visible s m) p r.1 (rw (← r.2) (prefix_refl p))

module _ (s : ℕ) (m : Model) (sets : ValidSets m) (p : List Step) (l : ℕ) (ends : T (ends_in l p)) where
  -- no other label's set has the path
  not-elsewhere : (n : ℕ) → (n ≡ l → ⊥) → T (not (contains (own_set n m) p))
  unfolding valid_element
  not-elsewhere n d =
      decide (contains (own_set n m) p)
      (λ (t : T (contains (own_set n m) p)).
      let r : (e : Element) × (e ∈ own_set n m) × (p ≡ e.path) = contains-in (own_set n m) p t in
      let v : T (valid_element n r.0) = all_in (valid_element n) (own_set n m) (sets n).valid r.1 in
      let q : T (ends_in n r.0.path) = search (and_l, and_r) in
      absurd (d (ends-once p n l (rw r.2 q) ends)))
      (λ (t : T (not (contains (own_set n m) p))). t)

  pub visible-content : T (dominates s l) → content_at (visible s m) p ≡ content_at (own_set l m) p
  unfolding visible contains
  visible-content d =
      content-gather (λ n. cond (dominates s n) (own_set n m) []) l p other labels
      ∙ cond_yes (any (λ n. eqb n l) labels) _ none (label-listed l (dominates-lower s l d))
      ∙ ap (λ (es : List Element). content_at es p) (cond_yes (dominates s l) (own_set l m) [] d)
    where
      other : (n : ℕ) → (n ≡ l → ⊥) → T (not (contains (cond (dominates s n) (own_set n m) []) p))
      other n h =
          decide (dominates s n)
          (λ (t : T (dominates s n)). rw (cond_yes (dominates s n) (own_set n m) [] t) (not-elsewhere n h))
          (λ (t : T (not (dominates s n))). rw (cond_no (dominates s n) (own_set n m) [] t) tt)

  -- a path in view has a label that the subject dominates
  pub in-view-label : T (in_view s m p) → T (dominates s l)
  in-view-label v = in-view-below s m p l sets v ends

  -- what a view shows at a path in view
  pub shown-content : T (in_view s m p) → content_at (visible s m) p ≡ content_at (own_set l m) p
  shown-content v = visible-content (in-view-label v)

  -- it has a content exactly if it is live, and is removed else
  pub shown-live : T (in_view s m p) → is_some (content_at (visible s m) p) ≡ live m p
  shown-live v = ap is_some (shown-content v) ∙ content-some (own_set l m) p ∙ sym (live_own l m p ends)

  pub shown-removed : T (in_view s m p) → not (is_some (content_at (visible s m) p)) ≡ removed s m p
  unfolding removed
  shown-removed v = ap not (shown-live v) ∙ sym (ap (λ (b : Bool). b && not (live m p)) (is_true (in_view s m p) v))
