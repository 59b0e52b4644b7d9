-- It reads back (document 02, request 5/14): after a tree was taken in, the subject's XML of its path is the text sent, siblings in path order,
-- inside the dossier tag.
use mathlib.Core.Path.{◌≡◌, refl, sym, ap, subst, ◌∙◌}
use mathlib.Core.Logic.{◌⊎◌, inl, inr}
use mathlib.Core.Bool.{not, cond}
use mathlib.Core.Option.{none, some}
use mathlib.Core.List.Memᴰ
use mathlib.Core.List.{List, [], ◌∷◌, ◌++◌}
use Prim.Native.Nat.{ℕ}
use lib.Dec.{T, eqb}
use mir.Facts.{T_not, not_T, eqb_yes}
use Rattle.model.specs.Lists.{◌∈◌}
use Rattle.model.specs.Label.{is_label, dominates}
use Rattle.model.specs.Path.{Step, is_prefix, ends_in, steps_of}
use Rattle.model.specs.Value.{Content}
use Rattle.model.specs.Element.{Element, contains}
use Rattle.model.specs.Model.{Model, own_set, with_set}
use Rattle.model.specs.View.{visible, in_view}
use Rattle.model.specs.Tree.{Forest, empty, element}
use Rattle.model.specs.Xml.{outer_tag, outer_end, document, xml_of, xml_view}
use Rattle.model.specs.Intake.{siblings, Sends, elements_of, with_all}
use Rattle.model.proofs.Bools.{decide, cond_yes, cond_no}
use Rattle.model.proofs.Dominance.{dominates-refl}
use Rattle.model.proofs.Paths.{prefix_refl}
use Rattle.model.proofs.Listings.{reached}
use Rattle.model.proofs.Keeps.{ValidSets, visible-in, in-visible, in-view-own}
use Rattle.model.proofs.Refusals.{set-with, set_own}
use Rattle.model.proofs.Taking.{with_in, with-new, ends-longer, own-siblings, Taken, taken-coming}
use Rattle.model.proofs.Showing.{tree, Alone, forest-alone}
use Rattle.model.proofs.Ordering.{in_order, is_ordered, ordered_same}

-- where a path is not in view, nothing visible is at it or below
unseen : (s : ℕ) (m : Model) (q : List Step) → T (not (in_view s m q)) → {e : Element} → e ∈ visible s m → T (is_prefix q e.path) → ⊥
unfolding in_view
unseen s m q t k h = T_not (in_view s m q) (reached (visible s m) q k h) t

module _ (s : ℕ) (m : Model) (p : List Step) (f : Forest) where
  -- the subject's set with the trees f, put below path p
  abbrev filled : List Element
  filled = with_all (elements_of p f) (own_set s m)

  -- the model with it
  abbrev pub took : Model
  took = with_set s (some filled) m

  -- what is visible then was visible before or was sent
  took_in : {e : Element} → e ∈ visible s took → (e ∈ visible s m) ⊎ (e ∈ elements_of p f)
  took_in {e} k = let g = visible-in s took k in go g.0 g.1 (rw (set-with s filled m g.0) at g.2)
    where
      own : T (dominates s s) → (e ∈ own_set s m) ⊎ (e ∈ elements_of p f) → (e ∈ visible s m) ⊎ (e ∈ elements_of p f)
      own t (inl h) = inl (in-visible s s m t h)
      own t (inr h) = inr h

      go : (n : ℕ) → T (dominates s n) → e ∈ cond (eqb n s) filled (own_set n m) → (e ∈ visible s m) ⊎ (e ∈ elements_of p f)
      go n t h =
          decide (eqb n s)
          (λ (y : T (eqb n s)).
          own (subst (λ (k : ℕ). T (dominates s k)) (eqb_yes y) t) (with_in (elements_of p f) (own_set s m) (rw (cond_yes (eqb n s) filled (own_set n m) y) at h)))
          (λ (y : T (not (eqb n s))). inl (in-visible s n m t (rw (cond_no (eqb n s) filled (own_set n m) y) at h)))

-- one live tree that is taken in
module _ (s : ℕ) (label : T (is_label s)) (m : Model) (sets : ValidSets m) (p : List ℕ) (a : Step) (c : Content) (inside : Forest) (taken : Taken s m p (tree a c inside)) where
  -- its path
  abbrev top : List Step
  top = steps_of p ++ (a ∷ [])

  -- the model with it
  abbrev left : Model
  left = took s m (steps_of p) (tree a c inside)

  -- the path ends in the subject's label
  top-ends : T (ends_in s top)
  top-ends = ends-longer s (steps_of p) a (own-siblings s (tree a c inside) taken.own (Memᴰ.head refl))

  -- it was not in view: who sees something below a path of his own label has the path's element
  top-unseen : T (not (in_view s m top))
  top-unseen =
      not_T (in_view s m top) (λ v.
      T_not (contains (own_set s m) top) (in-view-own s m top top sets v (prefix_refl top) top-ends) (taken.lacks a (Memᴰ.head refl)))

  -- so the tree stands alone
  took-alone : Alone (visible s left) (steps_of p) a c inside
  took-alone =
      record {
        comes = λ x h. in-visible s s left (dominates-refl s label)
            (rw (set_own s (filled s m (steps_of p) (tree a c inside)) m)
            (with-new s (elements_of (steps_of p) (tree a c inside)) (own_set s m) (taken-coming sets taken) h));
        only = λ x h b. new b (took_in s m (steps_of p) (tree a c inside) h);
      }
    where
      new : {x : Element} → T (is_prefix top x.path) → (x ∈ visible s m) ⊎ (x ∈ elements_of (steps_of p) (tree a c inside)) → x ∈ elements_of (steps_of p) (tree a c inside)
      new b (inl h) = absurd (unseen s m top top-unseen h b)
      new b (inr h) = h

  -- and reads back
  one-reads-back : xml_view s left top ≡ document s (in_order (tree a c inside))
  unfolding xml_view xml_of
  one-reads-back = ap (document s) (forest-alone (steps_of p) a c inside taken.form s taken.own (visible s left) took-alone)

-- so does what is taken in: it is one live tree
pub tree-reads-back : {s : ℕ} {m : Model} {p : List ℕ} (f : Forest) → T (is_label s) → ValidSets m → Taken s m p f
    → xml_view s (took s m (steps_of p) f) (steps_of p ++ siblings f) ≡ document s (in_order f)
tree-reads-back empty label sets t = absurd t.one
tree-reads-back (element a none i o) label sets t = absurd t.own
tree-reads-back {s} {m} {p} (element a (some c) i empty) label sets t = one-reads-back s label m sets p a c i t
tree-reads-back (element a (some c) i (element b e j o)) label sets t = absurd t.one

-- where the siblings are sent in path order, that is the text inside the dossier tag
pub ordered-text : (s : ℕ) {d : ℕ} {t : List ℕ} (f : Forest) → Sends d t f → T (is_ordered f) → document s (in_order f) ≡ outer_tag s ++ (t ++ outer_end)
unfolding document
ordered-text s f sends order = ap (document s) (ordered_same f order) ∙ ap (λ (x : List ℕ). outer_tag s ++ (x ++ outer_end)) (sym sends.same)
