-- A subject's set stays valid under what calls do to it: count, elements, order, and the prefixes of the own label.
use mathlib.Core.Path.{◌≡◌, sym, subst}
use mathlib.Core.Bool.{not, cond}
use mathlib.Core.List.Memᴰ
use mathlib.Core.List.{List, [], ◌∷◌}
use Prim.Native.Nat.{ℕ}
use native.Mathlib.Omega.{arith}
use lib.Dec.{T}
use Rattle.model.specs.Label.{labels, dominates}
use Rattle.model.specs.Path.{Step, is_prefix, ends_in, valid_path, steps_of, key}
use Rattle.model.specs.Value.{Content, allowed, storable, bringable}
use Rattle.model.specs.Element.{Element, valid_element, contains}
use Rattle.model.specs.Partition.{read_partition, well_formed}
use Rattle.model.specs.Store.{partition}
use Rattle.model.specs.Model.{held, raw, elements, open_cell, Model, open_model, own_set}
use Rattle.model.specs.View.{visible, in_view}
use Rattle.model.specs.Rows.{good_path}
use Rattle.model.specs.Call.{replaced}
use Rattle.model.specs.Lists.{◌∈◌}
use Rattle.model.proofs.Bools.{and_l, and_r, both, decide, cond_yes, cond_no}
use Rattle.model.proofs.Members.{all_in, any-in, gather-in, in-gather}
use Rattle.model.proofs.Dominance.{in-labels, dominates-lower, dominates-trans, dominates-antisym}
use Rattle.model.proofs.Paths.{prefix_refl, prefix_trans, prefix-below}
use Rattle.model.proofs.Partitions.{ValidSet, well-formed, read-valid}
use Rattle.model.proofs.Sets.{closed_facts}
use Rattle.model.proofs.Replacing.{replaced-valid}

-- each set of the model is valid for its label
abbrev pub ValidSets : Model → Type 0
ValidSets m = (n : ℕ) → ValidSet key n (own_set n m)

pub empty-valid : (n : ℕ) → ValidSet key n []
unfolding Rattle.model.specs.Element.closed
empty-valid n = record { few = omega arith; valid = tt; ascends = tt; closes = tt }

-- so of a model opened on a store
pub open-valid : (s : List ℕ) → ValidSets (open_model s)
unfolding open_model own_set open_cell elements
open-valid s n =
    decide (well_formed n (partition n s))
    (λ (t : T (well_formed n (partition n s))).
    rw (cond_yes (well_formed n (partition n s)) (held (read_partition (partition n s))) (raw (partition n s)) t)
    (read-valid key n (partition n s) (well-formed key n (partition n s) t)))
    (λ (t : T (not (well_formed n (partition n s)))).
    rw (cond_no (well_formed n (partition n s)) (held (read_partition (partition n s))) (raw (partition n s)) t) (empty-valid n))

-- ---- what a subject sees of his own label

-- a visible element stands in the set of a label that the subject dominates
pub visible-in : (s : ℕ) (m : Model) {e : Element} → e ∈ visible s m → (n : ℕ) × T (dominates s n) × (e ∈ own_set n m)
unfolding visible
visible-in s m {e} k =
    let g : (n : ℕ) × (n ∈ labels) × (e ∈ cond (dominates s n) (own_set n m) []) = gather-in (λ n. cond (dominates s n) (own_set n m) []) labels k in
    let n : ℕ = g.0 in
    decide (dominates s n)
    (λ (t : T (dominates s n)). (n, t, rw (cond_yes (dominates s n) (own_set n m) [] t) at g.2))
    (λ (t : T (not (dominates s n))). absurd (Memᴰ.not-nil {a = e} (rw (cond_no (dominates s n) (own_set n m) [] t) at g.2)))

-- and the set of each such label is visible
pub in-visible : (s n : ℕ) (m : Model) {e : Element} → T (dominates s n) → e ∈ own_set n m → e ∈ visible s m
unfolding visible
in-visible s n m {e} t k =
    in-gather (λ n. cond (dominates s n) (own_set n m) []) labels (in-labels n (dominates-lower s n t))
    (subst (λ (es : List Element). e ∈ es) (sym (cond_yes (dominates s n) (own_set n m) [] t)) k)

-- a visible element through which a prefix in label n of a path in view is seen
record Through (s : ℕ) (m : Model) (q : List Step) (n : ℕ) : Type 0 where
  label : ℕ
  element : Element
  dominated : T (dominates s label)
  member : element ∈ own_set label m
  extends : T (is_prefix q element.path)
  upward : T (dominates label n)

seen-through : (s : ℕ) (m : Model) (p q : List Step) (n : ℕ) → ValidSets m → T (in_view s m p) → T (is_prefix q p) → T (ends_in n q) → Through s m q n
unfolding in_view valid_element valid_path
seen-through s m [] [] n sets v b t = absurd t
seen-through s m [] (a ∷ q) n sets v b t = absurd b
seen-through s m (a ∷ p) q n sets v b t =
    let r : (e : Element) × (e ∈ visible s m) × T (is_prefix (a ∷ p) e.path) = any-in (λ e. is_prefix (a ∷ p) e.path) (visible s m) v in
    let e : Element = r.0 in
    let g : (k : ℕ) × T (dominates s k) × (e ∈ own_set k m) = visible-in s m r.1 in
    let k : ℕ = g.0 in
    let ok : T (valid_element k e) = all_in (valid_element k) (own_set k m) (sets k).valid g.2 in
    let bq : T (is_prefix q e.path) = prefix_trans q (a ∷ p) e.path b r.2 in
    record {
      label = k;
      element = e;
      dominated = g.1;
      member = g.2;
      extends = bq;
      upward = prefix-below k n q e.path (dominates-lower s k g.1) (search (and_l, and_r)) (search (and_l, and_r)) bq t;
    }

-- a prefix in the subject's label of a path in his view stands in his own set
pub in-view-own : (s : ℕ) (m : Model) (p q : List Step) → ValidSets m → T (in_view s m p) → T (is_prefix q p) → T (ends_in s q)
    → T (contains (own_set s m) q)
in-view-own s m p q sets v b t =
    let r : Through s m q s = seen-through s m p q s sets v b t in
    let same : r.label ≡ s = dominates-antisym r.label s r.upward r.dominated in
    closed_facts s (own_set s m) (sets s).closes r.element (subst (λ j. r.element ∈ own_set j m) same r.member) q r.extends t

-- he dominates the label of a path in his view
pub in-view-below : (s : ℕ) (m : Model) (p : List Step) (n : ℕ) → ValidSets m → T (in_view s m p) → T (ends_in n p) → T (dominates s n)
in-view-below s m p n sets v t =
    let r : Through s m p n = seen-through s m p p n sets v (prefix_refl p) t in
    dominates-trans s r.label n r.dominated r.upward

-- ---- an element that comes

pub element-valid : (s : ℕ) (p : List ℕ) (c : Content) → T (good_path p) → T (bringable c) → T (ends_in s (steps_of p))
    → T (valid_element s (record { path = steps_of p; content = c }))
unfolding valid_element good_path bringable storable
element-valid s p c g t l =
    let v : T (valid_path (steps_of p)) = search (and_l, and_r) in
    let k : T (allowed c.kind c.value) = t in
    search both

pub update-valid : (s : ℕ) (m : Model) → ValidSets m → (p : List Step) (c : Content) → T (valid_element s (record { path = p; content = c }))
    → ValidSet key s (replaced p c (own_set s m))
update-valid s m sets p c v = replaced-valid s p c (own_set s m) v (sets s)
