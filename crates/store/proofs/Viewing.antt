-- What a subject sees of a store, read partition by partition.
use mathlib.Core.Path.{◌≡◌, refl, sym, ap, subst, ◌∙◌}
use mathlib.Core.Bool.{Bool, true, false, not, cond, ◌&&◌, ◌||◌, or_assoc}
use mathlib.Core.List.{List, [], ◌∷◌, ◌++◌}
use Prim.Native.Nat.{ℕ, ◌/◌, ◌≤◌, ◌<◌}
use native.Mathlib.Omega.{arith}
use lib.ListN.{length}
use lib.Dec.{T}
use Rattle.model.specs.Lists.{any, gather}
use Rattle.model.specs.Label.{labels, dominates}
use Rattle.model.specs.Path.{Step, is_prefix, steps_of}
use Rattle.model.specs.Element.{Element}
use Rattle.model.specs.Partition.{partition_size, read_partition, well_formed}
use Rattle.model.specs.Store.{partition}
use Rattle.model.specs.Model.{is_held, open_cell, open_model, own_set}
use Rattle.model.specs.View.{visible, reaches, in_view}
use Rattle.model.specs.Rows.{some_raw}
use Rattle.model.proofs.Bools.{decide, cond_yes, is_true, is_false}
use Rattle.model.proofs.Members.{not-any, in-any}
use Rattle.model.proofs.Walks.{Left, in-range}
use Rattle.path.proofs.Steps.{length-steps, root-steps}
use Rattle.partition.specs.Place.{Formed}
use Rattle.store.specs.Opened.{Opened, below_at, Within}
use Rattle.store.proofs.Parts.{raw_at, held-formed, formed-set, dominated-lt, is-dominated, not-above, labels-start}

-- a partition that the subject dominates is well formed
pub opened-formed : {b : List ℕ} {s : ℕ} → Opened b s → (n : ℕ) → T (dominates s n) → T (well_formed n (partition n b))
unfolding some_raw open_model
opened-formed {b} {s} o n t =
    let h : T (not (raw_at s b n)) = not-any (raw_at s b) labels o.formed (in-range (λ k. k) 0 32 n (omega arith) (dominated-lt s n t)) in
    rw (← (held-formed n (partition n b))) (keeps (dominates s n) (is_held (open_cell n (partition n b))) t h)
  where
    keeps : (a c : Bool) → T a → T (not (a && not c)) → T c
    keeps true true u v = tt
    keeps true false u v = v
    keeps false c u v = absurd u

-- and its elements are those that the model keeps
pub opened-set : {b : List ℕ} {s : ℕ} → Opened b s → (n : ℕ) → T (dominates s n) → own_set n (open_model b) ≡ read_partition (partition n b)
opened-set {b} o n t = formed-set n b (opened-formed o n t)

-- of a label that the subject does not dominate nothing is seen
pub not-below : {b : List ℕ} {s : ℕ} → Opened b s → (p : List Step) (n : ℕ) {r : Bool} → r ≡ dominates s n → r ≡ false → false ≡ below_at s b p n
not-below {b} {s} o p n e t = let q : dominates s n ≡ false = sym e ∙ t in rw q

-- one label that the subject dominates
module _ {b : List ℕ} {s : ℕ} (o : Opened b s) (p : List Step) (n : ℕ) {r : Bool} (e : r ≡ dominates s n) (yes : r ≡ true) where
  dominated : T (dominates s n)
  dominated = is-dominated s n b e yes

  pub part-formed : {x : List ℕ} → (x ≡ partition n b) × (length x ≡ partition_size) → Formed x
  part-formed f = record { label = n; is = rw f.0 (opened-formed o n dominated) }

  pub by-below : {x : List ℕ} {w : Bool} → (x ≡ partition n b) × (length x ≡ partition_size) → w ≡ any (λ e. is_prefix p e.path) (read_partition x) → w ≡ below_at s b p n
  by-below f g =
      g
      ∙ ap (λ (l : List ℕ). any (λ e. is_prefix p e.path) (read_partition l)) f.0
      ∙ sym
      (ap (λ (l : List Element). any (λ e. is_prefix p e.path) l)
      (cond_yes (dominates s n) (own_set n (open_model b)) [] dominated ∙ opened-set o n dominated))

-- all labels

any_append : (q : Element → Bool) (l m : List Element) → any q (l ++ m) ≡ (any q l || any q m)
any_append q [] m = refl
any_append q (x ∷ l) m = ap (λ (t : Bool). q x || t) (any_append q l m) ∙ sym (or_assoc (q x) (any q l) (any q m))

any-gather : (q : Element → Bool) (f : ℕ → List Element) (ns : List ℕ) → any q (gather f ns) ≡ any (λ n. any q (f n)) ns
any-gather q f [] = refl
any-gather q f (n ∷ ns) = any_append q (f n) (gather f ns) ∙ ap (λ (t : Bool). any q (f n) || t) (any-gather q f ns)

-- the empty path is in view
pub view-root : (s : ℕ) (b p : List ℕ) → length p < 3 → true ≡ in_view s (open_model b) (steps_of p)
unfolding in_view
view-root s b p h = sym (ap (reaches (visible s (open_model b))) (root-steps p h))

module _ (s : ℕ) (b p : List ℕ) (some : 3 ≤ length p) where
  -- another is if some label has an element at or below it
  view-any : in_view s (open_model b) (steps_of p) ≡ any (below_at s b (steps_of p)) labels
  unfolding in_view visible
  view-any = go (steps_of p) (length-steps p)
    where
      go : (q : List Step) → length q ≡ length p / 3 → reaches (visible s (open_model b)) q ≡ any (below_at s b q) labels
      go [] l = absurd (omega arith)
      go (a ∷ q) l = any-gather (λ d. is_prefix (a ∷ q) d.path) (λ n. cond (dominates s n) (own_set n (open_model b)) []) labels

  pub view-at : (n : ℕ) {r : Bool} → r ≡ below_at s b (steps_of p) n → r ≡ true → true ≡ in_view s (open_model b) (steps_of p)
  view-at n e t =
      let q : below_at s b (steps_of p) n ≡ true = sym e ∙ t in
      let d : T (dominates s n) = decide (dominates s n) (λ (u : T (dominates s n)). u) (λ (u : T (not (dominates s n))). absurd (not-held u q)) in
      sym (view-any ∙ is_true (any (below_at s b (steps_of p)) labels) (in-any (below_at s b (steps_of p)) labels (in-range (λ k. k) 0 32 n (omega arith) (dominated-lt s n d)) (rw q tt)))
    where
      not-held : T (not (dominates s n)) → below_at s b (steps_of p) n ≡ true → ⊥
      not-held u q =
          let z : dominates s n ≡ false = is_false (dominates s n) u in
          subst (λ (c : Bool). T (not c)) (sym (ap (λ (c : Bool). any (λ e. is_prefix (steps_of p) e.path) (cond c (own_set n (open_model b)) [])) z) ∙ q) tt

  pub view-start : {e : ℕ} → Within b s (steps_of p) e → Left (λ n. n) (any (below_at s b (steps_of p))) (in_view s (open_model b) (steps_of p)) e 0
  view-start w = rw view-any (labels-start (below_at s b (steps_of p)) w.few w.others)

-- no label that a subject does not dominate has an element for him
pub all-within : (s : ℕ) (b : List ℕ) (p : List Step) {e : ℕ} → (e ≤ 32) × (s < 32 → s < e) → Within b s p e
all-within s b p {e} f = record { few = f.0; others = λ n h. rw (not-above s e n f h) }
