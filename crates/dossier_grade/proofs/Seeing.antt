-- What a subject sees at a path, by what the code finds there.
use mathlib.Core.Path.{◌≡◌, refl, sym, ap, ap₂, subst, ◌∙◌}
use mathlib.Core.Bool.{Bool, true, false, not}
use mathlib.Core.Option.{Option, none, some}
use mathlib.Core.List.{List, []}
use Prim.Native.Nat.{ℕ, ◌-◌, ◌≤◌, ◌<◌}
use native.Mathlib.Omega.{arith}
use lib.ListN.{length, get_or}
use lib.Dec.{T, eqb, eqb_refl}
use mir.Facts.{not_T, T_not}
use Rattle.model.specs.Lists.{◌∈◌}
use Rattle.model.specs.Label.{dominates}
use Rattle.model.specs.Path.{Step, valid_path, ends_in, steps_of}
use Rattle.model.specs.Value.{Content, allowed, storable}
use Rattle.model.specs.Element.{Element, valid_element, contains}
use Rattle.model.specs.Slot.{slot_size, read_content}
use Rattle.model.specs.Partition.{partition_size, slot_at, read_partition}
use Rattle.model.specs.Store.{partition}
use Rattle.model.specs.Model.{open_model, own_set}
use Rattle.model.specs.Text.{measure_of}
use Rattle.model.specs.View.{visible, in_view, content_at}
use Rattle.model.specs.Rows.{good_path, view_path}
use Rattle.model.proofs.Bools.{and_l, and_r, cond_yes, cond_no, is_true, is_false}
use Rattle.model.proofs.Members.{all_in}
use Rattle.model.proofs.Sets.{contains-in}
use Rattle.model.proofs.Keeps.{open-valid, visible-in}
use Rattle.model.proofs.Marks.{is_some, content-some, content-none, seen-in-view, visible-content, in-view-label}
use Rattle.path.proofs.Steps.{root-steps, good-path, last-label}
use Rattle.partition.specs.Place.{Formed, Found}
use Rattle.partition.proofs.Contents.{found-content}
use Rattle.store.specs.Opened.{Opened}
use Rattle.store.proofs.Viewing.{opened-formed, opened-set, view-root}
use Rattle.table.proofs.Walking.{told-yes, told-no, failed, other_path}
use Rattle.kind.specs.declared.Kind.{Kind}
use Rattle.kind.specs.declared.Rule.{Rule}
use Rattle.kind.specs.Code.{code}
use Rattle.kind.specs.Rule.{rule_of}
use Rattle.kind.proofs.Rules.{rule-numbered, number-kind, known-kind}
use Rattle.text.proofs.Showing.{measure-length}
use Rattle.std.specs.Prelude.{Some, None, Result, Ok, Err}
use Rattle.std.specs.Prelude as plain
use Rattle.promise.specs.declared.Refusal.TheVariants.{Absent}
use Rattle.dossier_grade.specs.Sights.{sight_of, sight_at, PathPartition}

-- a path that is not in view, and one in view with its content
unseen-at : (s : ℕ) (b : List ℕ) (p : List Step) → T (not (in_view s (open_model b) p)) → Err Absent ≡ sight_at s b p
unseen-at s b p t = sym (ap (λ (v : Bool). sight_of v (content_at (visible s (open_model b)) p)) (is_false (in_view s (open_model b) p) t))

content-at : (s : ℕ) (b : List ℕ) (p : List Step) {c : Option Content} → T (in_view s (open_model b) p) → content_at (visible s (open_model b)) p ≡ c
    → sight_of true c ≡ sight_at s b p
content-at s b p t e = sym (ap₂ sight_of (is_true (in_view s (open_model b) p) t) e)

-- ---- the root

-- no element stands at the root
root-bare : (s : ℕ) (b : List ℕ) → content_at (visible s (open_model b)) [] ≡ none
unfolding valid_element valid_path
root-bare s b =
    content-none (visible s (open_model b)) []
    (not_T (contains (visible s (open_model b)) [])
    (λ t.
    let r : (e : Element) × (e ∈ visible s (open_model b)) × ([] ≡ e.path) = contains-in (visible s (open_model b)) [] t in
    let g : (n : ℕ) × T (dominates s n) × (r.0 ∈ own_set n (open_model b)) = visible-in s (open_model b) r.1 in
    let v : T (valid_element g.0 r.0) = all_in (valid_element g.0) (own_set g.0 (open_model b)) (open-valid b g.0).valid g.2 in
    let p : T (valid_path r.0.path) = search (and_l, and_r) in
    rw (← r.2) at p))

pub sees-root : (s : ℕ) (b p : List ℕ) → length p < 3 → Ok None ≡ sight_at s b (steps_of p)
sees-root s b p h =
    content-at s b (steps_of p) (subst T (view-root s b p h) tt)
    (ap (content_at (visible s (open_model b))) (root-steps p h) ∙ root-bare s b)

-- ---- another path, which ends in the label of its last byte

pub other-good : (p : List ℕ) → T (view_path p) → 3 ≤ length p → T (good_path p)
other-good p v h = let d : length p ≡ 0 → ⊥ = λ z. absurd (omega arith) in subst T (sym (other_path p d refl)) v

ends : (p : List ℕ) → T (good_path p) → T (ends_in (get_or p (length p - 1) 0) (steps_of p))
ends p good = subst T (last-label p (get_or p (length p - 1) 0) (good-path p good)) (eqb_refl (get_or p (length p - 1) 0))

module _ {b : List ℕ} {s : ℕ} (o : Opened b s) (p : List ℕ) (good : T (good_path p)) {r : Bool} (e : r ≡ dominates s (get_or p (length p - 1) 0)) where
  -- of a label that the subject does not dominate it is not in view
  pub sees-none : r ≡ false → Err Absent ≡ sight_at s b (steps_of p)
  sees-none t =
      unseen-at s b (steps_of p)
      (not_T (in_view s (open_model b) (steps_of p))
      (λ v. T_not (dominates s (get_or p (length p - 1) 0)) (in-view-label s (open_model b) (open-valid b) (steps_of p) (get_or p (length p - 1) 0) (ends p good) v) (failed e t)))

  -- of another, the label's partition is lent
  module _ (yes : r ≡ true) where
    pub label-seen : T (dominates s (get_or p (length p - 1) 0))
    label-seen = told-yes e yes

    pub path-partition : {x : List ℕ} → (x ≡ partition (get_or p (length p - 1) 0) b) × (length x ≡ partition_size) → PathPartition b s p x
    path-partition g = record { opened = o; path = good; label = label-seen; is = g.0; size = g.1 }

module _ {b : List ℕ} {s : ℕ} (p : List ℕ) {x : List ℕ} (l : PathPartition b s p x) where
  pub path-partition-formed : Formed x
  path-partition-formed = record { label = get_or p (length p - 1) 0; is = rw l.is (opened-formed l.opened (get_or p (length p - 1) 0) l.label) }

  -- what is visible at the path is what stands there in the partition
  there : content_at (visible s (open_model b)) (steps_of p) ≡ content_at (read_partition x) (steps_of p)
  there =
      visible-content s (open_model b) (open-valid b) (steps_of p) (get_or p (length p - 1) 0) (ends p l.path) l.label
      ∙ ap (λ (es : List Element). content_at es (steps_of p))
      (opened-set l.opened (get_or p (length p - 1) 0) l.label ∙ ap read_partition (sym l.is))

  module _ {at : ℕ} {found : Bool} (h : Found x (steps_of p) at found) where
    -- found: it is in view, and seen as its content is
    pub sees-found : found ≡ true → {z : List ℕ} → (z ≡ slot_at x at) × (length z ≡ slot_size) → {y : plain.Option ℕ} → Ok y ≡ sight_of true (some (read_content z))
        → Ok y ≡ sight_at s b (steps_of p)
    sees-found there-is {z} g e =
        let c : content_at (visible s (open_model b)) (steps_of p) ≡ some (read_content z) = there ∙ found-content path-partition-formed h there-is g in
        let has : T (contains (visible s (open_model b)) (steps_of p)) =
        subst T (ap is_some (sym c) ∙ content-some (visible s (open_model b)) (steps_of p)) tt in
        e ∙ content-at s b (steps_of p) (seen-in-view s (open_model b) (steps_of p) has) c

    -- not found, and in view or not
    module _ {w : Bool} (i : w ≡ in_view s (open_model b) (steps_of p)) where
      pub sees-removed : found ≡ false → w ≡ true → Ok None ≡ sight_at s b (steps_of p)
      sees-removed none_is t =
          content-at s b (steps_of p) (told-yes i t) (there ∙ content-none (read_partition x) (steps_of p) (told-no h.found-is none_is))

      pub sees-nothing : w ≡ false → Err Absent ≡ sight_at s b (steps_of p)
      sees-nothing t = unseen-at s b (steps_of p) (told-no i t)

-- ---- a content, by the rule of its kind

-- a stored one has a kind
pub kind-known : (c : Content) {n : ℕ} → n ≡ c.kind → T (storable c) → n < 3
unfolding storable
kind-known c e t = rw e (known-kind c.kind c.value t)

module _ (c : Content) (k : Kind) (e : code k ≡ c.kind) {r : Rule} (q : r ≡ rule_of k) where
  by_kind : r.number ≡ eqb c.kind 1
  by_kind = ap (λ (x : Rule). x.number) (q ∙ rule-numbered k) ∙ number-kind (code k) ∙ ap (λ (n : ℕ). eqb n 1) e

  pub content-other : r.number ≡ false → Ok None ≡ sight_of true (some c)
  content-other t = ap Ok (sym (cond_no (eqb c.kind 1) (Some (measure_of c.value)) None (failed by_kind t)))

  module _ (t : r.number ≡ true) where
    pub measure-four : T (storable c) → {v : List ℕ} → v ≡ c.value → length v ≡ 4
    unfolding storable
    measure-four a {v} g =
        ap length g ∙ measure-length k c.value (subst (λ (n : ℕ). T (allowed n c.value)) (sym e) a) q t

    pub content-measure : {v : List ℕ} → v ≡ c.value → {m : ℕ} → m ≡ measure_of v → Ok (Some m) ≡ sight_of true (some c)
    content-measure g h =
        ap Ok
        (ap Some (h ∙ ap measure_of g)
        ∙ sym (cond_yes (eqb c.kind 1) (Some (measure_of c.value)) None (told-yes by_kind t)))
