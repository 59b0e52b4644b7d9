-- The table walked by the code: what each test says of its row.
use mathlib.Core.Path.{◌≡◌, refl, sym, ap, subst, ◌∙◌}
use mathlib.Core.Bool.{Bool, true, false, not, ◌||◌}
use mathlib.Core.List.{List}
use Prim.Native.Nat.{ℕ, ◌≤◌, ◌<◌}
use native.Mathlib.Omega.{arith}
use borrow.Author.Tests.{eq-eqb, ne_eqb}
use lib.ListN.{length}
use lib.Dec.{T, eqb}
use Rattle.std.specs.Prelude.{Option, Some, None, is_none, ok_or, Result, Ok, Err}
use mir.Facts.{yes_eqb, no_eqb, yes_ltb, no_ltb}
use Rattle.model.specs.Label.{is_label}
use Rattle.model.specs.Path.{Step, ends_in}
use Rattle.model.specs.Value.{Content, allowed, bringable}
use Rattle.model.specs.Element.{Element, contains}
use Rattle.model.specs.Partition.{partition_size, count, read_partition}
use Rattle.model.specs.Store.{store_size, partition}
use Rattle.model.specs.Model.{own_set, live, open_model}
use Rattle.model.specs.Rows.{good_path, view_path, some_raw, size_rows, label_rows}
use Rattle.model.proofs.Bools.{yes-not-not}
use Rattle.model.proofs.Dominance.{dominates-refl}
use Rattle.model.proofs.Restriction.{live_own}
use Rattle.model.proofs.Rows.{row-applies, rows_behind}
use Rattle.model.proofs.Keeps.{open-valid}
use Rattle.partition.specs.Place.{place_of, Found}
use Rattle.partition.proofs.Layouts.{length-elements}
use Rattle.store.specs.Opened.{Opened, Own}
use Rattle.store.proofs.Parts.{held-formed}
use Rattle.store.proofs.Viewing.{opened-formed, opened-set}
use Rattle.store.proofs.Lending.{own-part}
use Rattle.promise.specs.declared.Refusal.{Refusal}
use Rattle.promise.specs.declared.Refusal.TheVariants.{StoreLength, Subject, NotWellFormed}
use Rattle.table.specs.Opening.{Lent, Opens, Forms}

-- ---- a test that the code made

-- it holds, or not, of what it says
pub told-yes : {r t : Bool} → r ≡ t → r ≡ true → T t
told-yes e h = subst (λ (b : Bool). T b) (sym h ∙ e) tt

pub told-no : {r t : Bool} → r ≡ t → r ≡ false → T (not t)
told-no e h = subst (λ (b : Bool). T (not b)) (sym h ∙ e) tt

-- a test that failed does not hold, and one that did not fail holds
pub failed : {r t : Bool} → r ≡ t → r ≡ false → T (not t)
failed e h = told-no e h

pub held : {r t : Bool} → r ≡ t → r ≡ true → T (not (not t))
held {t = t} e h = yes-not-not t (told-yes e h)

-- ---- rows 1 to 3

module _ (s : ℕ) (b : List ℕ) where
  pub open-one : (length b ≡ store_size → ⊥) → Opens (Err StoreLength) s b
  unfolding open_model
  open-one h = row-applies _ _ (no_eqb h)

  pub open-two : length b ≡ store_size → 32 ≤ s → Opens (Err Subject) s b
  unfolding open_model is_label
  open-two e h =
      rows_behind (size_rows (open_model b)) (label_rows s) (yes-not-not (eqb (length b) store_size) (yes_eqb e), tt) (row-applies _ _ (no_ltb h))

  pub open-both : length b ≡ store_size → s < 32 → Opens (Ok s) s b
  unfolding is_label
  open-both e h = (refl, record { size = e; label = yes_ltb h })

-- where the partitions are well formed too the store is open to the label
pub lent-opened : {b : List ℕ} {s : ℕ} → Lent b s → {r : Bool} → r ≡ some_raw s (open_model b) → r ≡ false → Opened b s
lent-opened l e h = record { size = l.size; label = l.label; formed = told-no e h }

-- so what tells whether a partition is malformed gives the store or the refusal
pub lent-forms : {b : List ℕ} {s : ℕ} → Lent b s → {A : Type 0} (x : Option A) → is_none x ≡ some_raw s (open_model b) → {r : Result A Refusal} → r ≡ ok_or x NotWellFormed → Forms r s b
lent-forms l None e q = rw q (row-applies _ _ (told-yes e refl))
lent-forms l (Some x) e q = rw q (lent-opened l e refl)

-- his own partition is well formed
pub opened-own : {b : List ℕ} {s : ℕ} → Opened b s → Own b s
unfolding open_model
opened-own {b} {s} o =
    record {
      size = o.size;
      label = o.label;
      formed = rw (held-formed s (partition s b)) (opened-formed o s (dominates-refl s o.label));
    }

-- ---- the path, the kind and the value

pub brings : (c : Content) {r : Bool} → r ≡ allowed c.kind c.value → r ≡ bringable c
unfolding bringable
brings c e = e

module _ (p : List ℕ) where
  pub root-path : length p ≡ 0 → true ≡ view_path p
  unfolding view_path
  root-path e = sym (ap (λ (t : Bool). t || good_path p) (eq-eqb (length p) 0 e))

  pub other_path : (length p ≡ 0 → ⊥) → {r : Bool} → r ≡ good_path p → r ≡ view_path p
  unfolding view_path
  other_path h e = e ∙ sym (ap (λ (t : Bool). t || good_path p) (ne_eqb (length p) 0 h))

-- ---- the own partition, searched

module _ {s : ℕ} {b : List ℕ} (o : Opened b s) {x : List ℕ} (g : (x ≡ partition s b) × (length x ≡ partition_size)) where
  pub own-set : own_set s (open_model b) ≡ read_partition x
  own-set = opened-set o s (dominates-refl s o.label) ∙ ap read_partition (sym g.0)

  -- an element of the own label is live if it is found there
  pub found-live : (p : List Step) {r : Bool} → r ≡ ends_in s p → r ≡ true → {at : ℕ} {f : Bool} → Found x p at f → f ≡ live (open_model b) p
  found-live p {r} e own h =
      let q : T (ends_in s p) = told-yes e own in
      h.found-is ∙ ap (λ (es : List Element). contains es p) (sym own-set) ∙ sym (live_own s (open_model b) p q)

  -- where it is found is where it stands in the own set
  pub found-place : (p : List Step) {at : ℕ} {f : Bool} → Found x p at f → at ≡ place_of p (own_set s (open_model b))
  found-place p h = h.at-is ∙ ap (place_of p) (sym own-set)

  pub counted : {n : ℕ} → n ≡ count x → n ≡ length (own_set s (open_model b))
  counted k = k ∙ sym (ap length own-set ∙ length-elements (own-part (opened-own o) g.0))

  -- there are at most 32
  pub own-few : {n : ℕ} → n ≡ count x → n ≤ 32
  own-few k = omega (arith, counted k, (open-valid b s).few)
