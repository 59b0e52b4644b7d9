-- What the theorems ask of an operation: its rows and its effect depend only on the partitions that its subject dominates, it keeps
-- his set valid, and what it writes fits. Shown once for an operation that only reads, and once for one that changes the set.
use mathlib.Core.Path.{◌≡◌, refl, sym, ap, ap₂, ◌∙◌}
use mathlib.Core.Bool.{not}
use mathlib.Core.Option.{Option, none, some}
use mathlib.Core.List.{List, [], ◌∷◌, ◌++◌}
use Prim.Native.Nat.{ℕ, ◌%◌, ◌≤◌}
use native.Mathlib.Omega.{arith}
use lib.ListN.{length}
use lib.Dec.{T, eqb}
use mir.Facts.{eqb_yes, ltb_no}
use Rattle.model.specs.Label.{is_label}
use Rattle.model.specs.Path.{Step, ends_in, valid_path, steps_of, key}
use Rattle.model.specs.Value.{Content, storable, bringable}
use Rattle.model.specs.Element.{Element, contains, remove}
use Rattle.model.specs.Store.{store_size}
use Rattle.model.specs.Model.{Model, own_set, live}
use Rattle.model.specs.View.{visible, reaches, in_view, listing_of, listing}
use Rattle.model.specs.Xml.{xml_of, xml_view}
use Rattle.model.specs.Tree.{Forest, entries}
use Rattle.model.specs.Intake.{own_live, elements_of, with_all}
use Rattle.model.specs.Grade.{is_measure, measure_at}
use Rattle.model.specs.Groups.{seen_steps, missing_paths, with_groups}
use Rattle.model.specs.Rows.{Row, row, refusal, good_path, some_raw, size_rows, path_rows, view_path_rows, look_rows, bring_rows, own_live_rows, place_rows, room_rows, asked_rows, sent_rows}
use Rattle.model.specs.Call.{Op, view, insert, update, delete, view_xml, grade, insert_xml, Call, call_subject, caller_rows, op_rows, table}
use Rattle.model.specs.Call.{Result, count, Effect, writes, changes, extending, makes, replaced, grade_of, effect, Outcome, refused, done, outcome_by, outcome}
use Rattle.model.proofs.Bools.{and_r, not-not}
use Rattle.model.proofs.Partitions.{ValidSet}
use Rattle.model.proofs.Sets.{remove-valid}
use Rattle.model.proofs.Rows.{Passes, passes, passes-both, refusal-behind}
use Rattle.model.proofs.Restriction.{restrict, raw-restrict, visible-restrict, live_own, same-own, same-own-live, same_place}
use Rattle.model.proofs.Keeps.{ValidSets, element-valid, update-valid}
use Rattle.model.proofs.Taking.{rows_taken, taken-valid, same-take}
use Rattle.model.proofs.Groups.{rows-placed, insert-valid}

-- the length of the output that is lent with an operation
abbrev pub room_of : Op → ℕ
room_of (view p room) = room
room_of (insert p c) = 0
room_of (update p c) = 0
room_of (delete p) = 0
room_of (view_xml p room) = room
room_of (grade p q n) = 0
room_of (insert_xml p f) = 0

pub record OpLaws (o : Op) : Type 0 where
  pub rows-local : (s : ℕ) (m : Model) → T (is_label s) → refusal (op_rows o s m) ≡ refusal (op_rows o s (restrict s m))
  pub effect-local : (s : ℕ) (m : Model) → T (is_label s) → effect o s m ≡ effect o s (restrict s m)
  pub keeps : (s : ℕ) (m : Model) → ValidSets m → Passes (op_rows o s m) → (es : List Element) → (effect o s m).change ≡ some es → ValidSet key s es
  pub fits : (s : ℕ) (m : Model) → Passes (op_rows o s m) → length (effect o s m).written ≤ room_of o

-- what is made of the visible elements and the subject's own set depends only on the partitions that he dominates
same-both : {A : Type 0} (f : List Element → List Element → A) (s : ℕ) (m : Model) → T (is_label s)
    → f (visible s m) (own_set s m) ≡ f (visible s (restrict s m)) (own_set s (restrict s m))
same-both f s m t = ap₂ f (sym (visible-restrict s m)) (same-own s m t)

-- ---- an operation that only reads: the visible elements and the subject's own set give its rows, its result and its text

pub record Reading (o : Op) : Type 0 where
  pub rows : (s : ℕ) (seen own : List Element) → List Row
  pub result : (s : ℕ) (seen own : List Element) → Result
  pub text : (s : ℕ) (seen own : List Element) → List ℕ
  pub rows_are : (s : ℕ) (m : Model) → op_rows o s m ≡ rows s (visible s m) (own_set s m)
  pub effect_is : (s : ℕ) (m : Model) → effect o s m ≡ writes (result s (visible s m) (own_set s m)) (text s (visible s m) (own_set s m))
  pub text-fits : (s : ℕ) (seen own : List Element) → Passes (rows s seen own) → length (text s seen own) ≤ room_of o

pub reading-laws : {o : Op} → Reading o → OpLaws o
unfolding writes
reading-laws {o} r =
    record {
      rows-local = λ s m t. ap refusal (r.rows_are s m ∙ same-both (r.rows s) s m t ∙ sym (r.rows_are s (restrict s m)));
      effect-local = λ s m t.
          r.effect_is s m ∙ same-both (λ v e. writes (r.result s v e) (r.text s v e)) s m t ∙ sym (r.effect_is s (restrict s m));
      keeps = λ s m sets h es e.
          let q : none ≡ some es = sym (ap (λ (x : Effect). x.change) (r.effect_is s m)) ∙ e in
          let z : ◌≡◌ {A = ℕ} 0 1 = cc in
          absurd (omega arith);
      fits = λ s m h. rw (r.effect_is s m) (r.text-fits s (visible s m) (own_set s m) (rw (r.rows_are s m) at h));
    }

-- ---- one that changes the subject's set, and writes nothing: the visible elements and the set give its result and the new set

pub record Changing (o : Op) : Type 0 where
  pub result : (seen own : List Element) → Result
  pub set : (seen own : List Element) → List Element
  pub effect_is : (s : ℕ) (m : Model) → effect o s m ≡ changes (result (visible s m) (own_set s m)) (set (visible s m) (own_set s m))
  pub rows-local : (s : ℕ) (m : Model) → T (is_label s) → refusal (op_rows o s m) ≡ refusal (op_rows o s (restrict s m))
  pub valid : (s : ℕ) (m : Model) → ValidSets m → Passes (op_rows o s m) → ValidSet key s (set (visible s m) (own_set s m))

pub changing-laws : {o : Op} → Changing o → OpLaws o
unfolding changes
changing-laws {o} r =
    record {
      rows-local = r.rows-local;
      effect-local = λ s m t. r.effect_is s m ∙ same-both (λ v e. changes (r.result v e) (r.set v e)) s m t ∙ sym (r.effect_is s (restrict s m));
      keeps = λ s m sets h es e.
          let q : some (r.set (visible s m) (own_set s m)) ≡ some es = sym (ap (λ (x : Effect). x.change) (r.effect_is s m)) ∙ e in
          let f : r.set (visible s m) (own_set s m) ≡ es = cc in
          rw f at (r.valid s m sets h);
      fits = λ s m h. rw (r.effect_is s m) (omega arith);
    }

-- ---- each operation

-- one that writes a text of the visible elements at or below a path, and counts its bytes
looking : {o : Op} (p : List ℕ) (text : ℕ → List Element → List ℕ)
    → ((s : ℕ) (m : Model) → op_rows o s m ≡ look_rows s m p ++ room_rows (room_of o) (text s (visible s m)))
    → ((s : ℕ) (m : Model) → effect o s m ≡ writes (count (length (text s (visible s m)))) (text s (visible s m)))
    → Reading o
unfolding in_view
looking {o} p text rows_are effect_is =
    record {
      rows = λ s v own. view_path_rows p ++ (row 7 (not (reaches v (steps_of p))) ∷ room_rows (room_of o) (text s v));
      result = λ s v own. count (length (text s v));
      text = λ s v own. text s v;
      rows_are = rows_are;
      effect_is = effect_is;
      text-fits = λ s v own h. ltb_no h.1.1.0;
    }

view-reads : (p : List ℕ) (room : ℕ) → Reading (view p room)
unfolding op_rows effect listing
view-reads p room = looking p (λ s v. listing_of s v (steps_of p)) (λ s m. refl) (λ s m. refl)

xml-reads : (p : List ℕ) (room : ℕ) → Reading (view_xml p room)
unfolding op_rows effect xml_view
xml-reads p room = looking p (λ s v. xml_of s v (steps_of p)) (λ s m. refl) (λ s m. refl)

-- an even grade writes nothing: what is visible gives its rows and its result
grade-reads : (p q : List ℕ) (n : ℕ) → Reading (grade p q n)
unfolding op_rows effect in_view
grade-reads p q n =
    record {
      rows = λ s v own. asked_rows p q n ++ (seen v p ∷ seen v q ∷ measured v p ∷ measured v q ∷ []);
      result = λ s v own. grade_of n (measure_at v (steps_of p)) (measure_at v (steps_of q));
      text = λ s v own. [];
      rows_are = λ s m. refl;
      effect_is = λ s m. refl;
      text-fits = λ s v own h. omega arith;
    }
  where
    seen : List Element → List ℕ → Row
    seen v x = row 7 (not (reaches v (steps_of x)))

    measured : List Element → List ℕ → Row
    measured v x = row 12 (not (is_measure (measure_at v (steps_of x))))

-- a path and a content that passed rows 4 and 5, and an element made of them
pub record Brought (p : List ℕ) (c : Content) : Type 0 where
  pub path : T (good_path p)
  pub content : T (bringable c)

pub rows-brought : (p : List ℕ) (c : Content) → Passes (bring_rows p c) → Brought p c
rows-brought p c h = record { path = not-not (good_path p) h.0; content = not-not (bringable c) h.1.0 }

-- its steps make a valid path, and its content may be stored
pub brought-valid : {p : List ℕ} {c : Content} → Brought p c → T (valid_path (steps_of p)) × T (storable c)
unfolding good_path bringable storable
brought-valid {p} b = (and_r (eqb (length p % 3) 0) (valid_path (steps_of p)) b.path, b.content)

-- what rows 6 and 7 of an element that is there show
pub rows-own-live : (s : ℕ) (m : Model) (p : List Step) → Passes (own_live_rows s m p) → T (ends_in s p) × T (contains (own_set s m) p)
rows-own-live s m p h =
    let own : T (ends_in s p) = not-not (ends_in s p) h.0 in
    (own, rw (live_own s m p own) at (not-not (live m p) h.1.0))

insert-changes : (p : List ℕ) (c : Content) → Changing (insert p c)
unfolding op_rows effect makes
insert-changes p c =
    record {
      result = λ v own. count (length (missing_paths (seen_steps v (steps_of p)) (steps_of p)));
      set = λ v own. with_all (with_groups (seen_steps v (steps_of p)) (steps_of p) c) own;
      effect_is = λ s m. refl;
      rows-local = λ s m t. refusal-behind (bring_rows p c) _ _ (λ h. same_place s m t (steps_of p));
      valid = λ s m sets h.
          let r = passes-both (bring_rows p c) (place_rows s m (steps_of p)) h in
          let b = brought-valid (rows-brought p c r.0) in
          insert-valid s m sets (steps_of p) c b.0 b.1 (rows-placed s m (steps_of p) r.1);
    }

update-changes : (p : List ℕ) (c : Content) → Changing (update p c)
unfolding op_rows effect
update-changes p c =
    record {
      result = λ v own. count 1;
      set = λ v own. replaced (steps_of p) c own;
      effect_is = λ s m. refl;
      rows-local = λ s m t. refusal-behind (bring_rows p c) _ _ (λ h. same-own-live s m t (steps_of p));
      valid = λ s m sets h.
          let r = passes-both (bring_rows p c) (own_live_rows s m (steps_of p)) h in
          let b : Brought p c = rows-brought p c r.0 in
          let own : T (ends_in s (steps_of p)) = (rows-own-live s m (steps_of p) r.1).0 in
          update-valid s m sets (steps_of p) c (element-valid s p c b.path b.content own);
    }

delete-changes : (p : List ℕ) → Changing (delete p)
unfolding op_rows effect
delete-changes p =
    record {
      result = λ v own. count (extending (steps_of p) own);
      set = λ v own. remove (steps_of p) own;
      effect_is = λ s m. refl;
      rows-local = λ s m t. refusal-behind (path_rows p) _ _ (λ h. same-own-live s m t (steps_of p));
      valid = λ s m sets h. remove-valid s (steps_of p) (own_set s m) (sets s);
    }

take-changes : (p : List ℕ) (f : Forest) → Changing (insert_xml p f)
unfolding op_rows effect
take-changes p f =
    record {
      result = λ v own. count (length (entries (steps_of p) f));
      set = λ v own. with_all (elements_of (steps_of p) f) own;
      effect_is = λ s m. refl;
      rows-local = λ s m t.
          refusal-behind (view_path_rows p ++ sent_rows s (length (steps_of p)) f) _ _ (λ h. same-take s m t (steps_of p) f (not-not (own_live s f) h.1.1.0));
      valid = λ s m sets h. taken-valid sets (rows_taken s m p f h);
    }

-- every operation has the laws; nothing else goes by cases on it
pub op-laws : (o : Op) → OpLaws o
op-laws (view p room) = reading-laws (view-reads p room)
op-laws (insert p c) = changing-laws (insert-changes p c)
op-laws (update p c) = changing-laws (update-changes p c)
op-laws (delete p) = changing-laws (delete-changes p)
op-laws (view_xml p room) = reading-laws (xml-reads p room)
op-laws (grade p q n) = reading-laws (grade-reads p q n)
op-laws (insert_xml p f) = changing-laws (take-changes p f)

-- ---- a call

-- a call that no row refuses has a label for its subject, a store of the right size, and meets its operation's rows
pub record Admitted (c : Call) (m : Model) : Type 0 where
  pub size : m.size ≡ store_size
  pub label : T (is_label (call_subject c))
  pub formed : T (not (some_raw (call_subject c) m))
  pub rows : Passes (op_rows c.op (call_subject c) m)

pub admitted : (c : Call) (m : Model) → refusal (table c m) ≡ none → Admitted c m
unfolding table
admitted c m e =
    let p : Passes (table c m) = passes (table c m) e in
    let q = (passes-both (caller_rows c.who c.op) _ p.1).1 in
    record {
      size = eqb_yes (not-not (eqb m.size store_size) p.0);
      label = not-not (is_label (call_subject c)) q.0;
      formed = q.1.0;
      rows = q.1.1;
    }

module _ (c : Call) (m : Model) where
  -- what holds of a refusal and of what is done, holds of the outcome
  pub outcome-either : (P : Outcome → Type 0) → ((k : ℕ) → P (refused k c.op)) → (Admitted c m → P (done (effect c.op (call_subject c) m)))
      → P (outcome c m)
  unfolding outcome
  outcome-either P f g = go (refusal (table c m)) refl
    where
      go : (r : Option ℕ) → refusal (table c m) ≡ r → P (outcome_by r c.op (call_subject c) m)
      go none e = g (admitted c m e)
      go (some k) e = f k

  same-table : refusal (table c m) ≡ refusal (table c (restrict (call_subject c) m))
  unfolding table restrict
  same-table =
      refusal-behind (size_rows m) _ _
      (λ h1. refusal-behind (caller_rows c.who c.op) _ _
      (λ p. refusal-behind (row 2 _ ∷ []) _ _
      (λ h2. rw (← (raw-restrict (call_subject c) m))
      (refusal-behind (row 3 _ ∷ []) _ _
      (λ h3. (op-laws c.op).rows-local (call_subject c) m (not-not (is_label (call_subject c)) h2.0))))))

  -- the outcome depends only on the partitions that the subject dominates
  pub outcome-restrict : outcome c m ≡ outcome c (restrict (call_subject c) m)
  unfolding outcome
  outcome-restrict =
      go (refusal (table c m)) refl
      ∙ ap (λ (r : Option ℕ). outcome_by r c.op (call_subject c) (restrict (call_subject c) m)) same-table
    where
      go : (r : Option ℕ) → refusal (table c m) ≡ r
          → outcome_by r c.op (call_subject c) m ≡ outcome_by r c.op (call_subject c) (restrict (call_subject c) m)
      go none e = ap done ((op-laws c.op).effect-local (call_subject c) m (admitted c m e).label)
      go (some k) e = refl

  -- what is written fits the output that was lent
  pub outcome_fits : length (outcome c m).answer.written ≤ room_of c.op
  unfolding refused done
  outcome_fits =
      outcome-either (λ x. length x.answer.written ≤ room_of c.op) (λ k. omega arith) (λ a. (op-laws c.op).fits (call_subject c) m a.rows)

-- what holds where a call changes its subject's set to es
pub record Kept (n : ℕ) (m : Model) (es : List Element) : Type 0 where
  pub label : T (is_label n)
  pub size : m.size ≡ store_size
  pub valid : ValidSet key n es

-- the set stays valid
pub call-keeps : (c : Call) (m : Model) (es : List Element) → ValidSets m → (outcome c m).change ≡ some es → Kept (call_subject c) m es
unfolding refused done
call-keeps c m es sets =
    outcome-either c m (λ x. x.change ≡ some es → Kept (call_subject c) m es)
    (λ k e. let z : ◌≡◌ {A = ℕ} 0 1 = cc in absurd (omega arith))
    (λ a e. record { label = a.label; size = a.size; valid = (op-laws c.op).keeps (call_subject c) m sets a.rows es e })
