-- What an insert does: where its parent is in view it comes to what it came to before it made groups; what is new in the subject's set are
-- the element and a group at each prefix above it that was not in view.
use mathlib.Core.Path.{◌≡◌, refl, sym, ap, ap₂, subst, ◌∙◌}
use mathlib.Core.Logic.{◌⊎◌, inl, inr}
use mathlib.Core.Bool.{Bool, true, not}
use mathlib.Core.Option.{Option, none, some}
use mathlib.Core.List.Memᴰ
use mathlib.Core.List.{List, [], ◌∷◌, ◌++◌}
use Prim.Native.Nat.{ℕ, zero, suc, ◌+◌, ◌-◌, ◌≤◌, ◌<◌}
use native.Mathlib.Omega.{arith}
use native.Mathlib.Decide.{dec_lt}
use lib.ListN.{length, take}
use lib.Dec.{T, eqb, leb, ltb}
use mir.Facts.{ltb_yes, yes_ltb, leb_yes, yes_leb, not_T}
use Rattle.model.specs.Lists.{keep, ◌∈◌}
use Rattle.model.specs.Path.{Step, is_prefix, prefixes, parent, ends_in, steps_of}
use Rattle.model.specs.Value.{Content}
use Rattle.model.specs.Element.{Element, contains}
use Rattle.model.specs.Model.{Model, own_set, live, open_model}
use Rattle.model.specs.View.{visible, reaches, in_view}
use Rattle.model.specs.Intake.{with_all}
use Rattle.model.specs.Groups.{seen_steps, own_behind, missing_paths, with_groups}
use Rattle.model.specs.Rows.{Row, row, refusal, size_rows, label_rows, formed_rows, bring_rows, seen_rows, place_rows}
use Rattle.model.specs.Call.{Caller, subject_of, insert, Call, caller_rows, op_rows, table, count, changes, added, makes, Effect, effect, Outcome, refused, done, outcome_by, outcome, after}
use Rattle.model.specs.Run.{answer_of, store_after, write_set}
use Rattle.model.proofs.Bools.{both, not-not, yes-not-not, cond_yes, cond_no, same_test}
use Rattle.model.proofs.Rows.{Passes, passes, passes-both, refusal-past, refusal-behind}
use Rattle.model.proofs.Paths.{prefix_refl, prefix_trans}
use Rattle.model.proofs.Prefixes.{prefix-take, parent-take}
use Rattle.model.proofs.Sets.{contains-in}
use Rattle.model.proofs.Keeps.{ValidSets}
use Rattle.model.proofs.Taking.{with-old, with-new, with_in}
use Rattle.model.proofs.Groups.{seen-above, seen_below, take-prefix, missing-none, missing-next, groups-last, groups-next, Lacking, lacking-coming, rows-placed, placed-lacking}
use Rattle.model.proofs.Operations.{rows-brought, brought-valid, admitted}
use Rattle.model.proofs.Refusals.{set-done}

-- an insert
abbrev pub inserting : Caller → List ℕ → Content → Call
inserting w p c = record { who = w; op = insert p c }

-- ---- before groups were made

-- rows 6 to 9: the last label is the subject's, the parent is in view, the element is not there, a slot is free
abbrev pub place_rows_before : ℕ → Model → List Step → List Row
place_rows_before s m p =
    row 6 (not (ends_in s p)) ∷ (seen_rows s m (parent p) ++ (row 8 (live m p) ∷ row 9 (leb 32 (length (own_set s m))) ∷ []))

-- the table
abbrev pub table_before : Caller → List ℕ → Content → Model → List Row
table_before w p c m =
    size_rows m
    ++ (caller_rows w (insert p c)
    ++ (label_rows (subject_of w) ++ (formed_rows (subject_of w) m ++ (bring_rows p c ++ place_rows_before (subject_of w) m (steps_of p)))))

-- the element comes, and nothing is counted
abbrev pub effect_before : List ℕ → Content → ℕ → Model → Effect
effect_before p c s m = changes (count 0) (added (steps_of p) c (own_set s m))

abbrev pub before_by : Option ℕ → List ℕ → Content → ℕ → Model → Outcome
before_by none p c s m = done (effect_before p c s m)
before_by (some k) p c s m = refused k (insert p c)

abbrev pub outcome_before : Caller → List ℕ → Content → Model → Outcome
outcome_before w p c m = before_by (refusal (table_before w p c m)) p c (subject_of w) m

-- ---- a parent in view

-- where at most the last step is behind the first n, a path that ends in the label has no other behind them
last-own : (s n : ℕ) (p : List Step) → T (ends_in s p) → length p ≤ suc n → T (own_behind s n p)
unfolding own_behind
last-own s zero [] t h = tt
last-own s (suc n) [] t h = tt
last-own s zero (a ∷ []) t h = both (eqb a.label s) true t tt
last-own s (suc zero) (a ∷ []) t h = tt
last-own s (suc (suc n)) (a ∷ []) t h = tt
last-own s zero (a ∷ b ∷ p) t h = absurd (omega arith)
last-own s (suc n) (a ∷ b ∷ p) t h = last-own s n (b ∷ p) t (omega arith)

module _ (s : ℕ) (m : Model) (p : List Step) (t : T (in_view s m (parent p))) where
  -- all steps are in view but the last, if not that too
  parent-seen : length p ≤ suc (seen_steps (visible s m) p)
  unfolding in_view
  parent-seen =
      let n : length p - 1 ≤ seen_steps (visible s m) p = seen-above (visible s m) p (length p - 1) (omega arith) (rw (← (parent-take p)) t) in
      omega arith

  -- so nothing is missing
  pub parent-missing : missing_paths (seen_steps (visible s m) p) p ≡ []
  parent-missing = missing-none (seen_steps (visible s m) p) p parent-seen

  -- what is done is that of before
  parent-makes : (c : Content) → makes (seen_steps (visible s m) p) p c (own_set s m) ≡ changes (count 0) (added p c (own_set s m))
  unfolding makes added
  parent-makes c =
      ap₂ changes (ap (λ (l : List (List Step)). count (length l)) parent-missing)
      (ap (λ (xs : List Element). with_all xs (own_set s m)) (groups-last (seen_steps (visible s m) p) p c parent-seen))

  -- and so are the rows
  same_rows : refusal (place_rows s m p) ≡ refusal (place_rows_before s m p)
  same_rows =
      refusal-behind (row 6 (not (ends_in s p)) ∷ []) _ _
      (λ h.
      let own : T (ends_in s p) = not-not (ends_in s p) h.0 in
      refusal-past (row 7 (not (own_behind s (seen_steps (visible s m) p) p)) ∷ []) _
      (yes-not-not (own_behind s (seen_steps (visible s m) p) p) (last-own s (seen_steps (visible s m) p) p own parent-seen), tt)
      ∙ ap (λ (b : Bool). refusal (row 8 (live m p) ∷ row 9 b ∷ [])) same-nine
      ∙ sym (refusal-past (seen_rows s m (parent p)) _ (yes-not-not (in_view s m (parent p)) t, tt)))
    where
      same-nine : ltb 32 (length (own_set s m) + length (missing_paths (seen_steps (visible s m) p) p) + 1) ≡ leb 32 (length (own_set s m))
      same-nine =
          let none-missing : length (missing_paths (seen_steps (visible s m) p) p) ≡ 0 = ap length parent-missing in
          same_test (ltb 32 (length (own_set s m) + length (missing_paths (seen_steps (visible s m) p) p) + 1)) (leb 32 (length (own_set s m)))
          (λ y. let h : 32 < length (own_set s m) + length (missing_paths (seen_steps (visible s m) p) p) + 1 = ltb_yes y in
          let k : 32 ≤ length (own_set s m) = omega arith in
          yes_leb k)
          (λ y. let h : 32 ≤ length (own_set s m) = leb_yes y in
          let k : 32 < length (own_set s m) + length (missing_paths (seen_steps (visible s m) p) p) + 1 = omega arith in
          yes_ltb k)

-- an insert whose parent is in view comes to what it came to
pub seen-as-before : (w : Caller) (p : List ℕ) (c : Content) (m : Model) → T (in_view (subject_of w) m (parent (steps_of p)))
    → outcome (inserting w p c) m ≡ outcome_before w p c m
unfolding outcome table op_rows effect
seen-as-before w p c m t =
    go (refusal (table (inserting w p c) m))
    ∙ ap (λ (r : Option ℕ). before_by r p c (subject_of w) m)
    (refusal-behind (size_rows m) _ _
    (λ h1. refusal-behind (caller_rows w (insert p c)) _ _
    (λ h2. refusal-behind (label_rows (subject_of w)) _ _
    (λ h3. refusal-behind (formed_rows (subject_of w) m) _ _
    (λ h4. refusal-behind (bring_rows p c) _ _ (λ h5. same_rows (subject_of w) m (steps_of p) t))))))
  where
    go : (r : Option ℕ) → outcome_by r (insert p c) (subject_of w) m ≡ before_by r p c (subject_of w) m
    go none = ap done (parent-makes (subject_of w) m (steps_of p) t c)
    go (some k) = refl

-- so does one that was accepted: it answers as it did and leaves the same store
pub accepted-as-before : (w : Caller) (p : List ℕ) (c : Content) (b : List ℕ) → refusal (table_before w p c (open_model b)) ≡ none
    → (answer_of (inserting w p c) b ≡ (outcome_before w p c (open_model b)).answer)
    × (store_after (inserting w p c) b ≡ write_set (subject_of w) (outcome_before w p c (open_model b)).change b)
unfolding answer_of store_after
accepted-as-before w p c b e = (ap (λ (x : Outcome). x.answer) same, ap (λ (x : Outcome). write_set (subject_of w) x.change b) same)
  where
    same : outcome (inserting w p c) (open_model b) ≡ outcome_before w p c (open_model b)
    same =
        let m : Model = open_model b in
        let rows : List Row = bring_rows p c ++ place_rows_before (subject_of w) m (steps_of p) in
        let h : Passes (table_before w p c m) = passes (table_before w p c m) e in
        let q = (passes-both (caller_rows w (insert p c)) (label_rows (subject_of w) ++ (formed_rows (subject_of w) m ++ rows)) h.1).1 in
        let r = (passes-both (bring_rows p c) (place_rows_before (subject_of w) m (steps_of p)) q.1.1).1 in
        seen-as-before w p c m (not-not (in_view (subject_of w) m (parent (steps_of p))) r.1.0)

-- ---- what is missing

-- the prefixes of a path above it that are not in view, where the elements v are visible
module _ (v : List Element) (p : List Step) where
  abbrev unseen : List Step → Bool
  unseen q = not (reaches v q)

  -- behind the first k prefixes, where these are at least as many as the steps in view, none is in view
  unseen-behind : (j k : ℕ) → seen_steps v p ≤ k → length p ≤ suc (k + j) → keep unseen (missing_paths k p) ≡ missing_paths k p
  unseen-behind zero k h g = rw (missing-none k p (omega arith))
  unseen-behind (suc j) k h g = elim (dec_lt (suc k) (length p)) [
    | yes more ↦
        rw (missing-next k p more)
        (cond_yes (unseen (take (suc k) p)) (take (suc k) p ∷ keep unseen (missing_paths (suc k) p)) (keep unseen (missing_paths (suc k) p))
        (not_T (reaches v (take (suc k) p)) (λ t. let w : suc k ≤ seen_steps v p = seen-above v p (suc k) (omega arith) t in omega arith))
        ∙ ap (λ (l : List (List Step)). take (suc k) p ∷ l) (unseen-behind j (suc k) (omega arith) (omega arith)))
    | no last ↦ rw (missing-none k p (omega arith))
  ]

  -- behind fewer, those of the steps in view are left out
  unseen-before : (j k : ℕ) → k + j ≡ seen_steps v p → keep unseen (missing_paths k p) ≡ missing_paths (seen_steps v p) p
  unseen-before zero k e =
      let n : k ≡ seen_steps v p = omega arith in
      subst (λ (i : ℕ). keep unseen (missing_paths k p) ≡ missing_paths i p) n (unseen-behind (length p) k (omega arith) (omega arith))
  unseen-before (suc j) k e = elim (dec_lt (suc k) (length p)) [
    | yes more ↦
        rw (missing-next k p more)
        (cond_no (unseen (take (suc k) p)) (take (suc k) p ∷ keep unseen (missing_paths (suc k) p)) (keep unseen (missing_paths (suc k) p))
        (yes-not-not (reaches v (take (suc k) p)) (seen_below v p (suc k) (omega arith)))
        ∙ unseen-before j (suc k) (omega arith))
    | no last ↦ rw (missing-none k p (omega arith), missing-none (seen_steps v p) p (omega arith))
  ]

  -- what is missing are the prefixes above the path that are not in view
  pub missing-unseen : missing_paths (seen_steps v p) p ≡ keep (λ q. not (reaches v q)) (prefixes (parent p))
  unfolding missing_paths
  missing-unseen = sym (unseen-before (seen_steps v p) 0 (omega arith))

-- ---- what is new

-- what comes has the first missing path or extends it
groups-extend : (n : ℕ) (p : List Step) (c : Content) → n < length p → {e : Element} → e ∈ with_groups n p c → T (is_prefix (take (suc n) p) e.path)
groups-extend n p c h {e} m = go (length p) n h (omega arith) m
  where
    go : (j k : ℕ) → k < length p → length p ≤ k + j → e ∈ with_groups k p c → T (is_prefix (take (suc k) p) e.path)
    go zero k h g m = absurd (omega arith)
    go (suc j) k h g m = elim (dec_lt (suc k) (length p)) [
      | yes more ↦
          elim (Memᴰ.cases_cons (subst (λ (l : List Element). e ∈ l) (groups-next k p c more) m)) [
            | inl q ↦ rw q (prefix_refl (take (suc k) p))
            | inr r ↦
                prefix_trans (take (suc k) p) (take (suc (suc k)) p) e.path (take-prefix (suc k) (suc (suc k)) p (omega arith))
                (go j (suc k) more (omega arith) r)
          ]
      | no last ↦
          elim (Memᴰ.cases_cons (subst (λ (l : List Element). e ∈ l) (groups-last k p c (omega arith)) m)) [
            | inl q ↦ rw q (prefix-take (suc k) p)
            | inr r ↦ absurd (Memᴰ.not-nil r)
          ]
    ]

-- the set own' after an element came to own with the groups that were missing behind the first n steps of its path: what was there stays, these come,
-- there is nothing else, and their paths were not there
pub record Made (n : ℕ) (p : List Step) (c : Content) (own own' : List Element) : Type 0 where
  pub old : (e : Element) → e ∈ own → e ∈ own'
  pub new : (e : Element) → e ∈ with_groups n p c → e ∈ own'
  pub only : (e : Element) → e ∈ own' → (e ∈ own) ⊎ (e ∈ with_groups n p c)
  pub lacked : (e : Element) → e ∈ with_groups n p c → T (not (contains own e.path))

-- so it is after an insert that no row refuses
pub insert-makes : (w : Caller) (p : List ℕ) (c : Content) (m : Model) → ValidSets m → refusal (table (inserting w p c) m) ≡ none
    → Made (seen_steps (visible (subject_of w) m) (steps_of p)) (steps_of p) c (own_set (subject_of w) m) (own_set (subject_of w) (after (inserting w p c) m))
unfolding op_rows effect makes changes
insert-makes w p c m sets passed =
    let s : ℕ = subject_of w in
    let q : List Step = steps_of p in
    let n : ℕ = seen_steps (visible s m) q in
    let own : List Element = own_set s m in
    let rows = passes-both (bring_rows p c) (place_rows s m q) (admitted (inserting w p c) m passed).rows in
    let ok = brought-valid (rows-brought p c rows.0) in
    let l : Lacking s own q n = placed-lacking s m sets q ok.0 (rows-placed s m q rows.1) in
    let after_is : own_set s (after (inserting w p c) m) ≡ with_all (with_groups n q c) own = set-done (inserting w p c) m passed refl in
    rw after_is
    (record {
      old = λ e k. with-old (with_groups n q c) own k;
      new = λ e k. with-new s (with_groups n q c) own (lacking-coming s own q n c l ok.1) k;
      only = λ e k. with_in (with_groups n q c) own k;
      lacked = λ e k. not_T (contains own e.path)
          (λ t. let d = contains-in own e.path t in l.bare d.0 d.1 (rw (← d.2) (groups-extend n q c l.short k)));
    })
