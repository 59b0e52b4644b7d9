-- Rows 6 to 9 of an element that comes, by one search of the subject's own partition and what is in view of the steps before those of his label.
use mathlib.Core.Path.{◌≡◌, sym, ap, ◌∙◌}
use mathlib.Core.Bool.{Bool, true, false, not}
use mathlib.Core.List.{List, [], ◌∷◌}
use Prim.Native.Nat.{ℕ, suc, ◌+◌, ◌-◌, ◌*◌, ◌/◌, ◌%◌, ◌≤◌, ◌<◌, max}
use native.Mathlib.Omega.{arith}
use native.Mathlib.Decide.{dec_le, dec_lt}
use lib.ListN.{length, take, drop, drop_of_length-le}
use lib.Dec.{T, eqb}
use mir.Facts.{yes_ltb, no_ltb, not_T, T_not}
use Rattle.model.specs.Lists.{any, ◌∈◌}
use Rattle.model.specs.Label.{dominates}
use Rattle.model.specs.Path.{Step, is_prefix, ends_in, labels_ascend, valid_path, steps_of}
use Rattle.model.specs.Element.{Element, contains}
use Rattle.model.specs.Partition.{partition_size, count, read_partition}
use Rattle.model.specs.Store.{partition}
use Rattle.model.specs.Model.{Model, open_model, own_set, live}
use Rattle.model.specs.View.{visible, reaches, in_view}
use Rattle.model.specs.Groups.{seen_steps, own_behind, missing_paths}
use Rattle.model.specs.Rows.{row, good_path}
use Rattle.model.proofs.Bools.{and_r, not-not, yes-not-not, is_false, cond_yes, same_test}
use Rattle.model.proofs.Dominance.{dominates-refl, label-lt}
use Rattle.model.proofs.Members.{any-in}
use Rattle.model.proofs.Paths.{prefix_refl}
use Rattle.model.proofs.Sets.{contains-in}
use Rattle.model.proofs.Restriction.{live_own}
use Rattle.model.proofs.Rows.{row-applies, rows_behind, rows_end}
use Rattle.model.proofs.Keeps.{open-valid, in-visible, in-view-own}
use Rattle.model.proofs.Groups.{reaches_of, reaches_more, steps_first, seen_few, seen-reached, seen-above, seen_below, seen-is, seen_all, seen-short, missing-count}
use Rattle.path.proofs.Steps.{length-steps}
use Rattle.partition.specs.Place.{place_of, Found}
use Rattle.reach.specs.Before.{steps_before}
use Rattle.reach.proofs.Before.{before-few, before-own, before-foreign, before-ends, valid-ascend}
use Rattle.store.specs.Opened.{Opened, below_at, Within}
use Rattle.store.proofs.Parts.{not-above}
use Rattle.std.specs.Prelude.{Ok, Err}
use Rattle.promise.specs.declared.Refusal.TheVariants as refusals
use Rattle.table.specs.Placed.{Absent, Searched, Places}
use Rattle.table.proofs.Walking.{told-yes, told-no, failed, held, found-live, found-place, own-set, counted, own-few}

-- the steps of a good path are valid
pub good-valid : (p : List ℕ) → T (good_path p) → T (valid_path (steps_of p))
unfolding good_path
good-valid p t = and_r (eqb (length p % 3) 0) (valid_path (steps_of p)) t

-- the groups that are missing behind n steps in view of a lent path are the steps between
pub missing-lent : (v : List Element) (p : List ℕ) {n : ℕ} → n ≡ seen_steps v (steps_of p)
    → length (missing_paths (seen_steps v (steps_of p)) (steps_of p)) ≡ length p / 3 - 1 - n
missing-lent v p e = missing-count (seen_steps v (steps_of p)) (steps_of p) ∙ rw (← e, length-steps p)

-- ---- how many steps are in view

module _ {b : List ℕ} {s : ℕ} {p : List ℕ} {more lower : ℕ} (f : Searched b s p more lower) where
  abbrev m : Model
  m = open_model b

  abbrev path : List Step
  path = steps_of p

  abbrev own : List Element
  own = own_set s m

  abbrev seen : List Element
  seen = visible s m

  -- the subject's own elements are visible to him
  own-seen : (e : Element) → e ∈ own → e ∈ seen
  own-seen e k = in-visible s s m (dominates-refl s f.absent.opened.label) k

  -- the labels of the path ascend
  up : T (labels_ascend path)
  up = valid-ascend path (good-valid p f.absent.path)

  -- of the steps of his label those that his elements share are in view, and no more
  own-beyond : (k : ℕ) → lower < k → k ≤ length path → T (reaches seen (take k path)) → k ≤ more
  unfolding in_view
  own-beyond k h g t =
      let ends : T (ends_in s (take k path)) = before-ends s path up f.absent.ends k (omega (arith, f.lower-is)) g in
      let c : T (contains own (take k path)) = in-view-own s m (take k path) (take k path) (open-valid b) t (prefix_refl (take k path)) ends in
      let d : (e : Element) × (e ∈ own) × (take k path ≡ e.path) = contains-in own (take k path) c in
      let r : T (reaches own (take k path)) = reaches_of own d.0 d.1 (take k path) (rw (← d.2) (prefix_refl (take k path))) in
      omega (arith, f.held-is, seen-above own path k g r)

  -- those that his elements share are
  own-reached : T (reaches seen (take more path))
  own-reached = rw f.held-is (reaches_more own seen own-seen (take (seen_steps own path) path) (seen-reached own path))

  -- so where the steps before his label are in view, or his elements share them, the greater number is
  pub seen_most : (more < lower → T (reaches seen (take lower path))) → max more lower ≡ seen_steps seen path
  seen_most lower-seen = elim (dec_lt more lower) [
    | yes h ↦
        let g : max more lower ≡ lower = omega arith in
        g
        ∙ seen-is seen path lower (omega (arith, f.lower-is, before-few s path)) (lower-seen h)
        (λ k u w t. let z : k ≤ more = own-beyond k u w t in omega arith)
    | no h ↦
        let g : max more lower ≡ more = omega arith in
        g
        ∙ seen-is seen path more (omega (arith, f.held-is, seen_few own path)) own-reached
        (λ k u w t. let z : k ≤ more = own-beyond k (omega arith) w t in omega arith)
  ]

  -- where his elements share them, each step behind what is in view bears his label
  pub other-shared : lower ≤ more → false ≡ not (own_behind s (seen_steps seen path) path)
  other-shared h =
      let g : more ≤ seen_steps seen path = seen-above seen path more (omega (arith, f.held-is, seen_few own path)) own-reached in
      sym (is_false (not (own_behind s (seen_steps seen path) path)) (yes-not-not (own_behind s (seen_steps seen path) path) (before-own s (seen_steps seen path) path up f.absent.ends (omega (arith, f.lower-is)))))

  module _ (h : more < lower) where
    -- else where they are in view
    other-seen : reaches seen (take lower path) ≡ own_behind s (seen_steps seen path) path
    other-seen =
        same_test (reaches seen (take lower path)) (own_behind s (seen_steps seen path) path)
        (λ t. before-own s (seen_steps seen path) path up f.absent.ends
        (omega (arith, f.lower-is, seen-above seen path lower (omega (arith, f.lower-is, before-few s path)) t)))
        (λ t. elim (dec_le lower (seen_steps seen path)) [
          | yes k ↦ seen_below seen path lower k
          | no k ↦ absurd (T_not (own_behind s (seen_steps seen path) path) t (before-foreign s (seen_steps seen path) path (omega (arith, f.lower-is))))
        ])

    -- the first steps as they are lent
    lent-lower : steps_of (take (3 * lower - 0) (drop 0 p)) ≡ take lower path
    lent-lower = let n : 3 * lower - 0 ≡ 3 * lower = omega arith in steps_first lower p n

    pub other-asked : {w : Bool} → w ≡ in_view s m (steps_of (take (3 * lower - 0) (drop 0 p))) → not w ≡ not (own_behind s (seen_steps seen path) path)
    unfolding in_view
    other-asked e = ap not (e ∙ ap (reaches seen) lent-lower ∙ other-seen)

    -- his own label has nothing there
    own-lacks : any (λ e. is_prefix (take lower path) e.path) own ≡ false
    own-lacks =
        is_false (any (λ e. is_prefix (take lower path) e.path) own)
        (not_T (any (λ e. is_prefix (take lower path) e.path) own)
        (λ t. let r : (e : Element) × (e ∈ own) × T (is_prefix (take lower path) e.path) = any-in (λ e. is_prefix (take lower path) e.path) own t in
        let z : lower ≤ seen_steps own path = seen-above own path lower (omega (arith, f.lower-is, before-few s path)) (reaches_of own r.0 r.1 (take lower path) r.2) in
        omega (arith, f.held-is)))

    -- so the labels before his are to be asked
    pub other-within : Within b s (steps_of (take (3 * lower - 0) (drop 0 p))) s
    other-within = rw lent-lower (record { few = omega (arith, label-lt s f.absent.opened.label); others = λ n g. others n g })
      where
        others : (n : ℕ) → s ≤ n → below_at s b (take lower path) n ≡ false
        others n g = elim (dec_lt s n) [
          | yes k ↦ rw (not-above s (suc s) n (omega (arith, label-lt s f.absent.opened.label), λ z. omega arith) k)
          | no k ↦
              let e : n ≡ s = omega arith in
              rw e
              (ap (any (λ d. is_prefix (take lower path) d.path)) (cond_yes (dominates s s) own [] (dominates-refl s f.absent.opened.label)) ∙ own-lacks)
        ]

    -- they stand within the path
    pub other-end : 3 * lower ≤ length p
    other-end = omega (arith, f.lower-is, before-few s path, length-steps p)

-- ---- rows 6 to 9

-- no step is behind a path that is in view
all_seen : (s : ℕ) (v : List Element) (p : List Step) → T (reaches v p) → T (not (not (own_behind s (seen_steps v p) p)))
unfolding own_behind
all_seen s v p w = rw (seen_all v p w, drop_of_length-le p {i = length p} (omega arith)) tt

-- the last label is another
pub place-six : (s : ℕ) (b : List ℕ) (p : List Step) {r : Bool} → r ≡ ends_in s p → r ≡ false → Places (Err refusals.OtherLabel) s b p
place-six s b p e h = row-applies _ _ (failed e h)

module _ {s : ℕ} {b : List ℕ} (o : Opened b s) (p : List ℕ) (good : T (good_path p)) {r : Bool} (e : r ≡ ends_in s (steps_of p)) (h : r ≡ true)
    {x : List ℕ} (g : (x ≡ partition s b) × (length x ≡ partition_size)) {at : ℕ} {t : Bool} (found : Found x (steps_of p) at t) where
  ends : T (ends_in s (steps_of p))
  ends = told-yes e h

  is_live : t ≡ live (open_model b) (steps_of p)
  is_live = found-live o g (steps_of p) e h found

  -- it is there: so it is in view
  pub place-eight : t ≡ true → Places (Err refusals.Live) s b (steps_of p)
  place-eight y =
      let here : T (contains (own_set s (open_model b)) (steps_of p)) = rw (live_own s (open_model b) (steps_of p) ends) at (told-yes is_live y) in
      let d = contains-in (own_set s (open_model b)) (steps_of p) here in
      let v : List Element = visible s (open_model b) in
      let reached : T (reaches v (steps_of p)) =
      reaches_of v d.0 (in-visible s s (open_model b) (dominates-refl s o.label) d.1) (steps_of p) (rw (← d.2) (prefix_refl (steps_of p))) in
      rows_behind (row 6 _ ∷ row 7 _ ∷ []) _ (held e h, (all_seen s v (steps_of p) reached, tt)) (row-applies _ _ (told-yes is_live y))

  -- it is not
  pub place-absent : t ≡ false → Absent b s p at
  place-absent y =
      record {
        opened = o;
        path = good;
        ends = ends;
        lacks = rw (live_own s (open_model b) (steps_of p) ends) at (told-no is_live y);
        place = found-place o g (steps_of p) found;
      }

-- ---- rows 7 and 9 of a path that is not there

module _ {s : ℕ} {b p : List ℕ} {at : ℕ} (a : Absent b s p at) {x : List ℕ} (g : (x ≡ partition s b) × (length x ≡ partition_size)) where
  -- its place in the subject's own partition
  pub absent-part : at ≡ place_of (steps_of p) (read_partition x)
  absent-part = a.place ∙ ap (place_of (steps_of p)) (own-set a.opened g)

  module _ {more lower : ℕ} (i : more ≡ seen_steps (read_partition x) (steps_of p)) (j : lower ≡ steps_before s (steps_of p)) where
    pub absent-searched : Searched b s p more lower
    absent-searched =
        record { at = at; absent = a; held-is = i ∙ ap (λ (es : List Element). seen_steps es (steps_of p)) (sym (own-set a.opened g)); lower-is = j }

    module _ {w : Bool} (q : w ≡ not (own_behind s (seen_steps (visible s (open_model b)) (steps_of p)) (steps_of p))) where
      -- rows 6 and 8 pass
      last : T (not (not (ends_in s (steps_of p))))
      last = yes-not-not (ends_in s (steps_of p)) a.ends

      not_live : T (not (live (open_model b) (steps_of p)))
      not_live = rw (live_own s (open_model b) (steps_of p) a.ends) a.lacks

      -- a step of another label is missing
      pub place-seven : w ≡ true → Places (Err refusals.Absent) s b (steps_of p)
      place-seven z = rows_behind (row 6 _ ∷ []) _ (last, tt) (row-applies _ _ (told-yes q z))

      module _ (z : w ≡ false) {n : ℕ} (k : n ≡ max more lower) where
        -- none is, so so many first steps are in view
        behind : T (own_behind s (seen_steps (visible s (open_model b)) (steps_of p)) (steps_of p))
        behind = not-not (own_behind s (seen_steps (visible s (open_model b)) (steps_of p)) (steps_of p)) (told-no q z)

        pub place-seen : n ≡ seen_steps (visible s (open_model b)) (steps_of p)
        place-seen = k ∙ seen_most absent-searched (λ u. rw (other-seen absent-searched u) behind)

        -- and the path is longer
        pub place_short : n < length p / 3
        place_short =
            let few : seen_steps (visible s (open_model b)) (steps_of p) < length (steps_of p) = seen-short s (open_model b) (open-valid b) (steps_of p) a.ends a.lacks in
            omega (arith, place-seen, length-steps p)

        module _ {c : ℕ} (l : c ≡ count x) where
          -- the elements that are there and those that come
          full : ℕ
          full = length (own_set s (open_model b)) + length (missing_paths (seen_steps (visible s (open_model b)) (steps_of p)) (steps_of p)) + 1

          full_is : full ≡ c + (length p / 3 - n)
          unfolding full
          full_is = omega (arith, counted a.opened g l, missing-lent (visible s (open_model b)) p place-seen, place_short)

          -- too few slots are free
          pub place-nine : 32 - c < length p / 3 - n → Places (Err refusals.Full) s b (steps_of p)
          unfolding full
          place-nine u =
              let v : 32 < full = omega (arith, own-few a.opened g l, full_is) in
              rows_behind (row 6 _ ∷ row 7 _ ∷ row 8 _ ∷ []) _ (last, (told-no q z, (not_live, tt))) (row-applies _ _ (yes_ltb v))

          -- enough are
          pub place-free : length p / 3 - n ≤ 32 - c → Places (Ok (record { at = at; seen = n })) s b (steps_of p)
          unfolding full
          place-free u =
              let v : full ≤ 32 = omega (arith, own-few a.opened g l, full_is) in
              (rows_end (row 6 _ ∷ row 7 _ ∷ row 8 _ ∷ row 9 _ ∷ []) (last, (told-no q z, (not_live, (no_ltb v, tt)))), a.place, place-seen)
