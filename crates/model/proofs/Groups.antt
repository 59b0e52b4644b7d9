-- An insert that makes groups: how many steps of a path are in view, what is missing behind them, and that the set stays valid with it.
use mathlib.Core.Path.{◌≡◌, refl, ap, subst, ◌∙◌}
use mathlib.Core.Logic.{◌⊎◌, inl, inr}
use mathlib.Core.Bool.{Bool, not}
use mathlib.Core.List.{List, [], ◌∷◌, map}
use Prim.Native.Nat.{ℕ, zero, suc, ◌+◌, ◌-◌, ◌*◌, ◌≤◌, ◌<◌}
use native.Mathlib.Omega.{arith}
use native.Mathlib.Decide.{dec_le, dec_lt}
use lib.ListN.{length, take, drop, length-append, length-map, length-drop, drop_of_length-le}
use lib.Seq.{length-take-le, take_all, take-length, take-take}
use lib.Dec.{T, eqb, leb}
use mir.Facts.{eqb_yes, yes_leb, leb_yes, ltb_no, not_T, T_not}
use Rattle.model.specs.Lists.{all, ◌∈◌}
use Rattle.model.specs.Sets.{put}
use Rattle.model.specs.Label.{is_label, dominates}
use Rattle.model.specs.Path.{Step, is_prefix, prefixes, parent, ends_in, valid_step, labels_ascend, valid_path, steps_of, key}
use Rattle.model.specs.Value.{Content, allowed, storable}
use Rattle.model.specs.Element.{Element, rank, valid_element, contains}
use Rattle.model.specs.Model.{Model, own_set}
use Rattle.model.specs.View.{visible, reaches, in_view}
use Rattle.model.specs.Intake.{with_all}
use Rattle.model.specs.Groups.{greatest, seen_steps, own_behind, missing_paths, with_groups}
use Rattle.model.specs.Rows.{place_rows}
use Rattle.model.proofs.Bools.{and_l, and_r, both, not-not, decide, cond_yes, cond_no}
use Rattle.model.proofs.Members.{any-in, in-any}
use Rattle.model.proofs.Lists.{all_take}
use Rattle.model.proofs.Dominance.{dominates-refl}
use Rattle.model.proofs.Order.{put_in, in-put, put-new}
use Rattle.model.proofs.Paths.{prefix_refl, prefix_trans, prefix_parent}
use Rattle.model.proofs.Prefixes.{prefix-length, prefix-take, length-parent, length-prefixes, prefix-at, parent-take, take_parent}
use Rattle.model.proofs.Partitions.{ValidSet}
use Rattle.model.proofs.Sets.{contains-in, in-contains, contains-more, fresh}
use Rattle.model.proofs.Rows.{Passes}
use Rattle.model.proofs.Restriction.{live_own}
use Rattle.model.proofs.Keeps.{ValidSets, in-visible, in-view-own}
use Rattle.model.proofs.Taking.{Comes, Coming, coming-valid}

-- ---- the greatest number that passes

module _ (t : ℕ → Bool) where
  -- it is at most the limit
  greatest-few : (n : ℕ) → greatest t n ≤ n
  greatest-few zero = omega arith
  greatest-few (suc n) =
      let r : greatest t n ≤ n = greatest-few n in
      decide (t (suc n))
      (λ (h : T (t (suc n))). rw (cond_yes (t (suc n)) (suc n) (greatest t n) h) (omega arith))
      (λ (h : T (not (t (suc n)))). rw (cond_no (t (suc n)) (suc n) (greatest t n) h) (omega arith))

  -- it passes, if 0 does
  greatest-passes : (n : ℕ) → T (t 0) → T (t (greatest t n))
  greatest-passes zero z = z
  greatest-passes (suc n) z =
      decide (t (suc n))
      (λ (h : T (t (suc n))). rw (cond_yes (t (suc n)) (suc n) (greatest t n) h) h)
      (λ (h : T (not (t (suc n)))). rw (cond_no (t (suc n)) (suc n) (greatest t n) h) (greatest-passes n z))

  -- no number that passes is greater
  greatest-above : (n k : ℕ) → k ≤ n → T (t k) → k ≤ greatest t n
  greatest-above zero k h p = omega arith
  greatest-above (suc n) k h p =
      decide (t (suc n))
      (λ (y : T (t (suc n))). rw (cond_yes (t (suc n)) (suc n) (greatest t n) y) h)
      (λ (y : T (not (t (suc n)))). rw (cond_no (t (suc n)) (suc n) (greatest t n) y) (greatest-above n k (lower y) p))
    where
      lower : T (not (t (suc n))) → k ≤ n
      lower y = elim (dec_le k n) [
        | yes j ↦ j
        | no j ↦ let e : k ≡ suc n = omega arith in absurd (T_not (t (suc n)) (subst (λ (i : ℕ). T (t i)) e p) y)
      ]

-- ---- how many steps of a path are in view

-- what elements reach, their prefixes too
pub reaches-prefix : (v : List Element) (q p : List Step) → T (is_prefix q p) → T (reaches v p) → T (reaches v q)
reaches-prefix v [] p b t = tt
reaches-prefix v (a ∷ q) [] b t = absurd b
reaches-prefix v (a ∷ q) (d ∷ p) b t =
    let r : (e : Element) × (e ∈ v) × T (is_prefix (d ∷ p) e.path) = any-in (λ e. is_prefix (d ∷ p) e.path) v t in
    in-any (λ e. is_prefix (a ∷ q) e.path) v r.1 (prefix_trans (a ∷ q) (d ∷ p) r.0.path b r.2)

-- an element reaches the prefixes of its path
pub reaches_of : (v : List Element) (e : Element) → e ∈ v → (q : List Step) → T (is_prefix q e.path) → T (reaches v q)
reaches_of v e m [] b = tt
reaches_of v e m (a ∷ q) b = in-any (λ d. is_prefix (a ∷ q) d.path) v m b

-- more elements reach more
pub reaches_more : (es v : List Element) → ((e : Element) → e ∈ es → e ∈ v) → (q : List Step) → T (reaches es q) → T (reaches v q)
reaches_more es v more [] t = tt
reaches_more es v more (a ∷ q) t =
    let r : (e : Element) × (e ∈ es) × T (is_prefix (a ∷ q) e.path) = any-in (λ e. is_prefix (a ∷ q) e.path) es t in
    reaches_of v r.0 (more r.0 r.1) (a ∷ q) r.2

-- of two numbers of first steps the lower gives a prefix
pub take-prefix : (j k : ℕ) (p : List Step) → j ≤ k → T (is_prefix (take j p) (take k p))
take-prefix j k p h = subst (λ (q : List Step). T (is_prefix q (take k p))) (take-take j k p h) (prefix-take j (take k p))

-- the first n steps of a path given as bytes
steps-take : (n : ℕ) (b : List ℕ) → steps_of (take (3 * n) b) ≡ take n (steps_of b)
steps-take zero b = refl
steps-take (suc n) b = let e : 3 * suc n ≡ suc (suc (suc (3 * n))) = omega arith in rw e (go b (λ d. steps-take n d))
  where
    go : (d : List ℕ) → ((f : List ℕ) → steps_of (take (3 * n) f) ≡ take n (steps_of f))
        → steps_of (take (suc (suc (suc (3 * n)))) d) ≡ take (suc n) (steps_of d)
    go [] r = refl
    go (x ∷ []) r = refl
    go (x ∷ y ∷ []) r = refl
    go (x ∷ y ∷ z ∷ d) r = ap (λ (q : List Step). record { name = x + 256 * y; label = z } ∷ q) (r d)

-- as they are lent
pub steps_first : (k : ℕ) (b : List ℕ) {j : ℕ} → j ≡ 3 * k → steps_of (take j (drop 0 b)) ≡ take k (steps_of b)
steps_first k b e = ap (λ (i : ℕ). steps_of (take i b)) e ∙ steps-take k b

module _ (v : List Element) (p : List Step) where
  -- at most all
  pub seen_few : seen_steps v p ≤ length p
  unfolding seen_steps
  seen_few = greatest-few (λ n. reaches v (take n p)) (length p)

  -- so many are in view
  pub seen-reached : T (reaches v (take (seen_steps v p) p))
  unfolding seen_steps
  seen-reached = greatest-passes (λ n. reaches v (take n p)) (length p) tt

  -- and no more
  pub seen-above : (k : ℕ) → k ≤ length p → T (reaches v (take k p)) → k ≤ seen_steps v p
  unfolding seen_steps
  seen-above k h t = greatest-above (λ n. reaches v (take n p)) (length p) k h t

  -- fewer too
  pub seen_below : (k : ℕ) → k ≤ seen_steps v p → T (reaches v (take k p))
  seen_below k h = reaches-prefix v (take k p) (take (seen_steps v p) p) (take-prefix k (seen_steps v p) p h) seen-reached

  -- a number of steps that are in view, where no more are
  pub seen-is : (n : ℕ) → n ≤ length p → T (reaches v (take n p)) → ((k : ℕ) → n < k → k ≤ length p → T (reaches v (take k p)) → ⊥) → n ≡ seen_steps v p
  seen-is n h t none =
      let low : n ≤ seen_steps v p = seen-above n h t in
      elim (dec_lt n (seen_steps v p)) [
        | yes k ↦ absurd (none (seen_steps v p) k seen_few seen-reached)
        | no k ↦ omega arith
      ]

  -- a path in view is so with all its steps
  pub seen_all : T (reaches v p) → seen_steps v p ≡ length p
  seen_all t =
      let low : length p ≤ seen_steps v p = seen-above (length p) (omega arith) (rw (take-length p) t) in
      let high : seen_steps v p ≤ length p = seen_few in
      omega arith

-- ---- what is missing

module _ (n : ℕ) (p : List Step) where
  -- nothing where the parent is in view
  pub missing-none : length p ≤ suc n → missing_paths n p ≡ []
  unfolding missing_paths
  missing-none h =
      let l : length (prefixes (parent p)) ≡ length p - 1 = length-prefixes (parent p) ∙ length-parent p in
      drop_of_length-le (prefixes (parent p)) {i = n} (omega arith)

  -- else the path of n + 1 steps is the first
  pub missing-next : suc n < length p → missing_paths n p ≡ take (suc n) p ∷ missing_paths (suc n) p
  unfolding missing_paths
  missing-next h =
      let l : length (parent p) ≡ length p - 1 = length-parent p in
      prefix-at n (parent p) (omega arith)
      ∙ ap (λ (q : List Step). q ∷ drop (suc n) (prefixes (parent p))) (ap (take (suc n)) (parent-take p) ∙ take-take (suc n) (length p - 1) p (omega arith))

  -- how many paths
  pub missing-count : length (missing_paths n p) ≡ length p - 1 - n
  unfolding missing_paths
  missing-count = length-drop n (prefixes (parent p)) ∙ ap (λ (k : ℕ). k - n) (length-prefixes (parent p) ∙ length-parent p)

  module _ (c : Content) where
    -- what comes: the element, where nothing is missing
    pub groups-last : length p ≤ suc n → with_groups n p c ≡ record { path = p; content = c } ∷ []
    unfolding with_groups
    groups-last h = rw (missing-none h)

    -- else a group first
    pub groups-next : suc n < length p → with_groups n p c ≡ record { path = take (suc n) p; content = record { kind = 0; value = [] } } ∷ with_groups (suc n) p c
    unfolding with_groups
    groups-next h = rw (missing-next h)

    -- how many elements
    pub groups-count : n < length p → length (with_groups n p c) ≡ length p - n
    unfolding with_groups
    groups-count h =
        let m : length (missing_paths n p) ≡ length p - 1 - n = missing-count in
        let groups : List Element = map (λ q. record { path = q; content = record { kind = 0; value = [] } }) (missing_paths n p) in
        let k : length groups ≡ length (missing_paths n p) = length-map (missing_paths n p) (λ q. record { path = q; content = record { kind = 0; value = [] } }) in
        length-append groups (record { path = p; content = c } ∷ []) ∙ omega arith

-- ---- a set that lacks a path from a step on

-- the prefixes of a valid path are valid
ascend-take : (k : ℕ) (p : List Step) → T (labels_ascend p) → T (labels_ascend (take k p))
ascend-take zero p t = tt
ascend-take (suc k) [] t = tt
ascend-take (suc zero) (a ∷ p) t = tt
ascend-take (suc (suc k)) (a ∷ []) t = tt
ascend-take (suc (suc k)) (a ∷ b ∷ p) t =
    both (dominates b.label a.label) (labels_ascend (take (suc k) (b ∷ p))) (and_l (dominates b.label a.label) (labels_ascend (b ∷ p)) t)
    (ascend-take (suc k) (b ∷ p) (and_r (dominates b.label a.label) (labels_ascend (b ∷ p)) t))

valid-take : (k : ℕ) (p : List Step) → T (valid_path p) → 1 ≤ k → k ≤ length p → T (valid_path (take k p))
unfolding valid_path
valid-take k p v low high =
    let l : length (take k p) ≡ k = length-take-le k p high in
    let six : length p ≤ 6 = leb_yes (search (and_l, and_r)) in
    let most : length (take k p) ≤ 6 = omega arith in
    let least : 1 ≤ length (take k p) = omega arith in
    let few : T (leb (length (take k p)) 6) = yes_leb most in
    let some : T (leb 1 (length (take k p))) = yes_leb least in
    let steps : T (all valid_step (take k p)) = all_take valid_step k p (search (and_l, and_r)) in
    let up : T (labels_ascend (take k p)) = ascend-take k p (search (and_l, and_r)) in
    search both

-- where each step behind the first n bears a label, the longer prefixes end in it
pub own-ends : (s n : ℕ) (p : List Step) (k : ℕ) → T (own_behind s n p) → n < k → k ≤ length p → T (ends_in s (take k p))
unfolding own_behind
own-ends s n [] k t h g = absurd (omega arith)
own-ends s n (a ∷ p) zero t h g = absurd (omega arith)
own-ends s zero (a ∷ p) (suc zero) t h g = and_l (eqb a.label s) (all (λ d. eqb d.label s) p) t
own-ends s (suc n) (a ∷ p) (suc zero) t h g = absurd (omega arith)
own-ends s n (a ∷ []) (suc (suc k)) t h g = absurd (omega arith)
own-ends s zero (a ∷ b ∷ p) (suc (suc k)) t h g =
    own-ends s zero (b ∷ p) (suc k) (and_r (eqb a.label s) (all (λ d. eqb d.label s) (b ∷ p)) t) (omega arith) (omega arith)
own-ends s (suc n) (a ∷ b ∷ p) (suc (suc k)) t h g = own-ends s n (b ∷ p) (suc k) t (omega arith) (omega arith)

-- a group has no value
pub group-storable : T (storable (record { kind = 0; value = [] }))
unfolding storable allowed
group-storable = tt

-- a set of label s has nothing at or below the first n + 1 steps of a path, has the prefixes of the label in the first n, and each step behind them
-- bears the label
pub record Lacking (s : ℕ) (es : List Element) (p : List Step) (n : ℕ) : Type 0 where
  pub path : T (valid_path p)
  pub short : n < length p
  pub own : T (own_behind s n p)
  pub bare : (e : Element) → e ∈ es → T (is_prefix (take (suc n) p) e.path) → ⊥
  pub above : (q : List Step) → T (is_prefix q (take n p)) → T (ends_in s q) → T (contains es q)

-- a step less is behind the first n + 1 than behind the first n
own-next : (s n : ℕ) (p : List Step) → T (own_behind s n p) → T (own_behind s (suc n) p)
unfolding own_behind
own-next s n [] t = tt
own-next s zero (a ∷ p) t = and_r (eqb a.label s) (all (λ d. eqb d.label s) p) t
own-next s (suc n) (a ∷ p) t = own-next s n p t

module _ {s : ℕ} {es : List Element} {p : List Step} {n : ℕ} (l : Lacking s es p n) where
  -- an element with the first n + 1 steps for its path
  abbrev next : Content → Element
  next c = record { path = take (suc n) p; content = c }

  -- a prefix of the first n + 1 steps is these, or a prefix of the first n
  near : (q : List Step) → T (is_prefix q (take (suc n) p)) → (q ≡ take (suc n) p) ⊎ T (is_prefix q (take n p))
  near q t = rw (take_parent n p l.short) at (prefix_parent q (take (suc n) p) t)

  -- an element may come there
  pub lacking-comes : (c : Content) → T (storable c) → Comes s es (next c)
  unfolding valid_element
  lacking-comes c ok =
      let path : T (valid_path (take (suc n) p)) = valid-take (suc n) p l.path (omega arith) (omega (arith, l.short)) in
      let ends : T (ends_in s (take (suc n) p)) = own-ends s n p (suc n) l.own (omega arith) (omega (arith, l.short)) in
      record {
        valid = search both;
        lacks =
            not_T (contains es (take (suc n) p))
            (λ t. let k = contains-in es (take (suc n) p) t in l.bare k.0 k.1 (rw (← k.2) (prefix_refl (take (suc n) p))));
        closes = λ q t e. go q e (near q t);
      }
    where
      go : (q : List Step) → T (ends_in s q) → (q ≡ take (suc n) p) ⊎ T (is_prefix q (take n p)) → (q ≡ take (suc n) p) ⊎ T (contains es q)
      go q e (inl h) = inl h
      go q e (inr h) = inr (l.above q h e)

  -- with it, the set lacks the path from the next step on
  pub lacking-next : suc n < length p → (c : Content) → T (storable c) → Lacking s (put rank (next c) es) p (suc n)
  lacking-next more c ok =
      record {
        path = l.path;
        short = more;
        own = own-next s n p l.own;
        bare = λ e m t. none e t (put_in rank (next c) es m);
        above = λ q t e. go q e (near q t);
      }
    where
      none : (e : Element) → T (is_prefix (take (suc (suc n)) p) e.path) → (e ≡ next c) ⊎ (e ∈ es) → ⊥
      none e t (inl h) =
          let x : length (take (suc n) p) ≡ suc n = length-take-le (suc n) p (omega arith) in
          let y : length (take (suc (suc n)) p) ≡ suc (suc n) = length-take-le (suc (suc n)) p (omega arith) in
          let z : length (take (suc (suc n)) p) ≤ length (take (suc n) p) = prefix-length (take (suc (suc n)) p) (take (suc n) p) (rw h at t) in
          omega arith
      none e t (inr h) = l.bare e h (prefix_trans (take (suc n) p) (take (suc (suc n)) p) e.path (take-prefix (suc n) (suc (suc n)) p (omega arith)) t)

      go : (q : List Step) → T (ends_in s q) → (q ≡ take (suc n) p) ⊎ T (is_prefix q (take n p)) → T (contains (put rank (next c) es) q)
      go q e (inl h) = rw h (in-contains (put rank (next c) es) (next c) (put-new rank (next c) es (fresh (next c) es (lacking-comes c ok).lacks)))
      go q e (inr h) = contains-more es (put rank (next c) es) (λ d m. in-put rank (next c) es m) q (l.above q h e)

-- the missing groups and the element may come one after another
pub lacking-coming : (s : ℕ) (es : List Element) (p : List Step) (n : ℕ) (c : Content) → Lacking s es p n → T (storable c) → Coming s es (with_groups n p c)
lacking-coming s es p n c l ok = go (length p - n) es n l (omega arith)
  where
    go : (k : ℕ) (ds : List Element) (j : ℕ) → Lacking s ds p j → length p ≤ j + k → Coming s ds (with_groups j p c)
    go zero ds j d h = absurd (omega (arith, d.short))
    go (suc k) ds j d h = elim (dec_lt (suc j) (length p)) [
      | yes more ↦
          rw (groups-next j p c more)
          (lacking-comes d (record { kind = 0; value = [] }) group-storable, go k _ (suc j) (lacking-next d more (record { kind = 0; value = [] }) group-storable) (omega arith))
      | no last ↦
          let whole : take (suc j) p ≡ p = take_all (suc j) p (omega arith) in
          rw (groups-last j p c (omega arith)) (subst (λ (q : List Step). Comes s ds (record { path = q; content = c })) whole (lacking-comes d c ok), tt)
    ]

-- ---- rows 6 to 9

-- what they show of an element that comes
pub record Placed (s : ℕ) (m : Model) (p : List Step) : Type 0 where
  pub own : T (ends_in s p)
  pub behind : T (own_behind s (seen_steps (visible s m) p) p)
  pub lacks : T (not (contains (own_set s m) p))
  pub free : length (own_set s m) + length (missing_paths (seen_steps (visible s m) p) p) + 1 ≤ 32

pub rows-placed : (s : ℕ) (m : Model) (p : List Step) → Passes (place_rows s m p) → Placed s m p
rows-placed s m p h =
    let own : T (ends_in s p) = not-not (ends_in s p) h.0 in
    record {
      own = own;
      behind = not-not (own_behind s (seen_steps (visible s m) p) p) h.1.0;
      lacks = rw (live_own s m p own) at h.1.1.0;
      free = ltb_no h.1.1.1.0;
    }

-- the label in which a valid path ends is one
pub ends_label : (s : ℕ) (p : List Step) → T (valid_path p) → T (ends_in s p) → T (is_label s)
unfolding valid_path valid_step
ends_label s p v t = go p (search (and_l, and_r)) t
  where
    go : (q : List Step) → T (all valid_step q) → T (ends_in s q) → T (is_label s)
    go [] w e = absurd e
    go (a ∷ []) w e = let l : a.label ≡ s = eqb_yes e in subst (λ (n : ℕ). T (is_label n)) l (search (and_l, and_r))
    go (a ∷ b ∷ q) w e = go (b ∷ q) (and_r (valid_step a) (all valid_step (b ∷ q)) w) e

-- where his set lacks a path of his label, not all of its steps are in view
pub seen-short : (s : ℕ) (m : Model) → ValidSets m → (p : List Step) → T (ends_in s p) → T (not (contains (own_set s m) p)) → seen_steps (visible s m) p < length p
unfolding in_view
seen-short s m sets p ends lacks = elim (dec_lt (seen_steps (visible s m) p) (length p)) [
  | yes k ↦ k
  | no k ↦
      let whole : take (seen_steps (visible s m) p) p ≡ p = take_all (seen_steps (visible s m) p) p (omega arith) in
      let reached : T (reaches (visible s m) p) = subst (λ (q : List Step). T (reaches (visible s m) q)) whole (seen-reached (visible s m) p) in
      absurd (T_not (contains (own_set s m) p) (in-view-own s m p p sets reached (prefix_refl p) ends) lacks)
]

-- so it lacks the path behind what is in view
pub placed-lacking : (s : ℕ) (m : Model) → ValidSets m → (p : List Step) → T (valid_path p) → Placed s m p → Lacking s (own_set s m) p (seen_steps (visible s m) p)
unfolding in_view
placed-lacking s m sets p v q =
    let n : ℕ = seen_steps (visible s m) p in
    let short : n < length p = seen-short s m sets p q.own q.lacks in
    let mine : T (dominates s s) = dominates-refl s (ends_label s p v q.own) in
    record {
      path = v;
      short = short;
      own = q.behind;
      bare = λ e k t.
          let w : suc n ≤ n = seen-above (visible s m) p (suc n) (omega arith) (reaches_of (visible s m) e (in-visible s s m mine k) (take (suc n) p) t) in
          omega arith;
      above = λ r t e. in-view-own s m (take n p) r sets (seen-reached (visible s m) p) t e;
    }

-- and it stays valid with the groups and the element
pub insert-valid : (s : ℕ) (m : Model) → ValidSets m → (p : List Step) (c : Content) → T (valid_path p) → T (storable c) → Placed s m p
    → ValidSet key s (with_all (with_groups (seen_steps (visible s m) p) p c) (own_set s m))
insert-valid s m sets p c v ok q =
    let n : ℕ = seen_steps (visible s m) p in
    let l : Lacking s (own_set s m) p n = placed-lacking s m sets p v q in
    let k : length (with_groups n p c) ≡ length p - n = groups-count n p c l.short in
    let j : length (missing_paths n p) ≡ length p - 1 - n = missing-count n p in
    coming-valid s (with_groups n p c) (own_set s m) (sets s) (omega (arith, q.free, l.short)) (lacking-coming s (own_set s m) p n c l ok)
