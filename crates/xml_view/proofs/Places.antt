-- What is left from a place on, and the place behind.
use mathlib.Core.Path.{◌≡◌, refl, sym, ap, ap₂, ◌∙◌}
use mathlib.Core.Bool.{Bool, true, false, not}
use mathlib.Core.Option.{some}
use mathlib.Core.List.{List, [], ◌∷◌, ◌++◌, map}
use Prim.Native.Nat.{ℕ, zero, suc, ◌+◌, ◌/◌, ◌≤◌, ◌<◌}
use native.Mathlib.Omega.{arith}
use native.Mathlib.Numerals.{add-one}
use lib.ListN.{length, get_or, take, drop, drop_of_length-le}
use lib.Seq.{drop-cons, length-take-le}
use lib.Dec.{T, leb, ltb}
use mir.Facts.{not_T, leb_yes, yes_leb, ltb_yes, ltb_no, yes_ltb}
use Rattle.model.specs.Lists.{all, gather}
use Rattle.model.specs.Sets.{precedes, is_before, ahead, sorted}
use Rattle.model.specs.Path.{Step, prefixes, last_step, steps_of}
use Rattle.model.specs.Element.{Element, rank}
use Rattle.model.specs.Slot.{slot_size, depth, step_at, read_path, read_slot}
use Rattle.model.specs.View.{content_at}
use Rattle.model.specs.Tree.{Entry}
use Rattle.model.proofs.Prefixes.{length-prefixes, prefix-at}
use Rattle.model.proofs.Bools.{and_l, and_r, decide, is_false, same_test}
use Rattle.model.proofs.Lists.{all_get_d}
use Rattle.path.specs.Common.{common, Compared}
use Rattle.slot.proofs.Reading.{length-path}
use Rattle.order.specs.Refs.{slot_of, element_of, refers}
use Rattle.order.proofs.Naming.{ref-valid}
use Rattle.listing.specs.Walk.{walk_of}
use Rattle.listing.specs.Used.{Used}
use Rattle.listing.proofs.Drawing.{last_step_lem}
use Rattle.listing.proofs.Newer.{newer-drop, common-less}
use Rattle.store.specs.Opened.{Opened}
use Rattle.order.specs.declared.Seen.{Seen}
use Rattle.listing.proofs.Walks.{rest-start}
use Rattle.listing.proofs.Visible.{visible-distinct}
use Rattle.xml_view.specs.Places.{entry_at, shown, left_of, left, entry_of, opens, Place}

-- a place among references that name elements in path order
pub record At (s : ℕ) (b rs : List ℕ) (i d : ℕ) : Type 0 where
  pub opened : Opened b s
  pub valid : T (all (refers s b) rs)
  pub ascends : T (sorted rank (map (element_of b) rs))
  pub place : Place b rs i d

-- of what is seen the references do
pub seen-at : (v : Seen) {i d : ℕ} → Place v.reader.store.now v.refs.now i d → At v.reader.subject v.reader.store.now v.refs.now i d
seen-at v p =
    record {
      opened = v.reader.opened;
      valid = v.refers.valid;
      ascends = rw v.refers.named (rest-start (steps_of v.path.now) (visible-distinct v.reader.subject v.reader.store.now)).rises;
      place = p;
    }

-- ---- what is left of the elements

module _ (e : Element) (es : List Element) (d : ℕ) where
  -- the first d + 1 steps, and then the others
  left_one : d < length e.path → left_of (e ∷ es) d ≡ entry_at (e ∷ []) (take (suc d) e.path) ∷ left_of (e ∷ es) (suc d)
  left_one h = ap (λ (l : List (List Step)). gather (shown (e ∷ [])) l ++ walk_of shown e.path es) (prefix-at d e.path h)

  -- behind the whole path what is left are the other elements
  left-whole : length e.path ≤ d → left_of (e ∷ es) d ≡ walk_of shown e.path es
  left-whole h =
      ap (λ (l : List (List Step)). gather (shown (e ∷ [])) l ++ walk_of shown e.path es)
      (drop_of_length-le (prefixes e.path) (let l : length (prefixes e.path) ≤ d = omega (arith, length-prefixes e.path) in l))

-- the walk from a path on
pub walk-left : (r : List Step) (e : Element) (es : List Element) → walk_of shown r (e ∷ es) ≡ left_of (e ∷ es) (common r e.path)
walk-left r e es = ap (λ (l : List (List Step)). gather (shown (e ∷ [])) l ++ walk_of shown e.path es) (newer-drop r e.path)

module _ (b rs : List ℕ) where
  -- the element of reference i
  abbrev named : ℕ → Element
  named i = element_of b (get_or rs i 0)

  -- those from reference i on
  abbrev from : ℕ → List Element
  from i = map (element_of b) (drop i rs)

  from_more : (i : ℕ) → i < length rs → from i ≡ named i ∷ from (i + 1)
  from_more i h = ap (map (element_of b)) (drop-cons rs i 0 h) ∙ rw (add-one i)

  from_past : (i : ℕ) → length rs ≤ i → from i ≡ []
  from_past i h = ap (map (element_of b)) (drop_of_length-le rs h)

  pub left-past : (i d : ℕ) → length rs ≤ i → left b rs i d ≡ []
  unfolding left
  left-past i d h = ap (λ (l : List Element). left_of l d) (from_past i h)

  left_here : (i d : ℕ) → i < length rs → left b rs i d ≡ left_of (named i ∷ from (i + 1)) d
  unfolding left
  left_here i d h = ap (λ (l : List Element). left_of l d) (from_more i h)

  -- the entry there, and what is left behind it
  left-first : (i d : ℕ) → i < length rs → d < length (named i).path → left b rs i d ≡ entry_of b rs i d ∷ left_of (named i ∷ from (i + 1)) (suc d)
  left-first i d h k = left_here i d h ∙ left_one (named i) (from (i + 1)) d k

  behind-step : (i d : ℕ) → i < length rs → d < length (named i).path → left b rs i d ≡ entry_of b rs i d ∷ left b rs i (d + 1)
  behind-step i d h k = left-first i d h k ∙ ap (λ (l : List Entry). entry_of b rs i d ∷ l) (sym (left_here i (d + 1) h ∙ rw (add-one d)))

  -- behind the whole path
  behind-path : (i d : ℕ) → i < length rs → d < length (named i).path → length (named i).path ≤ d + 1
      → left b rs i d ≡ entry_of b rs i d ∷ walk_of shown (named i).path (from (i + 1))
  behind-path i d h k l =
      left-first i d h k ∙ ap (λ (z : List Entry). entry_of b rs i d ∷ z) (left-whole (named i) (from (i + 1)) (suc d) (omega arith))

  walk-past : (i j : ℕ) (r : List Step) → length rs ≤ i → walk_of shown r (from i) ≡ left b rs i j
  walk-past i j r h = ap (walk_of shown r) (from_past i h) ∙ sym (left-past i j h)

  walk-next : (i : ℕ) (r : List Step) → i < length rs → walk_of shown r (from i) ≡ left b rs i (common r (named i).path)
  walk-next i r h =
      ap (walk_of shown r) (from_more i h) ∙ walk-left r (named i) (from (i + 1)) ∙ sym (left_here i (common r (named i).path) h)

-- neighbours ascend
rises : (b rs : List ℕ) (i : ℕ) → suc i < length rs → T (sorted rank (map (element_of b) rs))
    → T (precedes (rank (element_of b (get_or rs i 0))) (rank (element_of b (get_or rs (suc i) 0))))
rises b [] i h t = absurd (omega arith)
rises b (x ∷ []) i h t = absurd (omega arith)
rises b (x ∷ y ∷ rs) zero h t =
    let f : Element = element_of b x in
    let g : Element = element_of b y in
    let es : List Element = map (element_of b) rs in
    and_l (is_before rank f g) (ahead rank f es) (and_l (ahead rank f (g ∷ es)) (sorted rank (g ∷ es)) t)
rises b (x ∷ y ∷ rs) (suc i) h t =
    let es : List Element = map (element_of b) (y ∷ rs) in
    rises b (y ∷ rs) i (omega arith) (and_r (ahead rank (element_of b x) es) (sorted rank es) t)

-- ---- reference i, by its slot

pub ref-at : {s : ℕ} {b rs : List ℕ} {i d : ℕ} → At s b rs i d → (j : ℕ) → j < length rs → T (refers s b (get_or rs j 0))
ref-at {s} {b} {rs} p j h = all_get_d (refers s b) rs j 0 h p.valid

pub moved : {s : ℕ} {b rs : List ℕ} {i d j k : ℕ} → At s b rs i d → Place b rs j k → At s b rs j k
moved p q = record { opened = p.opened; valid = p.valid; ascends = p.ascends; place = q }

module _ {s : ℕ} {b rs : List ℕ} {i d : ℕ} (p : At s b rs i d) (h : i < length rs) where
  pub here-first : (more : List Entry) × (left b rs i d ≡ entry_of b rs i d ∷ more)
  here-first = (left_of (named b rs i ∷ from b rs (i + 1)) (suc d), left-first b rs i d h (p.place.step h))

  -- the entry there has d + 1 steps
  pub here-steps : d + 1 ≡ length (entry_of b rs i d).path
  here-steps = sym (length-take-le (suc d) (element_of b (get_or rs i 0)).path (p.place.step h) ∙ sym (add-one d))

  module _ {x : List ℕ} (g : x ≡ slot_of b (get_or rs i 0)) where
    pub here-path : read_path x ≡ (element_of b (get_or rs i 0)).path
    unfolding element_of read_slot
    here-path = ap read_path g

    pub here-slot : read_slot x ≡ element_of b (get_or rs i 0)
    unfolding element_of
    here-slot = ap read_slot g

    pub here-depth : depth x ≡ length (element_of b (get_or rs i 0)).path
    here-depth = sym (length-path x) ∙ ap length here-path

    pub here-step : d < depth x
    here-step = omega (arith, here-depth, p.place.step h)

    pub here-used : length x ≡ slot_size → Used x
    here-used w = record { size = w; label = get_or rs i 0 / 32; valid = rw here-slot (ref-valid s b (get_or rs i 0) (ref-at p i h) p.opened) }

    -- the entry there, as the slot shows it
    pub here-content : content_at (read_slot x ∷ []) (take (suc d) (read_path x)) ≡ (entry_of b rs i d).content
    here-content = ap₂ (λ (e : Element) (q : List Step). content_at (e ∷ []) (take (suc d) q)) here-slot here-path

    pub here-last : last_step (entry_of b rs i d).path ≡ some (step_at x d)
    here-last = ap (λ (q : List Step). last_step (take (suc d) q)) (sym here-path) ∙ last_step_lem x d here-step

    -- ---- the place behind

    module _ {w : ℕ} (e : (w ≡ depth x) × (w < 256)) where
      pub next-step : d + 1 < w → (left b rs i d ≡ entry_of b rs i d ∷ left b rs i (d + 1)) × Place b rs i (d + 1)
      next-step k = (
        behind-step b rs i d h (p.place.step h),
        record { within = p.place.within; step = λ _. omega (arith, here-depth, e.0) },
      )

      module _ (k : w ≤ d + 1) where
        ended : left b rs i d ≡ entry_of b rs i d ∷ walk_of shown (element_of b (get_or rs i 0)).path (from b rs (i + 1))
        ended = behind-path b rs i d h (p.place.step h) (omega (arith, here-depth, e.0))

        pub no-next : length rs ≤ i + 1 → (left b rs i d ≡ entry_of b rs i d ∷ left b rs (i + 1) 0) × Place b rs (i + 1) 0
        no-next l = (
          ended ∙ ap (λ (z : List Entry). entry_of b rs i d ∷ z) (walk-past b rs (i + 1) 0 (element_of b (get_or rs i 0)).path l),
          record { within = omega arith; step = λ j. absurd (omega arith) },
        )

        pub next-path : i + 1 < length rs → {y : List ℕ} → y ≡ slot_of b (get_or rs (i + 1) 0)
            → {n : ℕ} {t : Bool} → Compared (read_path x) (read_path y) n t
            → (left b rs i d ≡ entry_of b rs i d ∷ left b rs (i + 1) n) × Place b rs (i + 1) n
        unfolding element_of read_slot
        next-path l {y} f {n} m =
            let q : List Step = (element_of b (get_or rs i 0)).path in
            let r : List Step = (element_of b (get_or rs (i + 1) 0)).path in
            let shared : n ≡ common q r = m.shared-is ∙ ap₂ (λ (u v : List ℕ). common (read_path u) (read_path v)) g f in
            let before : T (precedes (rank (element_of b (get_or rs i 0))) (rank (element_of b (get_or rs (i + 1) 0)))) =
            rw (add-one i) (rises b rs i (omega arith) p.ascends) in
            let new : common q r < length r = common-less q r before in (
              ended ∙ ap (λ (z : List Entry). entry_of b rs i d ∷ z) (walk-next b rs (i + 1) q l ∙ ap (left b rs (i + 1)) (sym shared)),
              record { within = omega arith; step = λ _. omega (arith, new, shared) },
            )

-- ---- the test

opens-past : {b rs : List ℕ} {i d : ℕ} (n : ℕ) → Place b rs i d → length rs ≤ i → false ≡ opens n (left b rs i d)
opens-past {b} {rs} {i} {d} n p h = rw (left-past b rs i d h) refl

-- no row there
pub opens-none : {b rs : List ℕ} {i d : ℕ} (n : ℕ) → Place b rs i d → length rs ≤ i → ltb i (length rs) ≡ opens n (left b rs i d)
opens-none {b} {rs} {i} n p h = is_false (ltb i (length rs)) (not_T (ltb i (length rs)) (λ t. let k = ltb_yes t in absurd (omega arith))) ∙ opens-past n p h

pub opens-here : {b rs : List ℕ} {i d : ℕ} (n : ℕ) → Place b rs i d → i < length rs → leb n d ≡ opens n (left b rs i d)
opens-here {b} {rs} {i} {d} n p h =
    let l : length (take (suc d) (element_of b (get_or rs i 0)).path) ≡ suc d = length-take-le (suc d) (element_of b (get_or rs i 0)).path (p.step h) in
    same_test (leb n d) (ltb n (suc d)) (λ t. let k : n ≤ d = leb_yes t in let j : n < suc d = omega arith in yes_ltb j)
    (λ t. let k : n < suc d = ltb_yes t in let j : n ≤ d = omega arith in yes_leb j)
    ∙ ap (ltb n) (sym l)
    ∙ sym (ap (opens n) (left-first b rs i d h (p.step h)))

-- an entry that opens is there
pub opens-within : {b rs : List ℕ} {i d : ℕ} (n : ℕ) {t : Bool} → Place b rs i d → t ≡ opens n (left b rs i d) → t ≡ true → i < length rs
opens-within {b} {rs} {i} {d} n p e y =
    decide (ltb i (length rs))
    (λ (h : T (ltb i (length rs))). ltb_yes h)
    (λ (h : T (not (ltb i (length rs)))).
    let f : false ≡ opens n (left b rs i d) = opens-past n p (ltb_no h) in
    let z : ◌≡◌ {A = ℕ} 0 1 = cc in
    absurd (omega arith))
