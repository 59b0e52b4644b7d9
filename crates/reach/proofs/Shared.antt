-- The first steps of a path that elements share: of an ascending set an element beside the path's place shares the most, and these are in view.
use mathlib.Core.Path.{◌≡◌, refl, sym, ap, ◌∙◌, subst}
use mathlib.Core.Logic.{◌⊎◌, inl, inr}
use mathlib.Core.Bool.{Bool, true, false, not}
use mathlib.Core.List.Memᴰ
use mathlib.Core.List.{List, [], ◌∷◌}
use Prim.Native.Nat.{ℕ, zero, suc, ◌+◌, ◌-◌, ◌≤◌, ◌<◌, max}
use native.Mathlib.Omega.{arith}
use native.Mathlib.Decide.{dec_le}
use lib.ListN.{length, take}
use lib.Seq.{length-take-le}
use lib.Dec.{T}
use mir.Facts.{not_T}
use Rattle.model.specs.Lists.{range, ◌∈◌}
use Rattle.model.specs.Sets.{sorted, ahead}
use Rattle.model.specs.Path.{Step, is_prefix, path_rank}
use Rattle.model.specs.Element.{Element, rank}
use Rattle.model.specs.Slot.{read_path, read_slot}
use Rattle.model.specs.Partition.{count, slot_at, read_partition}
use Rattle.model.specs.View.{reaches}
use Rattle.model.specs.Groups.{seen_steps}
use Rattle.model.proofs.Bools.{and_l, and_r, decide, is_true, is_false}
use Rattle.model.proofs.Members.{all_in, any-in}
use Rattle.model.proofs.Order.{precedes-irrefl, precedes-asym}
use Rattle.model.proofs.Prefixes.{prefix-take}
use Rattle.model.proofs.Groups.{reaches_of, reaches_more, seen-is}
use Rattle.path.specs.Common.{common, is_before, Compared}
use Rattle.path.proofs.Common.{common-second, common-take}
use Rattle.partition.specs.Place.{InOrder, place_of}
use Rattle.partition.proofs.Finding.{element_at, elements-range, length-read}
use Rattle.reach.specs.Shared.{shared_at, shared_before}
use Rattle.reach.proofs.Between.{common-most, between_first, between-second}

-- ---- the elements beside a place

-- the element before slot i is the one of the number before
pub shared-less : (i : ℕ) (p : List Step) (es : List Element) → (i ≡ 0 → ⊥) → {r : ℕ} → r ≡ shared_at (i - 1) p es → r ≡ shared_before i p es
shared-less zero p es h e = absurd (h refl)
shared-less (suc i) p es h e = let n : suc i - 1 ≡ i = omega arith in e ∙ ap (λ (j : ℕ). shared_at j p es) n

module _ (p : List Step) where
  -- an element shares at most all steps
  shared-few : (i : ℕ) (es : List Element) → shared_at i p es ≤ length p
  shared-few i [] = omega arith
  shared-few zero (e ∷ es) = common-second e.path p
  shared-few (suc i) (e ∷ es) = shared-few i es

  -- so does the one before it
  ahead-few : (i : ℕ) (es : List Element) → shared_before i p es ≤ length p
  ahead-few zero es = omega arith
  ahead-few (suc i) es = shared-few i es

  -- what it shares is reached
  shared-reached : (i : ℕ) (es : List Element) → T (reaches es (take (shared_at i p es) p))
  shared-reached i [] = tt
  shared-reached zero (e ∷ es) = reaches_of (e ∷ es) e (Memᴰ.head refl) (take (common e.path p) p) (common-take e.path p)
  shared-reached (suc i) (e ∷ es) = reaches_more es (e ∷ es) (λ d m. Memᴰ.tail m) (take (shared_at i p es) p) (shared-reached i es)

  -- so it is with the one before it
  ahead-reached : (i : ℕ) (es : List Element) → T (reaches es (take (shared_before i p es) p))
  ahead-reached zero es = tt
  ahead-reached (suc i) es = shared-reached i es

  -- the most that an element beside the path's place shares
  abbrev beside : List Element → ℕ
  beside es = max (shared_before (place_of p es) p es) (shared_at (place_of p es) p es)

  -- at most all
  beside-few : (es : List Element) → beside es ≤ length p
  beside-few es = omega (arith, ahead-few (place_of p es) es, shared-few (place_of p es) es)

  -- so many are reached
  beside-reached : (es : List Element) → T (reaches es (take (beside es) p))
  beside-reached es = elim (dec_le (shared_before (place_of p es) p es) (shared_at (place_of p es) p es)) [
    | yes h ↦
        let e : shared_at (place_of p es) p es ≡ beside es = omega arith in
        subst (λ (n : ℕ). T (reaches es (take n p))) e (shared-reached (place_of p es) es)
    | no h ↦
        let e : shared_before (place_of p es) p es ≡ beside es = omega arith in
        subst (λ (n : ℕ). T (reaches es (take n p))) e (ahead-reached (place_of p es) es)
  ]

-- ---- none shares more

-- each element shares at most so many
abbrev Nearest : List Step → List Element → Type 0
Nearest p es = (e : Element) → e ∈ es → common e.path p ≤ beside p es

-- where the first of an ascending set does not come before the path, it shares the most
nearest-first : (p : List Step) (f : Element) (es : List Element) → T (sorted rank (f ∷ es)) → T (not (is_before f.path p)) → Nearest p (f ∷ es)
nearest-first p f es s b e m =
    let n : is_before f.path p ≡ false = is_false (is_before f.path p) b in
    let l : common e.path p ≤ common f.path p = between_first p f.path e.path b (go (Memᴰ.cases_cons m)) in
    rw n (omega arith)
  where
    go : (e ≡ f) ⊎ (e ∈ es) → T (not (is_before e.path f.path))
    go (inl h) = rw h (not_T (is_before f.path f.path) (precedes-irrefl (path_rank f.path)))
    go (inr h) =
        precedes-asym (path_rank f.path) (path_rank e.path)
        (all_in (λ (d : Element). is_before f.path d.path) es (and_l (ahead rank f es) (sorted rank es) s) h)

-- a first element that comes before the path
module _ (p : List Step) (f : Element) (b : T (is_before f.path p)) where
  -- it does come before
  first-before : is_before f.path p ≡ true
  first-before = is_true (is_before f.path p) b

  -- those behind it do not share more than those beside the place
  beside-grows : (es : List Element) → beside p es ≤ beside p (f ∷ es)
  beside-grows [] = omega arith
  beside-grows (g ∷ es) =
      decide (is_before g.path p)
      (λ (t : T (is_before g.path p)). rw (first-before, is_true (is_before g.path p) t) (omega arith))
      (λ (t : T (not (is_before g.path p))). rw (first-before, is_false (is_before g.path p) t) (omega arith))

  -- nor does it: it is beside the place, or the next one stands between it and the path
  first-nearest : (es : List Element) → T (sorted rank (f ∷ es)) → Nearest p es → common f.path p ≤ beside p (f ∷ es)
  first-nearest [] s r = rw first-before (omega arith)
  first-nearest (g ∷ es) s r =
      decide (is_before g.path p)
      (λ (t : T (is_before g.path p)).
      let u : T (is_before f.path g.path) =
      and_l (is_before f.path g.path) (ahead rank f es) (and_l (ahead rank f (g ∷ es)) (sorted rank (g ∷ es)) s) in
      let l : common f.path p ≤ common g.path p =
      between-second f.path g.path p (precedes-asym (path_rank f.path) (path_rank g.path) u) (precedes-asym (path_rank g.path) (path_rank p) t) in
      omega (arith, l, r g (Memᴰ.head refl), beside-grows (g ∷ es)))
      (λ (t : T (not (is_before g.path p))). rw (first-before, is_false (is_before g.path p) t) (omega arith))

  -- so none does, if none behind it does
  nearest-more : (es : List Element) → T (sorted rank (f ∷ es)) → Nearest p es → Nearest p (f ∷ es)
  nearest-more es s r e m = go (Memᴰ.cases_cons m)
    where
      go : (e ≡ f) ⊎ (e ∈ es) → common e.path p ≤ beside p (f ∷ es)
      go (inl h) = rw h (first-nearest es s r)
      go (inr h) = omega (arith, r e h, beside-grows es)

-- so it is in every ascending set
nearest : (p : List Step) (es : List Element) → T (sorted rank es) → Nearest p es
nearest p [] s e m = absurd (Memᴰ.not-nil m)
nearest p (f ∷ es) s e m =
    decide (is_before f.path p)
    (λ (b : T (is_before f.path p)). nearest-more p f b es s (λ d k. nearest p es (and_r (ahead rank f es) (sorted rank es) s) d k) e m)
    (λ (b : T (not (is_before f.path p))). nearest-first p f es s b e m)

-- an element reaches a path that is not the root
reached-by : (es : List Element) (q : List Step) → 1 ≤ length q → T (reaches es q) → (e : Element) × (e ∈ es) × T (is_prefix q e.path)
reached-by es [] h t = absurd (omega arith)
reached-by es (a ∷ q) h t = any-in (λ e. is_prefix (a ∷ q) e.path) es t

-- so the elements of an ascending set reach as many steps as one beside the place shares
pub beside-seen : (p : List Step) (es : List Element) → T (sorted rank es)
    → max (shared_before (place_of p es) p es) (shared_at (place_of p es) p es) ≡ seen_steps es p
beside-seen p es s =
    seen-is es p (beside p es) (beside-few p es) (beside-reached p es)
    (λ k h g t.
    let l : length (take k p) ≡ k = length-take-le k p g in
    let r : (e : Element) × (e ∈ es) × T (is_prefix (take k p) e.path) = reached-by es (take k p) (omega arith) t in
    let c : length (take k p) ≤ common r.0.path p = common-most (take k p) r.0.path p r.2 (prefix-take k p) in
    let n : common r.0.path p ≤ beside p es = nearest p es s r.0 r.1 in
    omega arith)

-- ---- the slots of a partition

-- behind the last there is none
shared-none : (i : ℕ) (p : List Step) (es : List Element) → length es ≤ i → shared_at i p es ≡ 0
shared-none i p [] h = refl
shared-none zero p (e ∷ es) h = absurd (omega arith)
shared-none (suc i) p (e ∷ es) h = shared-none i p es (omega arith)

-- element k of a range
shared-range : (g : ℕ → Element) (p : List Step) (i k c : ℕ) → k < c → shared_at k p (range g i c) ≡ common (g (i + k)).path p
shared-range g p i k zero h = absurd (omega arith)
shared-range g p i zero (suc c) h = let e : i ≡ i + 0 = omega arith in ap (λ (j : ℕ). common (g j).path p) e
shared-range g p i (suc k) (suc c) h =
    let e : suc i + k ≡ i + suc k = omega arith in shared-range g p (suc i) k c (omega arith) ∙ ap (λ (j : ℕ). common (g j).path p) e

module _ (b : List ℕ) (p : List Step) {i c : ℕ} (e : (c ≡ count b) × (c ≤ 32)) where
  -- no slot
  pub slot-none : c ≤ i → 0 ≡ shared_at i p (read_partition b)
  slot-none h = sym (shared-none i p (read_partition b) (omega (arith, length-read b)))

  -- a slot, read as x and compared with the path
  pub slot-shared : i < c → {x : List ℕ} → x ≡ slot_at b i → {s : ℕ} {t : Bool} → Compared (read_path x) p s t
      → s ≡ shared_at i p (read_partition b)
  unfolding read_slot
  slot-shared h d m =
      let z : 0 + i ≡ i = omega arith in
      let k : i < count b = omega arith in
      m.shared-is
      ∙ ap (λ (l : List ℕ). common (read_path l) p) d
      ∙ sym (ap (shared_at i p) (elements-range b) ∙ shared-range (element_at b) p 0 i (count b) k ∙ ap (λ (j : ℕ). common (element_at b j).path p) z)

-- the greater of what the slots beside the place share
pub held-seen : {b : List ℕ} → InOrder b → (p : List Step) {i x y r : ℕ} → i ≡ place_of p (read_partition b)
    → x ≡ shared_before i p (read_partition b) → y ≡ shared_at i p (read_partition b) → r ≡ max x y → r ≡ seen_steps (read_partition b) p
held-seen {b} f p {i} {x} {y} {r} e u v w =
    let x-is : x ≡ shared_before (place_of p (read_partition b)) p (read_partition b) = u ∙ ap (λ (j : ℕ). shared_before j p (read_partition b)) e in
    let y-is : y ≡ shared_at (place_of p (read_partition b)) p (read_partition b) = v ∙ ap (λ (j : ℕ). shared_at j p (read_partition b)) e in
    w ∙ rw (x-is, y-is) (beside-seen p (read_partition b) f.order)
