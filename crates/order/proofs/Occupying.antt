-- The occupied labels, found one after another; they stand for all.
use mathlib.Core.Path.{◌≡◌, refl, sym, ap, ap₂, ◌∙◌}
use mathlib.Core.Bool.{Bool, true, false, not, cond}
use mathlib.Core.List.{List, [], ◌∷◌, ◌++◌, append_assoc, append-nil}
use Prim.Native.Nat.{ℕ, zero, suc, ◌+◌, ◌-◌, ◌≤◌, ◌<◌}
use native.Mathlib.Omega.{arith}
use lib.ListN.{length, take, drop, set, length-append, length-set}
use lib.Seq.{take_at, set_split, length-take-le}
use lib.Dec.{T}
use mir.Facts.{or_no}
use Rattle.model.specs.Lists.{any, keep, range}
use Rattle.model.specs.Sets.{sort}
use Rattle.model.specs.Label.{is_label, labels, dominates}
use Rattle.model.specs.Path.{Step, is_prefix}
use Rattle.model.specs.Element.{Element, rank}
use Rattle.model.specs.Model.{open_model, own_set}
use Rattle.model.specs.View.{visible, seen_below}
use Rattle.model.proofs.Bools.{decide, cond_no, is_false}
use Rattle.model.proofs.Lists.{range_last, range_split}
use Rattle.model.proofs.Members.{keep_append, keep-gather}
use Rattle.model.proofs.Dominance.{label-lt, dominates-le}
use Rattle.store.specs.Opened.{below_at}
use Rattle.order.specs.Refs.{Refers, seen_at, rising, ordered_of}
use Rattle.order.proofs.Labels.{rising-keep, gather-keep}

-- ---- what they stand for

keep-nothing : (q : Element → Bool) (es : List Element) → T (not (any q es)) → keep q es ≡ []
keep-nothing q [] t = refl
keep-nothing q (e ∷ es) t =
    let r = or_no (q e) (any q es) t in
    cond_no (q e) (e ∷ keep q es) (keep q es) r.0 ∙ keep-nothing q es r.1

-- their elements are all that the subject sees
occupied-all : (s : ℕ) (b : List ℕ) (p : List Step) → ordered_of s b p (keep (below_at s b p) labels) ≡ seen_below s (open_model b) p
unfolding ordered_of seen_at visible
occupied-all s b p =
    ap (sort rank)
    (gather-keep (seen_at s b p) (below_at s b p)
    (λ n t. keep-nothing (λ e. is_prefix p e.path) (cond (dominates s n) (own_set n (open_model b)) []) t) labels
    ∙ keep-gather (λ e. is_prefix p e.path) (λ n. cond (dominates s n) (own_set n (open_model b)) []) labels)

-- ---- found one after another

pub record Filled (s : ℕ) (b : List ℕ) (p : List Step) (found₀ found : List ℕ) (k n : ℕ) : Type 0 where
  pub size : length found ≡ length found₀
  pub few : k ≤ n
  pub most : n ≤ s + 1
  pub is : take k found ≡ keep (below_at s b p) (range (λ m. m) 0 n)

pub fill_start : (s : ℕ) (b : List ℕ) (p : List Step) (found : List ℕ) → Filled s b p found found 0 0
fill_start s b p found = record { size = refl; few = omega arith; most = omega arith; is = refl }

module _ {s : ℕ} {b : List ℕ} {p : List Step} {found₀ found : List ℕ} {k n : ℕ} (inv : Filled s b p found₀ found k n) (h : n < s + 1) {r : Bool} (e : r ≡ below_at s b p n) where
  next-range : keep (below_at s b p) (range (λ m. m) 0 (n + 1)) ≡ keep (below_at s b p) (range (λ m. m) 0 n) ++ keep (below_at s b p) (n ∷ [])
  next-range =
      let j : n + 1 ≡ suc n = omega arith in
      let z : 0 + n ≡ n = omega arith in
      ap (λ (m : ℕ). keep (below_at s b p) (range (λ i. i) 0 m)) j
      ∙ ap (keep (below_at s b p)) (range_last (λ m. m) 0 n ∙ ap (λ (m : ℕ). range (λ i. i) 0 n ++ (m ∷ [])) z)
      ∙ keep_append (below_at s b p) (range (λ m. m) 0 n) (n ∷ [])

  -- an occupied label is put behind the others
  pub fill-yes : r ≡ true → k < length found → Filled s b p found₀ (set found k n) (k + 1) (n + 1)
  fill-yes t l =
      let f : k ≤ n = inv.few in
      let q : below_at s b p n ≡ true = sym e ∙ t in
      let j : k + 1 ≡ suc k = omega arith in
      let w : length (take k found) ≡ k = length-take-le k found (omega arith) in
      record {
        size = length-set found k n ∙ inv.size;
        few = omega arith;
        most = omega arith;
        is =
            ap₂ (λ (m : ℕ) (l : List ℕ). take m l) j (set_split found k n l ∙ sym (append_assoc (take k found) (n ∷ []) (drop (suc k) found)))
            ∙ take_at (take k found ++ (n ∷ [])) (drop (suc k) found) (suc k)
            (length-append (take k found) (n ∷ []) ∙ omega arith)
            ∙ ap (λ (l : List ℕ). l ++ (n ∷ [])) inv.is
            ∙ sym (next-range ∙ ap (λ (c : Bool). keep (below_at s b p) (range (λ m. m) 0 n) ++ cond c (n ∷ []) []) q);
      }

  -- another is passed by
  pub fill-no : r ≡ false → Filled s b p found₀ found k (n + 1)
  fill-no t =
      let f : k ≤ n = inv.few in
      let q : below_at s b p n ≡ false = sym e ∙ t in
      record {
        size = inv.size;
        few = omega arith;
        most = omega arith;
        is =
            inv.is
            ∙ sym
            (next-range
            ∙ ap (λ (c : Bool). keep (below_at s b p) (range (λ m. m) 0 n) ++ cond c (n ∷ []) []) q
            ∙ append-nil (keep (below_at s b p) (range (λ m. m) 0 n)));
      }

-- there is room for one more
pub fill-room : {s : ℕ} {b : List ℕ} {p : List Step} {found₀ found : List ℕ} {k n : ℕ} → T (is_label s) → Filled s b p found₀ found k n → n < s + 1 → k < 32
fill-room {s} o inv h = omega (arith, label-lt s o, inv.few)

-- behind the subject none is occupied
keep-none : (s : ℕ) (b : List ℕ) (p : List Step) (i c : ℕ) → s < i → keep (below_at s b p) (range (λ m. m) i c) ≡ []
keep-none s b p i zero h = refl
keep-none s b p i (suc c) h =
    decide (dominates s i)
    (λ (t : T (dominates s i)). absurd (let l : i ≤ s = dominates-le s i t in omega arith))
    (λ (t : T (not (dominates s i))).
    let q : dominates s i ≡ false = is_false (dominates s i) t in
    rw q (keep-none s b p (suc i) c (omega arith)))

pub fill_end : {s : ℕ} {b : List ℕ} {p : List Step} {found₀ found : List ℕ} {k n : ℕ} → T (is_label s) → Filled s b p found₀ found k n → s + 1 ≤ n → (take k found ≡ keep (below_at s b p) labels) × (k ≤ 32)
fill_end {s} {b} {p} {found₀} {found} {k} {n} o inv h =
    let u : s < 32 = label-lt s o in
    let m : n ≤ s + 1 = inv.most in
    let f : k ≤ n = inv.few in (
      inv.is
          ∙ sym
          (ap (keep (below_at s b p)) (range_split (λ i. i) 0 n 32 (omega arith))
          ∙ keep_append (below_at s b p) (range (λ i. i) 0 n) (range (λ i. i) (0 + n) (32 - n))
          ∙ ap (λ (l : List ℕ). keep (below_at s b p) (range (λ i. i) 0 n) ++ l) (keep-none s b p (0 + n) (32 - n) (omega arith))
          ∙ append-nil (keep (below_at s b p) (range (λ i. i) 0 n))),
      omega arith,
    )

-- ---- what was found

module _ (s : ℕ) (b : List ℕ) (p : List Step) {found : List ℕ} (e : found ≡ keep (below_at s b p) labels) where
  pub found-rising : T (rising found)
  found-rising = rw e (rising-keep (below_at s b p) labels tt)

  -- the elements of the labels found are all that the subject sees
  pub found_all : {rs : List ℕ} → Refers s b rs (ordered_of s b p found) → Refers s b rs (seen_below s (open_model b) p)
  found_all q = record { valid = q.valid; named = q.named ∙ ap (ordered_of s b p) e ∙ occupied-all s b p }
