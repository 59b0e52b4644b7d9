-- A store's partitions as the code reads them.
use mathlib.Core.Path.{◌≡◌, refl, sym, ap, ◌∙◌}
use mathlib.Core.Bool.{Bool, true, false, not, ◌&&◌, ◌||◌}
use mathlib.Core.List.{List, ◌++◌}
use Prim.Native.Nat.{ℕ, zero, suc, ◌+◌, ◌-◌, ◌*◌, ◌≤◌, ◌<◌}
use native.Mathlib.Numerals.{add-one}
use native.Mathlib.Omega.{arith}
use Rattle.std.specs.List.{list_any, range_with_len}
use borrow.Rule.Slice.PartMut.{put_mid, Post-is}
use lib.ListN.{length, take, drop}
use lib.Dec.{T}
use Rattle.model.specs.Lists.{any, range}
use Rattle.model.specs.Label.{labels, is_label, dominates}
use Rattle.model.specs.Partition.{partition_size, read_partition, well_formed}
use Rattle.model.specs.Store.{store_size, partition, replace}
use Rattle.model.specs.Model.{held, raw, is_held, elements, open_cell, open_model, own_set}
use Rattle.model.specs.Rows.{some_raw}
use Rattle.model.proofs.Bools.{decide, cond_yes, cond_no, is_true, is_false}
use Rattle.model.proofs.Dominance.{label-lt, dominates-upper, dominates-lower, dominates-le}
use Rattle.model.proofs.Walks.{Left, left-start}
use Rattle.model.proofs.Stores.{yes-has, partition-part, length-partition, replace-placed}

-- the part that is lent
pub dominated-lt : (s n : ℕ) → T (dominates s n) → n < 32
dominated-lt s n t = label-lt n (dominates-lower s n t)

module _ (s n : ℕ) (b : List ℕ) (size : length b ≡ store_size) (t : T (dominates s n)) where
  pub part-is : take (1284 * n + 1284 - 1284 * n) (drop (1284 * n) b) ≡ partition n b
  part-is = sym (partition-part n b (yes-has n b size (dominates-lower s n t)))

  pub part-size : length (partition n b) ≡ partition_size
  part-size = length-partition n b (yes-has n b size (dominates-lower s n t))

-- a cell is held if its partition is well formed
pub held-formed : (n : ℕ) (x : List ℕ) → is_held (open_cell n x) ≡ well_formed n x
unfolding open_cell is_held
held-formed n x =
    decide (well_formed n x)
    (λ (t : T (well_formed n x)). ap is_held (cond_yes (well_formed n x) (held (read_partition x)) (raw x) t) ∙ sym (is_true (well_formed n x) t))
    (λ (t : T (not (well_formed n x))). ap is_held (cond_no (well_formed n x) (held (read_partition x)) (raw x) t) ∙ sym (is_false (well_formed n x) t))

-- and then the model keeps its elements
pub formed-set : (n : ℕ) (b : List ℕ) → T (well_formed n (partition n b)) → own_set n (open_model b) ≡ read_partition (partition n b)
unfolding own_set open_model open_cell elements
formed-set n b t = ap elements (cond_yes (well_formed n (partition n b)) (held (read_partition (partition n b))) (raw (partition n b)) t)

-- a partition that the subject does not dominate does not matter
pub not-dominated : (s n : ℕ) (b : List ℕ) {r : Bool} → r ≡ dominates s n → r ≡ false → false ≡ (dominates s n && not (is_held ((open_model b).cell n)))
not-dominated s n b e t = let q : dominates s n ≡ false = sym e ∙ t in rw q

-- of a label that the subject dominates, what the test of its partition tells
module _ (s n : ℕ) (b : List ℕ) {r : Bool} (e : r ≡ dominates s n) (t : r ≡ true) where
  pub is-dominated : T (dominates s n)
  is-dominated = let q : dominates s n ≡ true = sym e ∙ t in rw q tt

  pub by-formed : {x : List ℕ} {w : Bool} → (x ≡ partition n b) × (length x ≡ partition_size) → w ≡ well_formed n x
      → not w ≡ (dominates s n && not (is_held ((open_model b).cell n)))
  unfolding open_model
  by-formed f g =
      let q : dominates s n ≡ true = sym e ∙ t in
      sym (rw q (ap not (held-formed n (partition n b) ∙ ap (well_formed n) (sym f.0) ∙ sym g)))

-- the part that starts at the label's index k
pub part-lent : (s n : ℕ) (b : List ℕ) {k : ℕ} → length b ≡ store_size → T (dominates s n) → k ≡ n
    → (take (1284 * k + 1284 - 1284 * k) (drop (1284 * k) b) ≡ partition n b) × (length (take (1284 * k + 1284 - 1284 * k) (drop (1284 * k) b)) ≡ partition_size)
part-lent s n b {k} size t e =
    let p : take (1284 * k + 1284 - 1284 * k) (drop (1284 * k) b) ≡ partition n b =
    ap (λ (i : ℕ). take (1284 * i + 1284 - 1284 * i) (drop (1284 * i) b)) e ∙ part-is s n b size t in
    (p, ap length p ∙ part-size s n b size t)

-- another put in its place
pub part-replaced : (n : ℕ) (b : List ℕ) (k : ℕ) → length b ≡ store_size → T (is_label n) → k ≡ n → (x : List ℕ)
    → put_mid (1284 * k) (1284 * k + 1284 - 1284 * k) b x ≡ replace n x b
part-replaced n b k size t e x =
    ap (λ (l : List ℕ). take (1284 * k) b ++ (x ++ l)) (Post-is (1284 * k) (1284 * k + 1284) b (omega arith))
    ∙ ap (λ (i : ℕ). take (1284 * i) b ++ (x ++ drop (1284 * i + 1284) b)) e
    ∙ sym (replace-placed n x b (yes-has n b size t))

-- ---- over the labels

-- a label is not greater than one that dominates it, so none from e on is dominated
pub not-above : (s e n : ℕ) → (e ≤ 32) × (s < 32 → s < e) → e ≤ n → dominates s n ≡ false
not-above s e n f h =
    decide (dominates s n)
    (λ (t : T (dominates s n)). absurd (omega (arith, dominates-le s n t, f.1 (label-lt s (dominates-upper s n t)))))
    (λ (t : T (not (dominates s n))). is_false (dominates s n) t)

-- a search over a range may end where no member behind it passes
any-cut : (p : ℕ → Bool) (i k c : ℕ) → k ≤ c → ((n : ℕ) → i + k ≤ n → p n ≡ false) → any p (range (λ n. n) i c) ≡ any p (range (λ n. n) i k)
any-cut p i zero zero h f = refl
any-cut p i zero (suc c) h f = rw (f i (omega arith)) (any-cut p (suc i) zero c (omega arith) (λ n g. f n (omega arith)))
any-cut p i (suc k) zero h f = absurd (omega arith)
any-cut p i (suc k) (suc c) h f = ap (λ (t : Bool). p i || t) (any-cut p (suc i) k c (omega arith) (λ n g. f n (omega arith)))

-- so one over the labels may end at e
pub labels-start : (p : ℕ → Bool) {e : ℕ} → e ≤ 32 → ((n : ℕ) → e ≤ n → p n ≡ false) → Left (λ n. n) (any p) (any p labels) e 0
labels-start p {e} f q = rw (any-cut p 0 e 32 f (λ n h. q n (omega arith))) (left-start (λ n. n) (any p) e)

-- the subject dominates label n, whose partition is not well formed
abbrev pub raw_at : ℕ → List ℕ → ℕ → Bool
raw_at s b n = dominates s n && not (is_held ((open_model b).cell n))

pub raw-start : (s : ℕ) (b : List ℕ) {e : ℕ} → (e ≤ 32) × (s < 32 → s < e) → Left (λ n. n) (any (raw_at s b)) (some_raw s (open_model b)) e 0
unfolding some_raw
raw-start s b {e} f = labels-start (raw_at s b) f.0 (λ n h. rw (not-above s e n f h))

-- a search over the numbers from i on, as the code runs it
any-numbers : (p : ℕ → Bool) (i k : ℕ) → list_any p (range_with_len i k) ≡ any p (range (λ n. n) i k)
any-numbers p i zero = refl
any-numbers p i (suc k) = ap (λ (t : Bool). p i || t) (ap (λ (j : ℕ). list_any p (range_with_len j k)) (add-one i) ∙ any-numbers p (suc i) k)

pub any-start : (p : ℕ → Bool) {w : Bool} {e : ℕ} → Left (λ n. n) (any p) w e 0 → list_any p (range_with_len 0 e) ≡ w
any-start p {w} {e} l =
    let z : e - 0 ≡ e = omega arith in
    any-numbers p 0 e ∙ sym (l.same ∙ ap (λ (k : ℕ). any p (range (λ n. n) 0 k)) z)
