-- Partitions of a store, read after one is replaced; the length stays.
use mathlib.Core.Path.{◌≡◌, sym, ap, ◌∙◌}
use mathlib.Core.Logic.{◌⊎◌, inl, inr}
use mathlib.Core.Bool.{not, cond}
use mathlib.Core.List.{List, [], ◌++◌, append_assoc}
use Prim.Native.Nat.{ℕ, ◌+◌, ◌-◌, ◌≤◌, ◌<◌}
use native.Mathlib.Omega.{arith}
use native.Mathlib.Decide.{dec_le}
use lib.ListN.{length, take, drop, length-append, length-drop, take-append-drop}
use lib.Seq.{drop-append-le, take-append-le, drop-append-add, take_at, drop_at, drop-drop, length-take-le}
use lib.Dec.{T}
use mir.Facts.{eqb_yes, yes_eqb}
use Rattle.model.specs.Lists.{between}
use Rattle.model.specs.Label.{is_label}
use Rattle.model.specs.Partition.{partition_size}
use Rattle.model.specs.Store.{store_size, partition_start, has_partition, partition, replace}
use Rattle.model.proofs.Bools.{and_l, and_r, both, decide, cond_yes, cond_no}
use Rattle.model.proofs.Lists.{length-between}
use Rattle.model.proofs.Dominance.{label-lt}

-- a store that has partition n
pub record Has (n : ℕ) (s : List ℕ) : Type 0 where
  pub size : length s ≡ store_size
  pub label : n < 32

pub has : (n : ℕ) (s : List ℕ) → T (has_partition n s) → Has n s
unfolding has_partition
has n s t = record { size = eqb_yes (search (and_l, and_r)); label = label-lt n (search (and_l, and_r)) }

pub yes-has : (n : ℕ) (s : List ℕ) → length s ≡ store_size → T (is_label n) → T (has_partition n s)
unfolding has_partition
yes-has n s z t = search (both, yes_eqb)

-- the part of the store, and the store with x for it
abbrev part : ℕ → List ℕ → List ℕ
part n s = between (partition_start n) (partition_start n + partition_size) s

abbrev placed : ℕ → List ℕ → List ℕ → List ℕ
placed n x s = take (partition_start n) s ++ (x ++ drop (partition_start n + partition_size) s)

part-size : (n : ℕ) → partition_start n + partition_size - partition_start n ≡ partition_size
part-size n = omega arith

module _ (n : ℕ) (x s : List ℕ) (h : Has n s) (fit : length x ≡ partition_size) where
  length_front : length (take (partition_start n) s) ≡ partition_start n
  length_front = length-take-le (partition_start n) s (omega (arith, h.size, h.label))

  length-placed : length (placed n x s) ≡ store_size
  length-placed = simp (length-append, length-drop, length_front, fit, h.size) (omega (arith, h.label))

  part-own : part n (placed n x s) ≡ x
  part-own =
      ap (λ (k : ℕ). take k (drop (partition_start n) (placed n x s))) (part-size n)
      ∙ ap (take partition_size) (drop_at (take (partition_start n) s) _ (partition_start n) length_front)
      ∙ take_at x _ partition_size fit

  part-front : (m : ℕ) (a b : List ℕ) → partition_start m + partition_size ≤ length a → part m (a ++ b) ≡ part m a
  part-front m a b k =
      let k1 : partition_start m ≤ length a = omega arith in
      let k2 : partition_start m + partition_size - partition_start m ≤ length (drop (partition_start m) a) = simp length-drop (omega arith) in
      ap (take (partition_start m + partition_size - partition_start m)) (drop-append-le (partition_start m) a b k1)
      ∙ take-append-le (partition_start m + partition_size - partition_start m) (drop (partition_start m) a) b k2

  part-lower : (m : ℕ) → m < n → part m (placed n x s) ≡ part m s
  part-lower m l =
      let k : partition_start m + partition_size ≤ length (take (partition_start n) s) = rw length_front (omega arith) in
      part-front m (take (partition_start n) s) _ k
      ∙ sym (part-front m (take (partition_start n) s) (drop (partition_start n) s) k)
      ∙ ap (part m) (take-append-drop (partition_start n) s)

  part-upper : (m : ℕ) → n < m → part m (placed n x s) ≡ part m s
  part-upper m l =
      let a : List ℕ = take (partition_start n) s ++ x in
      let j : ℕ = partition_start n + partition_size in
      let la : length a ≡ j = simp (length-append, length_front, fit) in
      let e : length a + (partition_start m - j) ≡ partition_start m = omega arith in
      let e2 : j + (partition_start m - j) ≡ partition_start m = omega arith in
      ap (take (partition_start m + partition_size - partition_start m))
      (ap (drop (partition_start m)) (sym (append_assoc (take (partition_start n) s) x (drop j s)))
      ∙ ap (λ (k : ℕ). drop k (a ++ drop j s)) (sym e)
      ∙ drop-append-add a (drop j s) (partition_start m - j)
      ∙ drop-drop (partition_start m - j) j s
      ∙ ap (λ (k : ℕ). drop k s) e2)

-- two numbers apart
pub apart : (m n : ℕ) → (m ≡ n → ⊥) → (m < n) ⊎ (n < m)
apart m n h = elim (dec_le m n) [ yes l ↦ inl (omega arith) | no l ↦ inr (omega arith) ]

pub replace-placed : (n : ℕ) (x s : List ℕ) → T (has_partition n s) → replace n x s ≡ placed n x s
unfolding replace
replace-placed n x s t = cond_yes (has_partition n s) (placed n x s) s t

pub replace-none : (n : ℕ) (x s : List ℕ) → T (not (has_partition n s)) → replace n x s ≡ s
unfolding replace
replace-none n x s t = cond_no (has_partition n s) (placed n x s) s t

pub partition-part : (n : ℕ) (s : List ℕ) → T (has_partition n s) → partition n s ≡ part n s
unfolding partition
partition-part n s t = cond_yes (has_partition n s) (part n s) [] t

pub length-partition : (n : ℕ) (s : List ℕ) → T (has_partition n s) → length (partition n s) ≡ partition_size
length-partition n s t =
    let h : Has n s = has n s t in
    ap length (partition-part n s t)
    ∙ length-between (partition_start n) (partition_start n + partition_size) s (omega arith) (omega (arith, h.size, h.label))
    ∙ part-size n

pub length-replace : (n : ℕ) (x s : List ℕ) → length x ≡ partition_size → length (replace n x s) ≡ length s
length-replace n x s fit =
    decide (has_partition n s)
    (λ (t : T (has_partition n s)).
    ap length (replace-placed n x s t) ∙ length-placed n x s (has n s t) fit ∙ sym (has n s t).size)
    (λ (t : T (not (has_partition n s))). ap length (replace-none n x s t))

-- a store has the partitions that it had
pub has-replace : (m n : ℕ) (x s : List ℕ) → length x ≡ partition_size → has_partition m (replace n x s) ≡ has_partition m s
unfolding has_partition
has-replace m n x s fit = rw (length-replace n x s fit)

pub partition-own : (n : ℕ) (x s : List ℕ) → T (has_partition n s) → length x ≡ partition_size → partition n (replace n x s) ≡ x
partition-own n x s t fit =
    partition-part n (replace n x s) (rw (has-replace n n x s fit) t)
    ∙ ap (part n) (replace-placed n x s t)
    ∙ part-own n x s (has n s t) fit

pub partition-other : (m n : ℕ) (x s : List ℕ) → (m ≡ n → ⊥) → length x ≡ partition_size → partition m (replace n x s) ≡ partition m s
unfolding partition
partition-other m n x s d fit =
    decide (has_partition n s)
    (λ (t : T (has_partition n s)).
    rw (has-replace m n x s fit)
    (ap (λ (l : List ℕ). cond (has_partition m s) l []) (ap (part m) (replace-placed n x s t) ∙ either t (apart m n d))))
    (λ (t : T (not (has_partition n s))). ap (partition m) (replace-none n x s t))
  where
    either : T (has_partition n s) → (m < n) ⊎ (n < m) → part m (placed n x s) ≡ part m s
    either t (inl l) = part-lower n x s (has n s t) fit m l
    either t (inr l) = part-upper n x s (has n s t) fit m l
