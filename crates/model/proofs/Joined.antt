-- A store as its partitions, one behind the other.
use mathlib.Core.Path.{◌≡◌, refl, sym, ap, ap₂, ◌∙◌}
use mathlib.Core.List.{List, ◌++◌}
use Prim.Native.Nat.{ℕ, zero, suc, ◌+◌, ◌-◌, ◌*◌, ◌≤◌, ◌<◌}
use native.Mathlib.Omega.{arith}
use lib.ListN.{length, take, drop, length-append}
use lib.Seq.{take_at, drop_at, drop-drop}
use lib.Dec.{T}
use Rattle.model.specs.Lists.{gather, range, between}
use Rattle.model.specs.Label.{labels, is_label}
use Rattle.model.specs.Partition.{partition_size}
use Rattle.model.specs.Store.{store_size, partition_start, partition}
use Rattle.model.proofs.Lists.{between-all, between_none, joins}
use Rattle.model.proofs.Stores.{yes-has, partition-part}
use Rattle.model.proofs.Dominance.{label-lt, lt-label}

-- what f gives for i, i + 1 and so on, as many bytes each as a partition has
module _ (f : ℕ → List ℕ) where
  abbrev run : ℕ → ℕ → List ℕ
  run i c = gather f (range (λ n. n) i c)

  abbrev Sized : ℕ → Type 0
  Sized e = (n : ℕ) → n < e → length (f n) ≡ partition_size

  length_run : (i c : ℕ) → Sized (i + c) → length (run i c) ≡ partition_size * c
  length_run i zero s = refl
  length_run i (suc c) s =
      let r : length (run (suc i) c) ≡ partition_size * c = length_run (suc i) c (λ n h. s n (omega arith)) in
      let o : length (f i) ≡ partition_size = s i (omega arith) in
      length-append (f i) (run (suc i) c) ∙ omega arith

  -- those behind the first k
  drop-run : (k i c : ℕ) → Sized (i + (k + c)) → drop (partition_size * k) (run i (k + c)) ≡ run (i + k) c
  drop-run zero i c s =
      let e : i ≡ i + 0 = omega arith in
      let o : 0 + c ≡ c = omega arith in
      ap₂ run e o
  drop-run (suc k) i c s =
      let e : suc i + k ≡ i + suc k = omega arith in
      let d : partition_size * suc k ≡ partition_size + partition_size * k = omega arith in
      let o : suc k + c ≡ suc (k + c) = omega arith in
      ap₂ (λ (m x : ℕ). drop m (run i x)) d o
      ∙ sym (drop-drop (partition_size * k) partition_size (f i ++ run (suc i) (k + c)))
      ∙ ap (drop (partition_size * k)) (drop_at (f i) (run (suc i) (k + c)) partition_size (s i (omega arith)))
      ∙ drop-run k (suc i) c (λ n h. s n (omega arith))
      ∙ ap (λ (m : ℕ). run m c) e

-- a store of 32 such parts
module _ (f : ℕ → List ℕ) (s : (n : ℕ) → n < 32 → length (f n) ≡ partition_size) where
  pub length-joined : length (gather f labels) ≡ store_size
  length-joined = length_run f 0 32 s

  -- part n is partition n
  pub partition-joined : (n : ℕ) → T (is_label n) → partition n (gather f labels) ≡ f n
  partition-joined n t =
      let h : n < 32 = label-lt n t in
      let w : partition_start n + partition_size - partition_start n ≡ partition_size = omega arith in
      let c : ℕ = 31 - n in
      let e : 32 ≡ n + suc c = omega arith in
      let o : 0 + n ≡ n = omega arith in
      partition-part n (gather f labels) (yes-has n (gather f labels) length-joined t)
      ∙ ap₂ (λ (m k : ℕ). take m (drop (partition_size * n) (gather f (range (λ i. i) 0 k)))) w e
      ∙ ap (take partition_size) (drop-run f n 0 (suc c) (λ m k. s m (omega arith)) ∙ ap (λ (m : ℕ). gather f (range (λ i. i) m (suc c))) o)
      ∙ take_at (f n) (gather f (range (λ i. i) (suc n) c)) partition_size (s n h)

-- a store is its partitions
store-joined : (s : List ℕ) → length s ≡ store_size → s ≡ gather (λ n. partition n s) labels
store-joined s z = sym (parts 0 32 (omega arith) ∙ between-all store_size s z)
  where
    parts : (i c : ℕ) → i + c ≤ 32 → gather (λ n. partition n s) (range (λ n. n) i c) ≡ between (partition_start i) (partition_start (i + c)) s
    parts i zero h = sym (between_none (partition_start i) (partition_start (i + 0)) s (omega arith))
    parts i (suc c) h =
        let e : suc i + c ≡ i + suc c = omega arith in
        let k : partition_start (suc i) ≡ partition_start i + partition_size = omega arith in
        joins (partition_start i) (partition_start i + partition_size) (partition_start (i + suc c)) s (omega arith) (omega arith)
        (partition-part i s (yes-has i s z (lt-label i (omega arith))))
        (parts (suc i) c (omega arith) ∙ ap₂ (λ (x y : ℕ). between x (partition_start y) s) k e)

-- so two stores with the same partitions are one
pub same_store : (s t : List ℕ) → length s ≡ store_size → length t ≡ store_size → ((n : ℕ) → T (is_label n) → partition n s ≡ partition n t) → s ≡ t
same_store s t y z f = store-joined s y ∙ gather-labels ∙ sym (store-joined t z)
  where
    parts : (i c : ℕ) → i + c ≤ 32 → gather (λ n. partition n s) (range (λ n. n) i c) ≡ gather (λ n. partition n t) (range (λ n. n) i c)
    parts i zero h = refl
    parts i (suc c) h = ap₂ (λ (x l : List ℕ). x ++ l) (f i (lt-label i (omega arith))) (parts (suc i) c (omega arith))

    gather-labels : gather (λ n. partition n s) labels ≡ gather (λ n. partition n t) labels
    gather-labels = parts 0 32 (omega arith)
