-- The partitions migrated one by one, from the last on, and the mask that their bits make.
use mathlib.Core.Path.{◌≡◌, refl, sym, ap, ◌∙◌}
use mathlib.Core.Bool.{Bool, true, false, not, cond}
use mathlib.Core.List.{List, map}
use Prim.Native.Nat.{ℕ, suc, ◌+◌, ◌-◌, ◌*◌, ◌≤◌, ◌<◌}
use native.Mathlib.Omega.{arith}
use native.Mathlib.Decide.{dec_le}
use borrow.Rule.Slice.PartMut.{put_mid}
use lib.ListN.{length, take, drop, length-map}
use lib.Dec.{T, eqb}
use mir.Facts.{no_eqb}
use Rattle.model.specs.Lists.{range}
use Rattle.model.specs.Sets.{sort}
use Rattle.model.specs.Element.{rank}
use Rattle.model.specs.Partition.{partition_size, layout, read_partition}
use Rattle.model.specs.Store.{store_size, partition, replace}
use Rattle.model.specs.Migration.{former_well_formed, migrated, migrated_store, binary, Migration, migration}
use Rattle.model.proofs.Lists.{length-range}
use Rattle.model.proofs.Dominance.{lt-label, label-lt, dominates-refl}
use Rattle.model.proofs.Stores.{yes-has, length-replace, partition-own, partition-other}
use Rattle.model.proofs.Joined.{same_store}
use Rattle.model.proofs.Bits.{binary-small}
use Rattle.model.proofs.Migrating.{migrated-raw, migrated-layout, length-migrated, partition-migrated, length-migrated-store, migration-done, store_kept, refused-length}
use Rattle.store.proofs.Parts.{part-lent, part-replaced}
use Rattle.sorting.specs.Sorting.{Former}
use Rattle.promise.specs.Migrated.{Migrated}

-- ---- a partition

-- its bit of the mask
abbrev bit_of : ℕ → List ℕ → ℕ
bit_of n b = cond (not (former_well_formed n b)) 1 0

pub bit-small : (n : ℕ) (b : List ℕ) {r : ℕ} → r ≡ bit_of n b → r ≤ 1
bit-small n b e = rw e (go (not (former_well_formed n b)))
  where
    go : (t : Bool) → cond t 1 0 ≤ 1
    go true = omega arith
    go false = omega arith

module _ (n : ℕ) (b : List ℕ) {r : Bool} (e : r ≡ former_well_formed n b) where
  -- not well formed
  pub raw-bit : r ≡ false → (◌≡◌ {A = ℕ} 1 (bit_of n b)) × (b ≡ migrated n b)
  raw-bit t =
      let f : former_well_formed n b ≡ false = sym e ∙ t in
      (rw f, sym (migrated-raw n b (rw f tt)))

  -- well formed
  pub formed-former : r ≡ true → Former b
  formed-former t = let f : former_well_formed n b ≡ true = sym e ∙ t in record { label = n; is = rw f tt }

  pub formed-bit : r ≡ true → {x : List ℕ} → x ≡ layout (sort rank (read_partition b)) → (◌≡◌ {A = ℕ} 0 (bit_of n b)) × (x ≡ migrated n b)
  formed-bit t g =
      let f : former_well_formed n b ≡ true = sym e ∙ t in
      (rw f, g ∙ sym (migrated-layout n b (rw f tt)))

-- ---- the store

-- whether partition m was not well formed
abbrev unformed : List ℕ → ℕ → Bool
unformed s m = not (former_well_formed m (partition m s))

-- of the store s₀ the partitions from n on are migrated, and the mask has their bits; those before are as they were
pub record Progress (s₀ s : List ℕ) (mask n : ℕ) : Type 0 where
  pub within : n ≤ 32
  pub size : length s ≡ store_size
  pub before : (m : ℕ) → m < n → partition m s ≡ partition m s₀
  pub from : (m : ℕ) → n ≤ m → m < 32 → partition m s ≡ migrated m (partition m s₀)
  pub bits : mask ≡ binary (map (unformed s₀) (range (λ m. m) n (32 - n)))

pub progress_start : {s : List ℕ} → length s ≡ store_size → Progress s s 0 32
progress_start z = record { within = omega arith; size = z; before = λ m h. refl; from = λ m h l. absurd (omega arith); bits = refl }

-- the part of partition n
pub part-is : (s : List ℕ) (n j : ℕ) → length s ≡ store_size → n < 32 → j ≡ n
    → (take (1284 * j + 1284 - 1284 * j) (drop (1284 * j) s) ≡ partition n s) × (length (take (1284 * j + 1284 - 1284 * j) (drop (1284 * j) s)) ≡ partition_size)
part-is s n j z h e = part-lent n n s z (dominates-refl n (lt-label n h)) e

module _ {s₀ s : List ℕ} {mask n : ℕ} (inv : Progress s₀ s mask n) (h : 0 < n) where
  -- the mask has room for a bit
  pub mask-small : mask < 2147483648
  mask-small =
      rw inv.bits
      (binary-small (map (unformed s₀) (range (λ m. m) n (32 - n)))
      (rw (length-map (range (λ m. m) n (32 - n)) (unformed s₀), length-range (λ (m : ℕ). m) n (32 - n)) (omega arith)))

  -- the partition before n is migrated
  pub progress-next : {j : ℕ} → j ≡ n - 1 → {r : ℕ} {y : List ℕ} → let x : List ℕ = take (1284 * j + 1284 - 1284 * j) (drop (1284 * j) s) in
      (r ≡ bit_of (n - 1) x) × (y ≡ migrated (n - 1) x)
      → Progress s₀ (put_mid (1284 * j) (1284 * j + 1284 - 1284 * j) s y) (2 * mask + r) (n - 1)
  progress-next {j} e {r} {y} g =
      let k : ℕ = n - 1 in
      let l : k < 32 = omega (arith, inv.within) in
      let x : List ℕ = take (1284 * j + 1284 - 1284 * j) (drop (1284 * j) s) in
      let part = part-is s k j inv.size l e in
      let own : x ≡ partition k s₀ = part.0 ∙ inv.before k (omega arith) in
      let ys : y ≡ migrated k (partition k s₀) = g.1 ∙ ap (migrated k) own in
      let fit : length y ≡ partition_size = ap length g.1 ∙ length-migrated k x part.1 in
      let store : put_mid (1284 * j) (1284 * j + 1284 - 1284 * j) s y ≡ replace k y s = part-replaced k s j inv.size (lt-label k l) e y in
      let here : partition k (replace k y s) ≡ migrated k (partition k s₀) = partition-own k y s (yes-has k s inv.size (lt-label k l)) fit ∙ ys in
      let more : 32 - k ≡ suc (32 - n) = omega (arith, inv.within) in
      let up : suc k ≡ n = omega arith in
      let behind : binary (map (unformed s₀) (range (λ m. m) k (32 - k))) ≡ cond (unformed s₀ k) 1 0 + 2 * mask =
      ap (λ (c : ℕ). binary (map (unformed s₀) (range (λ m. m) k c))) more
      ∙ ap (λ (i : ℕ). cond (unformed s₀ k) 1 0 + 2 * binary (map (unformed s₀) (range (λ m. m) i (32 - n)))) up
      ∙ ap (λ (c : ℕ). cond (unformed s₀ k) 1 0 + 2 * c) (sym inv.bits) in
      let bit : r ≡ cond (unformed s₀ k) 1 0 = g.0 ∙ ap (bit_of k) own in
      rw store
      (record {
        within = omega (arith, inv.within);
        size = length-replace k y s fit ∙ inv.size;
        before = λ m q. partition-other m k y s (λ p. omega arith) fit ∙ inv.before m (omega arith);
        from = λ m q p. elim (dec_le m k) [
          | yes d ↦ let same : m ≡ k = omega arith in rw same here
          | no d ↦ partition-other m k y s (λ p. omega arith) fit ∙ inv.from m (omega arith) p
        ];
        bits = omega arith;
      })

-- all are migrated
module _ {s₀ s : List ℕ} {mask n : ℕ} (z : length s₀ ≡ store_size) (inv : Progress s₀ s mask n) (h : n ≤ 0) where
  first : n ≡ 0
  first = omega arith

  pub progress-mask : mask ≡ (migration s₀).mask
  progress-mask =
      inv.bits
      ∙ ap (λ (i : ℕ). binary (map (unformed s₀) (range (λ m. m) i (32 - i)))) first
      ∙ sym (ap (λ (m : Migration). m.mask) (migration-done s₀ z))

  pub progress-store : s ≡ migrated_store s₀
  progress-store =
      same_store s (migrated_store s₀) inv.size (length-migrated-store s₀ z)
      (λ m l. inv.from m (omega arith) (label-lt m l) ∙ sym (partition-migrated s₀ z m l))

-- ---- the call

-- another length
pub length-refused : {s : List ℕ} → (length s ≡ store_size → ⊥) → Migrated s (record { number = 1; mask = 0 }) s
length-refused {s} h =
    let t : T (not (eqb (length s) store_size)) = no_eqb h in
    record { told_is = sym (refused-length s t); store_is = sym (store_kept s t) }

-- the length of a store
pub migration-told : {s t : List ℕ} {m : ℕ} → length s ≡ store_size → m ≡ (migration s).mask → t ≡ migrated_store s → Migrated s (record { number = 0; mask = m }) t
migration-told {s} z e f =
    record {
      told_is = ap (λ (k : ℕ). record { number = 0; mask = k }) (e ∙ ap (λ (x : Migration). x.mask) (migration-done s z)) ∙ sym (migration-done s z);
      store_is = f;
    }
