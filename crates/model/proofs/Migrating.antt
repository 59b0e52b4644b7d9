-- The migration: a partition that is migrated is well formed and holds the same set; what is in path order stays; a second migration
-- changes nothing, and what its mask tells; each partition is done by itself, so what an observer gets comes from what he dominates.
use mathlib.Core.Path.{◌≡◌, refl, sym, ap, ap₂, ◌∙◌}
use mathlib.Core.Bool.{Bool, true, false, not, ◌&&◌, ◌||◌}
use mathlib.Core.List.{List, map}
use Prim.Native.Nat.{ℕ, ◌+◌, ◌<◌}
use native.Mathlib.Omega.{arith}
use lib.ListN.{length}
use lib.Dec.{T, eqb}
use mir.Facts.{eqb_yes, yes_eqb, T_not}
use Rattle.model.specs.Lists.{same_bytes, gather}
use Rattle.model.specs.Sets.{sorted, sort}
use Rattle.model.specs.Label.{labels, is_label}
use Rattle.model.specs.Path.{key, former_key, keys}
use Rattle.model.specs.Element.{Element, rank, valid_element}
use Rattle.model.specs.Partition.{partition_size, layout, read_partition, well_formed}
use Rattle.model.specs.Store.{store_size, partition}
use Rattle.model.specs.Run.{Alike as AlikeTo}
use Rattle.model.specs.Migration.{former_well_formed, migrated, migrated_store, binary, bit, Migration, migration, MigratedNoninterference}
use Rattle.model.proofs.Bools.{and_l, and_r, both, decide, cond_yes, cond_no, same_test}
use Rattle.model.proofs.Lists.{same_bytes-eq, same_bytes-refl}
use Rattle.model.proofs.Members.{in_all, all_in}
use Rattle.model.proofs.Alike.{Alike}
use Rattle.model.proofs.Dominance.{label-lt, lt-label, dominates-lower}
use Rattle.model.proofs.Order.{ascending-sorted, ascending-sort, ascending-unique, sort_sorted}
use Rattle.model.proofs.Paths.{key-keyed, keys-injective}
use Rattle.model.proofs.Partitions.{WellFormed, ValidSet, well-formed, yes-well-formed, length-layout, read-layout, layout-well-formed, layout-read, read-valid}
use Rattle.model.proofs.Sets.{Closed, closed_facts, facts-closed, contains-more}
use Rattle.model.proofs.Stores.{yes-has, length-partition}
use Rattle.model.proofs.Noninterference.{noninterference}
use Rattle.model.proofs.Resorting.{resort-length, resort-alike}
use Rattle.model.proofs.Bits.{bit-range}
use Rattle.model.proofs.Joined.{length-joined, partition-joined, same_store}

-- ---- a set in the order of before

-- an element's rank in that order; elements of one rank have one in the other order
abbrev pub former_rank : Element → List ℕ
former_rank e = keys former_key e.path

pub rank-former : (x y : Element) → rank x ≡ rank y → former_rank x ≡ former_rank y
rank-former x y e = ap (keys former_key) (keys-injective key key-keyed x.path y.path e)

module _ (n : ℕ) (es : List Element) (f : ValidSet former_key n es) where
  in_order_lem : T (sorted former_rank es)
  in_order_lem = ascending-sorted former_rank es f.ascends

  -- sorted, it has the same members
  pub sorted-alike : Alike (sort rank es) es
  sorted-alike = resort-alike former_rank rank rank-former es in_order_lem

  -- and is valid
  pub sorted-valid : ValidSet key n (sort rank es)
  sorted-valid =
      let a : Alike (sort rank es) es = sorted-alike in
      let c : Closed n es = closed_facts n es f.closes in
      record {
        few = rw (resort-length former_rank rank rank-former es in_order_lem) f.few;
        valid = in_all (valid_element n) (sort rank es) (λ x m. all_in (valid_element n) es f.valid (a.to x m));
        ascends = ascending-sort rank es;
        closes = facts-closed n (sort rank es) (λ e m q b s. contains-more es (sort rank es) a.from q (c e (a.to e m) q b s));
      }

-- ---- a partition

module _ (n : ℕ) (b : List ℕ) where
  -- one that was not well formed in the order of before keeps its bytes
  pub migrated-raw : T (not (former_well_formed n b)) → migrated n b ≡ b
  unfolding migrated
  migrated-raw t = cond_no (former_well_formed n b) (layout (sort rank (read_partition b))) b t

  module _ (t : T (former_well_formed n b)) where
    valid : ValidSet former_key n (read_partition b)
    valid = read-valid former_key n b (well-formed former_key n b t)

    pub migrated-layout : migrated n b ≡ layout (sort rank (read_partition b))
    unfolding migrated
    migrated-layout = cond_yes (former_well_formed n b) (layout (sort rank (read_partition b))) b t

    migrated-read : read_partition (migrated n b) ≡ sort rank (read_partition b)
    migrated-read = ap read_partition migrated-layout ∙ read-layout key n (sort rank (read_partition b)) (sorted-valid n (read_partition b) valid)

    -- any other is well formed then
    pub migrated-well-formed : T (well_formed n (migrated n b))
    migrated-well-formed =
        rw migrated-layout
        (yes-well-formed key n (layout (sort rank (read_partition b))) (layout-well-formed key n (sort rank (read_partition b)) (sorted-valid n (read_partition b) valid)))

    -- and holds the same set
    pub migrated-alike : Alike (read_partition (migrated n b)) (read_partition b)
    migrated-alike = rw migrated-read (sorted-alike n (read_partition b) valid)

  -- one that is well formed already keeps its bytes
  pub migrated-kept : T (well_formed n b) → migrated n b ≡ b
  migrated-kept w =
      let f : WellFormed key n b = well-formed key n b w in
      decide (former_well_formed n b)
      (λ (t : T (former_well_formed n b)).
      migrated-layout t ∙ ap layout (sort_sorted rank (read_partition b) (ascending-sorted rank (read_partition b) f.ascends)) ∙ layout-read key n b f)
      migrated-raw

  pub length-migrated : length b ≡ partition_size → length (migrated n b) ≡ partition_size
  length-migrated z =
      decide (former_well_formed n b)
      (λ (t : T (former_well_formed n b)). ap length (migrated-layout t) ∙ length-layout (sort rank (read_partition b)))
      (λ (t : T (not (former_well_formed n b))). ap length (migrated-raw t) ∙ z)

-- a second migration changes nothing
pub migrated-twice : (n : ℕ) (b : List ℕ) → migrated n (migrated n b) ≡ migrated n b
migrated-twice n b =
    decide (former_well_formed n b)
    (λ (t : T (former_well_formed n b)). migrated-kept n (migrated n b) (migrated-well-formed n b t))
    (λ (t : T (not (former_well_formed n b))). ap (migrated n) (migrated-raw n b t))

-- after a first one, what is well formed in the order of before was so and kept its bytes
pub former-again : (n : ℕ) (b : List ℕ) → former_well_formed n (migrated n b) ≡ (former_well_formed n b && same_bytes (migrated n b) b)
former-again n b =
    same_test (former_well_formed n (migrated n b)) (former_well_formed n b && same_bytes (migrated n b) b)
    (λ (u : T (former_well_formed n (migrated n b))).
    decide (former_well_formed n b)
    (λ (t : T (former_well_formed n b)). both (former_well_formed n b) (same_bytes (migrated n b) b) t (rw (same t u) (same_bytes-refl b)))
    (λ (t : T (not (former_well_formed n b))). absurd (T_not (former_well_formed n b) (rw (migrated-raw n b t) at u) t)))
    (λ (u : T (former_well_formed n b && same_bytes (migrated n b) b)).
    rw (same_bytes-eq (migrated n b) b (and_r (former_well_formed n b) (same_bytes (migrated n b) b) u)) (and_l (former_well_formed n b) (same_bytes (migrated n b) b) u))
  where
    -- one list ascends in that order
    same : T (former_well_formed n b) → T (former_well_formed n (migrated n b)) → migrated n b ≡ b
    same t u =
        let f : WellFormed former_key n b = well-formed former_key n b t in
        let g : WellFormed former_key n (migrated n b) = well-formed former_key n (migrated n b) u in
        let a : Alike (read_partition (migrated n b)) (read_partition b) = migrated-alike n b t in
        sym (layout-read former_key n (migrated n b) g)
        ∙ ap layout (ascending-unique former_rank (read_partition (migrated n b)) (read_partition b) g.ascends f.ascends a.to a.from)
        ∙ layout-read former_key n b f

-- ---- a store

module _ (s : List ℕ) where
  -- of another length
  module _ (t : T (not (eqb (length s) store_size))) where
    pub store_kept : migrated_store s ≡ s
    unfolding migrated_store
    store_kept = cond_no (eqb (length s) store_size) (gather (λ n. migrated n (partition n s)) labels) s t

    pub refused-length : migration s ≡ record { number = 1; mask = 0 }
    unfolding migration
    refused-length = cond_no (eqb (length s) store_size) _ (record { number = 1; mask = 0 }) t

  -- of the length of a store
  module _ (z : length s ≡ store_size) where
    sizes : (n : ℕ) → n < 32 → length (migrated n (partition n s)) ≡ partition_size
    sizes n h = length-migrated n (partition n s) (length-partition n s (yes-has n s z (lt-label n h)))

    joined : migrated_store s ≡ gather (λ n. migrated n (partition n s)) labels
    unfolding migrated_store
    joined = cond_yes (eqb (length s) store_size) (gather (λ n. migrated n (partition n s)) labels) s (yes_eqb z)

    -- each partition by itself
    pub partition-migrated : (n : ℕ) → T (is_label n) → partition n (migrated_store s) ≡ migrated n (partition n s)
    partition-migrated n t = ap (partition n) joined ∙ partition-joined (λ m. migrated m (partition m s)) sizes n t

    pub length-migrated-store : length (migrated_store s) ≡ store_size
    length-migrated-store = ap length joined ∙ length-joined (λ m. migrated m (partition m s)) sizes

    -- what it answers
    pub migration-done : migration s ≡ record { number = 0; mask = binary (map (λ n. not (former_well_formed n (partition n s))) labels) }
    unfolding migration
    migration-done = cond_yes (eqb (length s) store_size) _ (record { number = 1; mask = 0 }) (yes_eqb z)

    -- bit n of the mask
    pub mask-bit : (n : ℕ) → T (is_label n) → bit n (migration s).mask ≡ not (former_well_formed n (partition n s))
    mask-bit n t =
        let o : 0 + n ≡ n = omega arith in
        ap (λ (m : Migration). bit n m.mask) migration-done
        ∙ bit-range (λ m. not (former_well_formed m (partition m s))) 0 32 n (label-lt n t)
        ∙ ap (λ (m : ℕ). not (former_well_formed m (partition m s))) o

-- the length stays
pub migration-length : (s : List ℕ) → length (migrated_store s) ≡ length s
migration-length s =
    decide (eqb (length s) store_size)
    (λ (t : T (eqb (length s) store_size)). let z : length s ≡ store_size = eqb_yes t in length-migrated-store s z ∙ sym z)
    (λ (t : T (not (eqb (length s) store_size))). ap length (store_kept s t))

-- a second migration changes no byte
pub store-twice : (s : List ℕ) → migrated_store (migrated_store s) ≡ migrated_store s
store-twice s =
    decide (eqb (length s) store_size)
    (λ (t : T (eqb (length s) store_size)).
    let z : length (migrated_store s) ≡ store_size = length-migrated-store s (eqb_yes t) in
    same_store (migrated_store (migrated_store s)) (migrated_store s) (length-migrated-store (migrated_store s) z) z
    (λ n l.
    partition-migrated (migrated_store s) z n l
    ∙ ap (migrated n) (partition-migrated s (eqb_yes t) n l)
    ∙ migrated-twice n (partition n s)
    ∙ sym (partition-migrated s (eqb_yes t) n l)))
    (λ (t : T (not (eqb (length s) store_size))). ap migrated_store (store_kept s t))

-- its mask has, beside the bits of the first, those of the partitions that the first changed
pub mask-twice : (s : List ℕ) → length s ≡ store_size → (n : ℕ) → T (is_label n)
    → bit n (migration (migrated_store s)).mask ≡ (bit n (migration s).mask || not (same_bytes (partition n (migrated_store s)) (partition n s)))
mask-twice s z n l =
    let e : partition n (migrated_store s) ≡ migrated n (partition n s) = partition-migrated s z n l in
    mask-bit (migrated_store s) (length-migrated-store s z) n l
    ∙ ap (λ (b : List ℕ). not (former_well_formed n b)) e
    ∙ ap not (former-again n (partition n s))
    ∙ apart (former_well_formed n (partition n s)) (same_bytes (migrated n (partition n s)) (partition n s))
    ∙ ap₂ (λ (x : Bool) (b : List ℕ). x || not (same_bytes b (partition n s))) (sym (mask-bit s z n l)) (sym e)
  where
    apart : (x y : Bool) → not (x && y) ≡ (not x || not y)
    apart true y = refl
    apart false y = refl

-- ---- what an observer gets

-- the number comes from the length alone
pub own-number : (s t : List ℕ) → length s ≡ length t → (migration s).number ≡ (migration t).number
own-number s t e =
    decide (eqb (length s) store_size)
    (λ (h : T (eqb (length s) store_size)).
    let z : length s ≡ store_size = eqb_yes h in
    ap (λ (m : Migration). m.number) (migration-done s z) ∙ sym (ap (λ (m : Migration). m.number) (migration-done t (sym e ∙ z))))
    (λ (h : T (not (eqb (length s) store_size))). ap (λ (m : Migration). m.number) (refused-length s h ∙ sym (refused-length t (rw e at h))))

-- a partition's result and its bit come from its own bytes alone
module _ (s t : List ℕ) (e : length s ≡ length t) (n : ℕ) (l : T (is_label n)) (p : partition n s ≡ partition n t) where
  pub own-partition : partition n (migrated_store s) ≡ partition n (migrated_store t)
  own-partition =
      decide (eqb (length s) store_size)
      (λ (h : T (eqb (length s) store_size)).
      let z : length s ≡ store_size = eqb_yes h in
      partition-migrated s z n l ∙ ap (migrated n) p ∙ sym (partition-migrated t (sym e ∙ z) n l))
      (λ (h : T (not (eqb (length s) store_size))). ap (partition n) (store_kept s h) ∙ p ∙ sym (ap (partition n) (store_kept t (rw e at h))))

  pub own-bit : bit n (migration s).mask ≡ bit n (migration t).mask
  own-bit =
      decide (eqb (length s) store_size)
      (λ (h : T (eqb (length s) store_size)).
      let z : length s ≡ store_size = eqb_yes h in
      mask-bit s z n l ∙ ap (λ (b : List ℕ). not (former_well_formed n b)) p ∙ sym (mask-bit t (sym e ∙ z) n l))
      (λ (h : T (not (eqb (length s) store_size))).
      ap (λ (m : Migration). bit n m.mask) (refused-length s h ∙ sym (refused-length t (rw e at h))))

-- so stores alike for an observer stay alike
pub alike-migrated : (o : ℕ) (s t : List ℕ) → AlikeTo o s t → AlikeTo o (migrated_store s) (migrated_store t)
alike-migrated o s t a =
    record {
      lengths = migration-length s ∙ a.lengths ∙ sym (migration-length t);
      partitions = λ n d. own-partition s t a.lengths n (dominates-lower o n d) (a.partitions n d);
    }

-- demand 3 for a list that begins with the migration
pub migrated-noninterference : MigratedNoninterference
migrated-noninterference o es s t h a =
    record {
      number = own-number s t a.lengths;
      bits = λ n d. own-bit s t a.lengths n (dominates-lower o n d) (a.partitions n d);
      run = noninterference o es (migrated_store s) (migrated_store t) h (alike-migrated o s t a);
    }
