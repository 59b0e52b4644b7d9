-- Noninterference over whole runs (demand 3), for any call that has two laws: its outcome depends only on the partitions that
-- its subject dominates, and it keeps its subject's set valid.
use mathlib.Core.Path.{◌≡◌, refl, sym, ap, ap₂, ◌∙◌, subst}
use mathlib.Core.Logic.{◌⊎◌, inl, inr}
use mathlib.Core.Bool.{not, cond}
use mathlib.Core.Option.{Option, none, some}
use mathlib.Core.List.{List, [], ◌∷◌}
use Prim.Native.Nat.{ℕ}
use lib.ListN.{length}
use lib.Dec.{T, eqb}
use mir.Facts.{eqb_yes, eqb_no, or_yes, or_no, T_not}
use Rattle.model.specs.Lists.{pad}
use Rattle.model.specs.Label.{is_label, dominates}
use Rattle.model.specs.Path.{key}
use Rattle.model.specs.Element.{Element}
use Rattle.model.specs.Partition.{partition_size, layout, read_partition, well_formed}
use Rattle.model.specs.Store.{partition, replace}
use Rattle.model.specs.Model.{held, raw, open_cell, cell_bytes, Model, open_model, with_set}
use Rattle.model.specs.Call.{Call, call_subject, Answer, Outcome, outcome, after}
use Rattle.model.specs.Run.{answer_of, write_set, store_after, Event, call, corruption, corrupted, remains, observed, purge, spares, feed, answers, Unaffected, Noninterference}
use Rattle.model.proofs.Bools.{or_l, and_l, and_r, decide, cond_yes, cond_no}
use Rattle.model.proofs.Lists.{length-pad}
use Rattle.model.proofs.Dominance.{dominates-upper, dominates-trans}
use Rattle.model.proofs.Partitions.{ValidSet, well-formed, yes-well-formed, layout-read, read-layout, layout-well-formed, length-layout}
use Rattle.model.proofs.Stores.{yes-has, length-replace, partition-own, partition-other}
use Rattle.model.proofs.Restriction.{restrict, same-restrict}
use Rattle.model.proofs.Keeps.{ValidSets, open-valid}
use Rattle.model.proofs.Operations.{outcome-restrict, Kept, call-keeps}

-- the two laws of a call. What it keeps: a set that it changes is valid, and it changes one only for a label and on a store of
-- the right size
pub record Lawful (c : Call) : Type 0 where
  pub blind : (m : Model) → outcome c m ≡ outcome c (restrict (call_subject c) m)
  pub keeps : (m : Model) (es : List Element) → ValidSets m → (outcome c m).change ≡ some es → Kept (call_subject c) m es

-- ---- cells

-- a cell gives back the bytes that it was opened on
pub open-bytes : (n : ℕ) (x : List ℕ) → cell_bytes (open_cell n x) ≡ x
unfolding open_cell cell_bytes
open-bytes n x =
    decide (well_formed n x)
    (λ (t : T (well_formed n x)).
    ap cell_bytes (cond_yes (well_formed n x) (held (read_partition x)) (raw x) t) ∙ layout-read key n x (well-formed key n x t))
    (λ (t : T (not (well_formed n x))). ap cell_bytes (cond_no (well_formed n x) (held (read_partition x)) (raw x) t))

-- a valid set laid out opens as the set
pub open-layout : (n : ℕ) (es : List Element) → ValidSet key n es → open_cell n (layout es) ≡ held es
unfolding open_cell
open-layout n es f =
    cond_yes (well_formed n (layout es)) (held (read_partition (layout es))) (raw (layout es)) (yes-well-formed key n (layout es) (layout-well-formed key n es f))
    ∙ ap held (read-layout key n es f)

-- ---- no call changes another partition, nor the length

pub others-stay : (c : Call) (s : List ℕ) (n : ℕ) → (n ≡ call_subject c → ⊥) → partition n (store_after c s) ≡ partition n s
unfolding store_after
others-stay c s n d = go (outcome c (open_model s)).change
  where
    go : (ch : Option (List Element)) → partition n (write_set (call_subject c) ch s) ≡ partition n s
    go none = refl
    go (some es) = partition-other n (call_subject c) (layout es) s d (length-layout es)

pub length-stays : (c : Call) (s : List ℕ) → length (store_after c s) ≡ length s
unfolding store_after
length-stays c s = go (outcome c (open_model s)).change
  where
    go : (ch : Option (List Element)) → length (write_set (call_subject c) ch s) ≡ length s
    go none = refl
    go (some es) = length-replace (call_subject c) (layout es) s (length-layout es)

-- ---- the store s and the model m agree for the observer o

pub record Agree (o : ℕ) (s : List ℕ) (m : Model) : Type 0 where
  pub sizes : length s ≡ m.size
  pub cells : (n : ℕ) → T (dominates o n) → open_cell n (partition n s) ≡ m.cell n

-- a call whose subject is no label remains for every observer
pub no-label-remains : (o : ℕ) (c : Call) → T (not (is_label (call_subject c))) → T (remains o c)
unfolding remains
no-label-remains o c t = or_l (not (is_label (call_subject c))) (dominates o (call_subject c)) t

-- a call that remains reads only partitions that the observer dominates
remains-below : (o n : ℕ) (c : Call) → T (remains o c) → T (dominates (call_subject c) n) → T (dominates o n)
unfolding remains
remains-below o n c r t = over (or_yes (not (is_label (call_subject c))) (dominates o (call_subject c)) r)
  where
    over : T (not (is_label (call_subject c))) ⊎ T (dominates o (call_subject c)) → T (dominates o n)
    over (inl k) = absurd (T_not (is_label (call_subject c)) (dominates-upper (call_subject c) n t) k)
    over (inr k) = dominates-trans o (call_subject c) n k t

-- agreement is kept by what leaves the observer's partitions alone
agree_same : (o : ℕ) (s t : List ℕ) (m : Model) → length t ≡ length s → ((n : ℕ) → T (dominates o n) → partition n t ≡ partition n s)
    → Agree o s m → Agree o t m
agree_same o s t m e h g = record { sizes = e ∙ g.sizes; cells = λ n d. ap (open_cell n) (h n d) ∙ g.cells n d }

-- a partition that the observer does not dominate is none of his
others : (o m n : ℕ) → T (not (dominates o n)) → T (dominates o m) → m ≡ n → ⊥
others o m n t d e = T_not (dominates o n) (rw e at d) t

agree-hidden : (o : ℕ) (c : Call) (s : List ℕ) (m : Model) → T (not (remains o c)) → Agree o s m → Agree o (store_after c s) m
unfolding remains
agree-hidden o c s m r g =
    agree_same o s (store_after c s) m (length-stays c s)
    (λ n d. others-stay c s n (others o n (call_subject c) (or_no (not (is_label (call_subject c))) (dominates o (call_subject c)) r).1 d)) g

agree-corrupted : (o n : ℕ) (x s : List ℕ) (m : Model) → T (not (dominates o n)) → Agree o s m → Agree o (corrupted n x s) m
unfolding corrupted
agree-corrupted o n x s m t g =
    agree_same o s (replace n (pad partition_size x) s) m (length-replace n (pad partition_size x) s (length-pad partition_size x))
    (λ k d. partition-other k n (pad partition_size x) s (others o k n t d) (length-pad partition_size x)) g

-- a set written to the store and to the model
module _ (o n : ℕ) (s : List ℕ) (m : Model) (es : List Element) (g : Agree o s m) (k : Kept n (open_model s) es) where
  written-own : open_cell n (partition n (replace n (layout es) s)) ≡ held es
  unfolding open_model
  written-own =
      ap (open_cell n) (partition-own n (layout es) s (yes-has n s k.size k.label) (length-layout es)) ∙ open-layout n es k.valid

  written-cells : (j : ℕ) → T (dominates o j) → open_cell j (partition j (replace n (layout es) s)) ≡ cond (eqb j n) (held es) (m.cell j)
  written-cells j d =
      decide (eqb j n)
      (λ (t : T (eqb j n)).
      ap (λ (i : ℕ). open_cell i (partition i (replace n (layout es) s))) (eqb_yes t)
      ∙ written-own
      ∙ sym (cond_yes (eqb j n) (held es) (m.cell j) t))
      (λ (t : T (not (eqb j n))).
      ap (open_cell j) (partition-other j n (layout es) s (eqb_no t) (length-layout es))
      ∙ g.cells j d
      ∙ sym (cond_no (eqb j n) (held es) (m.cell j) t))

  agree-written : Agree o (replace n (layout es) s) (with_set n (some es) m)
  agree-written = record { sizes = length-replace n (layout es) s (length-layout es) ∙ g.sizes; cells = written-cells }

-- ---- whole runs

module _ (lawful : (c : Call) → Lawful c) where
  pub same_outcome : (o : ℕ) (c : Call) (s : List ℕ) (m : Model) → T (remains o c) → Agree o s m → outcome c (open_model s) ≡ outcome c m
  unfolding open_model
  same_outcome o c s m r g =
      (lawful c).blind (open_model s)
      ∙ ap (outcome c) (same-restrict (call_subject c) (open_model s) m g.sizes (λ n t. g.cells n (remains-below o n c r t)))
      ∙ sym ((lawful c).blind m)

  pub agree-seen : (o : ℕ) (c : Call) (s : List ℕ) (m : Model) → T (remains o c) → Agree o s m → Agree o (store_after c s) (after c m)
  unfolding store_after after
  agree-seen o c s m r g =
      subst (λ ch. Agree o (store_after c s) (with_set (call_subject c) ch m)) (ap (λ (x : Outcome). x.change) (same_outcome o c s m r g))
      (go (outcome c (open_model s)).change refl)
    where
      go : (ch : Option (List Element)) → (outcome c (open_model s)).change ≡ ch → Agree o (write_set (call_subject c) ch s) (with_set (call_subject c) ch m)
      go none e = record { sizes = g.sizes; cells = g.cells }
      go (some es) e = agree-written o (call_subject c) s m es g ((lawful c).keeps (open_model s) es (open-valid s) e)

  module _ (o : ℕ) (c : Call) (es : List Event) (s : List ℕ) (m : Model) where
    -- a call that remains stands first in what is told and in what is fed
    kept-first : T (remains o c) → outcome c (open_model s) ≡ outcome c m → Unaffected o es (store_after c s) (after c m) → Unaffected o (call c ∷ es) s m
    unfolding answer_of
    kept-first k e r =
        let q : purge o (call c ∷ es) ≡ c ∷ purge o es = cond_yes (remains o c) (c ∷ purge o es) (purge o es) k in
        record {
          told =
              cond_yes (remains o c) (answer_of c s ∷ observed o es (store_after c s)) (observed o es (store_after c s)) k
              ∙ ap₂ (λ (a : Answer) (l : List Answer). a ∷ l) (ap (λ (x : Outcome). x.answer) e) r.told
              ∙ sym (ap (λ cs. answers cs m) q);
          left = λ n d. r.left n d ∙ sym (ap (λ cs. cell_bytes ((feed cs m).cell n)) q);
        }

    purged-first : T (not (remains o c)) → Unaffected o es (store_after c s) m → Unaffected o (call c ∷ es) s m
    purged-first k r =
        let q : purge o (call c ∷ es) ≡ purge o es = cond_no (remains o c) (c ∷ purge o es) (purge o es) k in
        record {
          told =
              cond_no (remains o c) (answer_of c s ∷ observed o es (store_after c s)) (observed o es (store_after c s)) k
              ∙ r.told
              ∙ sym (ap (λ cs. answers cs m) q);
          left = λ n d. r.left n d ∙ sym (ap (λ cs. cell_bytes ((feed cs m).cell n)) q);
        }

  pub runs-agree : (o : ℕ) (es : List Event) (s : List ℕ) (m : Model) → T (spares o es) → Agree o s m → Unaffected o es s m
  runs-agree o [] s m t g =
      record { told = refl; left = λ n d. sym (open-bytes n (partition n s)) ∙ ap cell_bytes (g.cells n d) }
  runs-agree o (corruption n x ∷ es) s m t g =
      let r : Unaffected o es (corrupted n x s) m =
      runs-agree o es (corrupted n x s) m (and_r (not (dominates o n)) (spares o es) t)
      (agree-corrupted o n x s m (and_l (not (dominates o n)) (spares o es) t) g) in
      record { told = r.told; left = r.left }
  runs-agree o (call c ∷ es) s m t g =
      decide (remains o c)
      (λ (k : T (remains o c)).
      kept-first o c es s m k (same_outcome o c s m k g) (runs-agree o es (store_after c s) (after c m) t (agree-seen o c s m k g)))
      (λ (k : T (not (remains o c))). purged-first o c es s m k (runs-agree o es (store_after c s) m t (agree-hidden o c s m k g)))

  pub lawful-noninterference : Noninterference
  unfolding open_model
  lawful-noninterference o es s u t a =
      runs-agree o es s (open_model u) t (record { sizes = a.lengths; cells = λ n d. ap (open_cell n) (a.partitions n d) })

-- ---- the calls have the two laws

pub call-lawful : (c : Call) → Lawful c
call-lawful c = record { blind = outcome-restrict c; keeps = call-keeps c }

-- demand 3
pub noninterference : Noninterference
noninterference = lawful-noninterference call-lawful

-- every call keeps each well-formed partition of the store well formed
pub stays-well-formed : (c : Call) (s : List ℕ) (n : ℕ) → T (well_formed n (partition n s)) → T (well_formed n (partition n (store_after c s)))
unfolding store_after open_model
stays-well-formed c s n w =
    decide (eqb n (call_subject c))
    (λ (t : T (eqb n (call_subject c))). go (outcome c (open_model s)).change refl (eqb_yes t))
    (λ (t : T (not (eqb n (call_subject c)))). rw (others-stay c s n (eqb_no t)) w)
  where
    go : (ch : Option (List Element)) → (outcome c (open_model s)).change ≡ ch → n ≡ call_subject c
        → T (well_formed n (partition n (write_set (call_subject c) ch s)))
    go none e q = w
    go (some es) e q =
        let k : Kept (call_subject c) (open_model s) es = call-keeps c (open_model s) es (open-valid s) e in
        rw (q, partition-own (call_subject c) (layout es) s (yes-has (call_subject c) s k.size k.label) (length-layout es))
        (yes-well-formed key (call_subject c) (layout es) (layout-well-formed key (call_subject c) es k.valid))
