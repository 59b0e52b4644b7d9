-- A store after calls opens as the model that it opened as does after them. The empty store, all zero, opens as the model of empty
-- sets; so what calls give on that model they give on the bytes.
use mathlib.Core.Path.{◌≡◌, refl, sym, ap, ◌∙◌}
use mathlib.Core.Bool.{Bool, true, false, not, cond, ◌&&◌}
use mathlib.Core.List.{List, [], ◌∷◌, map}
use Prim.Native.Nat.{ℕ, ◌-◌, ◌+◌, ◌<◌}
use native.Mathlib.Omega.{arith}
use lib.ListN.{length, take, drop, length-replicate}
use lib.Dec.{T, eqb}
use Rattle.model.specs.Lists.{pad}
use Rattle.model.specs.Label.{is_label, dominates}
use Rattle.model.specs.Partition.{partition_size, layout, well_formed_by}
use Rattle.model.specs.Store.{store_size, partition_start, has_partition, partition, empty_store}
use Rattle.model.specs.Model.{held, raw, elements, open_cell, Model, open_model, own_set}
use Rattle.model.specs.View.{visible}
use Rattle.model.specs.Call.{Call, call_subject, after}
use Rattle.model.specs.Run.{store_after, call, run, remains, feed}
use Rattle.model.proofs.Bools.{or_r, decide, cond_yes, cond_no}
use Rattle.model.proofs.Lists.{take-replicate, drop-replicate}
use Rattle.model.proofs.Dominance.{label-lt, dominates-lower, top-label}
use Rattle.model.proofs.Stores.{yes-has, partition-part}
use Rattle.model.proofs.Restriction.{same-visible}
use Rattle.model.proofs.Keeps.{empty-valid}
use Rattle.model.proofs.Noninterference.{no-label-remains, open-layout, Agree, agree-seen, call-lawful}

-- an empty set for each label
unfoldable pub empty_model : Model
empty_model = record { size = store_size; cell = λ n. cond (is_label n) (held []) (raw []) }

pub length-empty : length empty_store ≡ store_size
unfolding empty_store
length-empty = length-replicate {A = ℕ} store_size 0

-- each partition is the layout of the empty set
empty-partition : (n : ℕ) → T (is_label n) → partition n empty_store ≡ layout []
unfolding empty_store layout pad
empty-partition n t =
    let h : n < 32 = label-lt n t in
    let w : partition_start n + partition_size - partition_start n ≡ partition_size = omega arith in
    partition-part n empty_store (yes-has n empty_store length-empty t)
    ∙ ap (λ (k : ℕ). take k (drop (partition_start n) empty_store)) w
    ∙ ap (take partition_size) (drop-replicate (partition_start n) store_size)
    ∙ take-replicate partition_size (store_size - partition_start n) (omega arith)

no-partition : (n : ℕ) → T (not (is_label n)) → partition n empty_store ≡ []
unfolding partition has_partition
no-partition n t =
    cond_no (has_partition n empty_store) _ [] (lacks (eqb (length empty_store) store_size) (is_label n) t)
  where
    lacks : (a b : Bool) → T (not b) → T (not (a && b))
    lacks true b h = h
    lacks false b h = tt

-- the empty store opens as the empty model
pub open-empty : open_model empty_store ≡ empty_model
unfolding open_model empty_model open_cell well_formed_by
open-empty = λ i. record { size = length-empty i; cell = λ n. one n i }
  where
    one : (n : ℕ) → open_cell n (partition n empty_store) ≡ cond (is_label n) (held []) (raw [])
    one n =
        decide (is_label n)
        (λ (t : T (is_label n)).
        ap (open_cell n) (empty-partition n t) ∙ open-layout n [] (empty-valid n) ∙ sym (cond_yes (is_label n) (held []) (raw []) t))
        (λ (t : T (not (is_label n))).
        ap (open_cell n) (no-partition n t) ∙ sym (cond_no (is_label n) (held []) (raw []) t))

-- ---- calls on a store and on the model that it opens as, and calls from the empty store

-- the observer 31 is told of every call
pub all-remain : (c : Call) → T (remains 31 c)
unfolding remains
all-remain c =
    decide (is_label (call_subject c))
    (λ (t : T (is_label (call_subject c))). or_r (not (is_label (call_subject c))) (dominates 31 (call_subject c)) (top-label (call_subject c) t))
    (λ (t : T (not (is_label (call_subject c)))). no-label-remains 31 c t)

pub agree-open : (o : ℕ) (s : List ℕ) → Agree o s (open_model s)
unfolding open_model
agree-open o s = record { sizes = refl; cells = λ n d. refl }

-- so the store after a call opens with the sets of the model after it
pub opens-after : (c : Call) (s : List ℕ) (n : ℕ) → T (is_label n) → own_set n (open_model (store_after c s)) ≡ own_set n (after c (open_model s))
unfolding own_set open_model
opens-after c s n t = ap elements ((agree-seen call-lawful 31 c s (open_model s) (all-remain c) (agree-open 31 s)).cells n (top-label n t))

-- it shows what that model shows
pub shows-after : (c : Call) (s : List ℕ) (n : ℕ) → visible n (open_model (store_after c s)) ≡ visible n (after c (open_model s))
shows-after c s n = same-visible n (open_model (store_after c s)) (after c (open_model s)) (λ k d. opens-after c s k (dominates-lower n k d))

-- a store and a model that agree for him still do after any calls
pub agree-calls : (cs : List Call) (s : List ℕ) (m : Model) → Agree 31 s m → Agree 31 (run (map call cs) s) (feed cs m)
agree-calls [] s m g = g
agree-calls (c ∷ cs) s m g = agree-calls cs (store_after c s) (after c m) (agree-seen call-lawful 31 c s m (all-remain c) g)

pub agree-empty : (cs : List Call) → Agree 31 (run (map call cs) empty_store) (feed cs empty_model)
agree-empty cs = agree-calls cs empty_store empty_model (rw (← open-empty) (agree-open 31 empty_store))
