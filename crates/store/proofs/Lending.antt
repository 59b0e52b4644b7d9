-- A store after its subject's own partition was lent and written.
use mathlib.Core.Path.{◌≡◌, sym, ap, ◌∙◌}
use mathlib.Core.List.{List}
use Prim.Native.Nat.{ℕ, ◌+◌, ◌-◌, ◌*◌, ◌<◌}
use native.Mathlib.Omega.{arith}
use lib.ListN.{length, take, drop}
use lib.Dec.{T}
use borrow.Rule.Slice.PartMut.{put_mid}
use Rattle.model.specs.Label.{dominates}
use Rattle.model.specs.Path.{Step}
use Rattle.model.specs.Value.{Content}
use Rattle.model.specs.Element.{Element}
use Rattle.model.specs.Partition.{layout, count, read_partition, well_formed}
use Rattle.model.specs.Store.{partition, replace}
use Rattle.model.specs.Model.{open_model, own_set}
use Rattle.model.proofs.Dominance.{dominates-refl}
use Rattle.partition.specs.Place.{Formed, place_of}
use Rattle.partition.proofs.Layouts.{length-elements}
use Rattle.groups.specs.Vacant as part
use Rattle.store.specs.Opened.{Own, Vacant}
use Rattle.store.proofs.Parts.{part-replaced, held-formed, formed-set, part-lent}

-- the part of a store that is lent for label k
abbrev lent_part : ℕ → List ℕ → List ℕ
lent_part k b = take (1284 * k + 1284 - 1284 * k) (drop (1284 * k) b)

-- the subject's own partition
module _ {b : List ℕ} {s : ℕ} (o : Own b s) where
  pub own-dominated : T (dominates s s)
  own-dominated = dominates-refl s o.label

  pub own-formed : T (well_formed s (partition s b))
  unfolding open_model
  own-formed = rw (← (held-formed s (partition s b))) o.formed

  pub own-set : own_set s (open_model b) ≡ read_partition (partition s b)
  own-set = formed-set s b own-formed

  pub own-part : {x : List ℕ} → x ≡ partition s b → Formed x
  own-part e = record { label = s; is = rw e own-formed }

  module _ {k : ℕ} (i : k ≡ s) where
    own-lent : lent_part k b ≡ partition s b
    own-lent = (part-lent s s b o.size own-dominated i).0

    pub lent-formed : Formed (lent_part k b)
    lent-formed = own-part own-lent

    -- what is lent is well formed for his label
    pub lent-good : T (well_formed s (lent_part k b))
    lent-good = rw own-lent own-formed

    -- what is lent holds the subject's set
    pub lent-set : read_partition (lent_part k b) ≡ own_set s (open_model b)
    lent-set = ap read_partition own-lent ∙ sym own-set

    lent-count : length (own_set s (open_model b)) ≡ count (lent_part k b)
    lent-count = ap length (sym lent-set) ∙ length-elements lent-formed

    -- a place in the set is the place in what is lent, and a slot of the set is used there
    pub lent-place : (p : List Step) {at : ℕ} → at ≡ place_of p (own_set s (open_model b)) → at ≡ place_of p (read_partition (lent_part k b))
    lent-place p e = e ∙ ap (place_of p) (sym lent-set)

    pub lent-used : {at : ℕ} → at < length (own_set s (open_model b)) → at < count (lent_part k b)
    lent-used h = omega (arith, h, lent-count)

    -- the store with a changed set in place of what was lent
    pub own-changed : (f : List Element → List Element) {x : List ℕ} → x ≡ layout (f (read_partition (lent_part k b)))
        → put_mid (1284 * k) (1284 * k + 1284 - 1284 * k) b x ≡ replace s (layout (f (own_set s (open_model b)))) b
    own-changed f {x} g =
        part-replaced s b k o.size o.label i x
        ∙ ap (λ (l : List ℕ). replace s l b) (g ∙ ap (λ (es : List Element). layout (f es)) lent-set)

-- the part that is lent lacks the path too
pub own-vacant : {b : List ℕ} {s : ℕ} {p : List Step} {at n : ℕ} {c : Content} (v : Vacant b s p at n c) {k : ℕ} (i : k ≡ s)
    → part.Vacant (lent_part k b) p at n c
own-vacant {b} {s} {p} v i =
    let q = lent-set v.own i in
    record {
      label = s;
      formed = lent-good v.own i;
      lacking = rw q v.lacking;
      place = lent-place v.own i p v.place;
      content = v.content;
      room = rw q v.room;
    }
