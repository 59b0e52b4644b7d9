-- What comes first is put into a partition: a group, and the partition lacks the path from the next step on; at last the element.
use mathlib.Core.Path.{◌≡◌, refl, sym, ap, subst, ◌∙◌}
use mathlib.Core.List.{List, []}
use Prim.Native.Nat.{ℕ, suc, ◌+◌, ◌-◌, ◌*◌, ◌/◌, ◌≤◌, ◌<◌}
use native.Mathlib.Omega.{arith}
use lib.ListN.{length, take}
use lib.Seq.{length-take-le, take_all}
use lib.Dec.{T}
use Rattle.model.specs.Sets.{put}
use Rattle.model.specs.Path.{Step, steps_of, key}
use Rattle.model.specs.Value.{Content}
use Rattle.model.specs.Element.{Element, rank}
use Rattle.model.specs.Partition.{partition_size, layout, read_partition}
use Rattle.model.specs.Intake.{with_all}
use Rattle.model.specs.Groups.{with_groups}
use Rattle.model.specs.Call.{added}
use Rattle.model.proofs.Order.{length-put}
use Rattle.model.proofs.Paths.{prefix-first, key-keyed}
use Rattle.model.proofs.Prefixes.{prefix-take}
use Rattle.model.proofs.Partitions.{ValidSet, well-formed, yes-well-formed, read-valid, read-layout, layout-well-formed}
use Rattle.model.proofs.Sets.{fresh, put-valid}
use Rattle.model.proofs.Taking.{Comes}
use Rattle.model.proofs.Groups.{steps_first, groups-last, groups-next, group-storable, lacking-comes, lacking-next}
use Rattle.path.specs.Common.{is_before}
use Rattle.path.proofs.Steps.{length-steps}
use Rattle.partition.specs.Place.{Formed, place_of, Room}
use Rattle.partition.proofs.Layouts.{length-elements}
use Rattle.partition.proofs.Finding.{facts}
use Rattle.partition.proofs.Placing.{place-within}
use Rattle.groups.specs.Vacant.{Vacant}
use Rattle.groups.proofs.Places.{place_same, place-next}

-- a group's content
abbrev pub group_content : Content
group_content = record { kind = 0; value = [] }

-- the first k + 1 steps of a lent path
pub first-steps : (path : List ℕ) (k : ℕ) → steps_of (take (3 * k + 3) path) ≡ take (suc k) (steps_of path)
first-steps path k =
    let n : 3 * k + 3 ≡ 3 * suc k = omega arith in
    steps_first (suc k) path n

module _ {x : List ℕ} {p : List Step} {slot k : ℕ} {c : Content} (v : Vacant x p slot k c) where
  abbrev es : List Element
  es = read_partition x

  -- the group at the first k + 1 steps
  abbrev group : Element
  group = record { path = take (suc k) p; content = group_content }

  formed : Formed x
  formed = record { label = v.label; is = v.formed }

  -- it may come
  comes : Comes v.label es group
  comes = lacking-comes v.lacking group_content group-storable

  -- these steps have the path's place
  same_place : place_of (take (suc k) p) es ≡ place_of p es
  same_place = place_same (take (suc k) p) p es (prefix-take (suc k) p) v.lacking.bare

  -- the partition has room for what comes first
  pub first-room : Room x slot (take (suc k) p)
  first-room =
      record {
        formed = formed;
        free = omega (arith, v.room, v.lacking.short, length-elements formed);
        place = v.place ∙ sym same_place;
        lacks = comes.lacks;
      }

  -- the set with the group is valid
  more-valid : ValidSet key v.label (put rank group es)
  more-valid =
      put-valid group es comes.lacks v.label (read-valid key v.label x (well-formed key v.label x v.formed)) comes.valid
      (omega (arith, v.room, v.lacking.short)) comes.closes

  module _ {x' : List ℕ} (e : x' ≡ layout (added (take (suc k) p) group_content es)) where
    -- the partition then holds it
    back : read_partition x' ≡ put rank group es
    unfolding added
    back = ap read_partition e ∙ read-layout key v.label (put rank group es) more-valid

    module _ (more : suc k < length p) where
      -- a prefix that is not the path comes before it
      before-path : T (is_before (take (suc k) p) p)
      before-path =
          prefix-first key key-keyed (take (suc k) p) p (prefix-take (suc k) p)
          (λ q. let n : length (take (suc k) p) ≡ suc k = length-take-le (suc k) p (omega arith) in
          let m : length (take (suc k) p) ≡ length p = ap length q in
          absurd (omega arith))

      -- it lacks the path from the next step on
      pub next-vacant : Vacant x' p (slot + 1) (k + 1) c
      unfolding added
      next-vacant =
          let one : k + 1 ≡ suc k = omega arith in
          let longer : length (put rank group es) ≡ suc (length es) = length-put rank group es (fresh group es comes.lacks) in
          record {
            label = v.label;
            formed = rw e (yes-well-formed key v.label (layout (put rank group es)) (layout-well-formed key v.label (put rank group es) more-valid));
            lacking = rw (back, one) (lacking-next v.lacking more group_content group-storable);
            place = rw back (omega (arith, v.place, place-next p group es before-path comes.lacks same_place));
            content = v.content;
            room = rw back (omega (arith, v.room));
          }

      -- and comes to hold the same
      pub next-goal : with_all (with_groups (k + 1) p c) (read_partition x') ≡ with_all (with_groups k p c) es
      next-goal =
          let one : k + 1 ≡ suc k = omega arith in
          rw (back, one) (sym (ap (λ (xs : List Element). with_all xs es) (groups-next k p c more)))

  -- at the last step what comes first is the element
  module _ (last : length p ≤ suc k) where
    whole : take (suc k) p ≡ p
    whole = take_all (suc k) p last

    pub last-room : Room x slot p
    last-room = subst (λ (q : List Step). Room x slot q) whole first-room

    pub last-goal : {x' : List ℕ} → x' ≡ layout (added p c es) → x' ≡ layout (with_all (with_groups k p c) es)
    unfolding added
    last-goal e = e ∙ ap (λ (xs : List Element). layout (with_all xs es)) (sym (groups-last k p c last))

-- ---- in a loop

-- a partition comes to hold the elements of goal with what is missing behind the first k steps, from a slot on
pub record Going (goal : List Element) (x : List ℕ) (p : List Step) (slot k : ℕ) (c : Content) : Type 0 where
  pub vacant : Vacant x p slot k c
  pub reaches : with_all (with_groups k p c) (read_partition x) ≡ goal

-- it is a partition
pub vacant-size : {x : List ℕ} {p : List Step} {slot k : ℕ} {c : Content} → Vacant x p slot k c → length x ≡ partition_size
vacant-size v = (facts (formed v)).size

-- so it does at first
pub going_start : {x : List ℕ} {p : List Step} {slot k : ℕ} {c : Content} → Vacant x p slot k c → Going (with_all (with_groups k p c) (read_partition x)) x p slot k c
going_start v = record { vacant = v; reaches = refl }

module _ (path : List ℕ) {goal : List Element} {x : List ℕ} {slot k : ℕ} {c : Content} (g : Going goal x (steps_of path) slot k c) where
  -- what is behind the steps that are there
  pub going-short : k < length path / 3
  going-short = omega (arith, g.vacant.lacking.short, length-steps path)

  -- a slot is free
  pub going-slot : slot < 32
  going-slot = omega (arith, g.vacant.place, place-within (steps_of path) (read_partition x), g.vacant.room, g.vacant.lacking.short)

  -- a group comes at the first k + 1 steps
  pub going-room : Room x slot (steps_of (take (3 * k + 3) path))
  going-room = rw (first-steps path k) (first-room g.vacant)

  pub going_next : k < length path / 3 - 1 → {x' : List ℕ} → x' ≡ layout (added (steps_of (take (3 * k + 3) path)) group_content (read_partition x))
      → Going goal x' (steps_of path) (slot + 1) (k + 1) c
  going_next h e =
      let more : suc k < length (steps_of path) = omega (arith, length-steps path) in
      let put = rw (first-steps path k) at e in
      record { vacant = next-vacant g.vacant put more; reaches = next-goal g.vacant put more ∙ g.reaches }

  -- at last the element
  module _ (h : length path / 3 - 1 ≤ k) where
    going-last : length (steps_of path) ≤ suc k
    going-last = omega (arith, length-steps path)

    pub end-room : Room x slot (steps_of path)
    end-room = last-room g.vacant going-last

    pub end-goal : {x' : List ℕ} → x' ≡ layout (added (steps_of path) c (read_partition x)) → x' ≡ layout goal
    end-goal e = last-goal g.vacant going-last e ∙ ap layout g.reaches
