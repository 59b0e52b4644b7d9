-- The first steps of a path, and a step written behind them.
use mathlib.Core.Path.{◌≡◌, refl, sym, ap, ◌∙◌}
use mathlib.Core.List.{List, [], ◌∷◌, ◌++◌}
use Prim.Native.Nat.{ℕ, zero, suc, ◌+◌, ◌-◌, ◌*◌, ◌/◌, ◌≤◌}
use native.Mathlib.Numerals.{add-one}
use native.Mathlib.Omega.{arith}
use lib.ListN.{length, take}
use lib.Seq.{length-take-le}
use lib.Dec.{T}
use Rattle.model.specs.Path.{Step, is_prefix, steps_of}
use Rattle.model.specs.Value.{Content}
use Rattle.model.specs.Partition.{layout, read_partition}
use Rattle.model.specs.Call.{added}
use Rattle.model.proofs.Paths.{step-ranges}
use Rattle.model.proofs.Prefixes.{prefix-take, prefix-whole, prefix-of-longer}
use Rattle.partition.specs.Place.{place_of, Room}
use Rattle.path.specs.Steps.{put_step}
use Rattle.path.proofs.Steps.{length-steps}
use Rattle.path.proofs.Buffers.{length-put, steps-put}
use Rattle.intake.specs.Putting.{above}
use Rattle.intake.specs.Progress.{Below, Stepped}

-- ---- the first steps

-- the first steps of a buffer are those of its first bytes
above-take : (n : ℕ) (b : List ℕ) → above n b ≡ take n (steps_of b)
above-take zero b = refl
above-take (suc n) [] = let e : 3 * suc n ≡ suc (suc (suc (3 * n))) = omega arith in rw e
above-take (suc n) (x ∷ []) = let e : 3 * suc n ≡ suc (suc (suc (3 * n))) = omega arith in rw e
above-take (suc n) (x ∷ y ∷ []) = let e : 3 * suc n ≡ suc (suc (suc (3 * n))) = omega arith in rw e
above-take (suc n) (x ∷ y ∷ z ∷ b) =
    let e : 3 * suc n ≡ suc (suc (suc (3 * n))) = omega arith in
    rw e (ap (λ (p : List Step). record { name = x + 256 * y; label = z } ∷ p) (above-take n b))

-- so many, if the buffer has them
pub length_above : (n : ℕ) (b : List ℕ) → 3 * n ≤ length b → length (above n b) ≡ n
length_above n b h =
    let k : length (take (3 * n) b) ≡ 3 * n = length-take-le (3 * n) b h in
    let m : length (above n b) ≡ length (take (3 * n) b) / 3 = length-steps (take (3 * n) b) in
    omega arith

-- the whole buffer begins with them
pub above-front : (n : ℕ) (b : List ℕ) → T (is_prefix (above n b) (steps_of b))
above-front n b = rw (above-take n b) (prefix-take n (steps_of b))

-- the steps with which it begins are its first
pub front_above : (r : List Step) (b : List ℕ) → 3 * length r ≤ length b → T (is_prefix r (steps_of b)) → above (length r) b ≡ r
front_above r b h t =
    let k : length (above (length r) b) ≡ length r = length_above (length r) b h in
    sym (prefix-whole r (above (length r) b) (prefix-of-longer r (above (length r) b) (steps_of b) t (above-front (length r) b) (omega arith)) (omega arith))

-- ---- a step written

module _ {x path : List ℕ} {n : ℕ} {a : Step} (b : Below x path n a) where
  -- there is room for its bytes, and they hold it
  pub below-fits : (3 * n + 3 ≤ length path) × ((a.name ≤ 65535) × (a.label ≤ 255))
  below-fits =
      let s = step-ranges a b.step in
      (omega (arith, b.size, b.shallow), (s.1, omega (arith, s.2)))

  module _ {path' : List ℕ} (w : path' ≡ put_step path n a.name a.label) where
    -- it is written
    pub below-stepped : Stepped path n a path'
    below-stepped =
        record {
          size = ap length w ∙ length-put path n a.name a.label;
          steps = ap (λ (k : ℕ). above k path') (sym (add-one n)) ∙ ap (λ (l : List ℕ). above (n + 1) l) w ∙ steps-put path n a.name a.label below-fits.0;
        }

    -- the bytes up to it
    lent-steps : steps_of (take (3 * n + 3 - 0) path') ≡ above n path ++ (a ∷ [])
    lent-steps = let k : 3 * n + 3 - 0 ≡ 3 * suc n = omega arith in ap (λ (m : ℕ). steps_of (take m path')) k ∙ below-stepped.steps

    -- are within the buffer
    pub lent-short : length (take (3 * n + 3 - 0) path') ≤ 20
    lent-short =
        let s : length path' ≡ 18 = below-stepped.size ∙ b.size in
        omega (arith, length-take-le (3 * n + 3 - 0) path' (omega (arith, b.shallow)), b.shallow)

    -- there is room for the element
    pub lent-room : Room x (place_of (steps_of (take (3 * n + 3 - 0) path')) (read_partition x)) (steps_of (take (3 * n + 3 - 0) path'))
    lent-room = rw lent-steps b.room

    -- the partition with it
    pub lent-put : {x' : List ℕ} (c : Content) → x' ≡ layout (added (steps_of (take (3 * n + 3 - 0) path')) c (read_partition x))
        → x' ≡ layout (added (above n path ++ (a ∷ [])) c (read_partition x))
    lent-put c e = e ∙ ap (λ (p : List Step). layout (added p c (read_partition x))) lent-steps
