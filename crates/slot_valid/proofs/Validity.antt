-- A slot's validity part by part: its path, its content, the whole.
use mathlib.Core.Path.{◌≡◌, refl, sym, ap, ap₂, ◌∙◌}
use mathlib.Core.Bool.{Bool, true, false, not, ◌&&◌, and_assoc, and_comm}
use mathlib.Core.List.{List}
use Prim.Native.Nat.{ℕ, ◌+◌, ◌-◌, ◌≤◌, ◌<◌, min}
use native.Mathlib.Omega.{arith}
use borrow.Author.Tests.{le-leb, lt-leb}
use lib.ListN.{length, drop, get_or, length-take, length-drop}
use lib.Dec.{T, eqb, leb}
use Rattle.model.specs.Lists.{range, all_zero, between}
use Rattle.model.specs.Path.{ends_in, valid_path}
use Rattle.model.specs.Value.{allowed, storable}
use Rattle.model.specs.Element.{valid_element}
use Rattle.model.specs.Slot.{value_at, spare_at, slot_size, depth, step_at, value_length, read_path, read_content, read_slot, unused_zero}
use Rattle.model.proofs.Bools.{and_l, crossed, decide, is_true, is_false}
use Rattle.model.proofs.Slots.{allowed-length}
use Rattle.path.specs.Steps.{all_follow}
use Rattle.path.proofs.Steps.{follow-all, ends-range}
use Rattle.slot.proofs.Reading.{length-path}
use Rattle.slot_valid.specs.Valid.{valid_slot, steps_zero, rest_zero}

-- ---- the path

-- a path's validity, by its length, its steps and its last label, and the places behind the steps
abbrev pub path_valid : ℕ → List ℕ → Bool
path_valid n b = (valid_path (read_path b) && ends_in n (read_path b)) && steps_zero b

module _ (b : List ℕ) (n : ℕ) {d : ℕ} (e : (d ≡ depth b) × (d < 256)) where
  same_length : length (read_path b) ≡ d
  same_length = length-path b ∙ sym e.0

  pub path-none : d < 1 → false ≡ path_valid n b
  unfolding valid_path
  path-none h = let k : length (read_path b) < 1 = rw same_length h in rw (lt-leb 1 (length (read_path b)) k)

  module _ (some : 1 ≤ d) where
    first : leb 1 (length (read_path b)) ≡ true
    first = le-leb 1 (length (read_path b)) (rw same_length some)

    pub path-long : 6 < d → false ≡ path_valid n b
    unfolding valid_path
    path-long h = let k : 6 < length (read_path b) = rw same_length h in rw (first, lt-leb (length (read_path b)) 6 k)

    module _ (few : d ≤ 6) {r : Bool} (f : r ≡ (all_follow 0 (read_path b) && steps_zero b)) where
      by-steps : path_valid n b ≡ (r && ends_in n (read_path b))
      unfolding valid_path
      by-steps =
          let k : length (read_path b) ≤ 6 = rw same_length few in
          rw (first, le-leb (length (read_path b)) 6 k)
          (ap (λ (t : Bool). (t && ends_in n (read_path b)) && steps_zero b) (follow-all (read_path b))
          ∙ last-two (all_follow 0 (read_path b)) (ends_in n (read_path b)) (steps_zero b)
          ∙ ap (λ (t : Bool). t && ends_in n (read_path b)) (sym f))
        where
          last-two : (x y z : Bool) → ((x && y) && z) ≡ ((x && z) && y)
          last-two true y z = and_comm y z
          last-two false y z = refl

      pub path-unfit : r ≡ false → false ≡ path_valid n b
      path-unfit t = sym (by-steps ∙ ap (λ (x : Bool). x && ends_in n (read_path b)) t)

      pub path-ends : r ≡ true → {l : ℕ} → l ≡ (step_at b (d - 1)).label → eqb l n ≡ path_valid n b
      unfolding read_path
      path-ends t g =
          sym
          (by-steps
          ∙ ap (λ (x : Bool). x && ends_in n (read_path b)) t
          ∙ ap (λ (c : ℕ). ends_in n (range (step_at b) 0 c)) (sym e.0)
          ∙ ends-range (step_at b) d n some g)

-- ---- the content

module _ (b : List ℕ) (size : length b ≡ slot_size) {n : ℕ} (e : (n ≡ value_length b) × (n < 256)) where
  -- a length byte over 16 would be read as a longer value than any kind allows
  pub value-long : 16 < n → false ≡ storable (read_content b)
  unfolding storable read_content
  value-long h =
      decide (allowed (get_or b 19 0) (between value_at (value_at + value_length b) b))
      (λ (t : T (allowed (get_or b 19 0) (between value_at (value_at + value_length b) b))).
      let k : length (between value_at (value_at + value_length b) b) ≤ 16 = allowed-length _ _ t in
      let d : length (drop value_at b) ≡ 19 = length-drop value_at b ∙ ap (λ (m : ℕ). m - value_at) size in
      let l : length (between value_at (value_at + value_length b) b) ≡ min (value_at + value_length b - value_at) (length (drop value_at b)) = length-take _ (drop value_at b) in
      absurd (omega (arith, e.0)))
      (λ (t : T (not (allowed (get_or b 19 0) (between value_at (value_at + value_length b) b)))). sym (is_false _ t))

  -- else the kind decides
  pub value-short : {k : ℕ} {r : Bool} → k ≡ (read_content b).kind → r ≡ allowed k (between value_at (value_at + n) b) → r ≡ storable (read_content b)
  unfolding storable read_content
  value-short f g = g ∙ ap₂ (λ (x y : ℕ). allowed x (between value_at (value_at + y) b)) f e.0

-- ---- the whole slot

module _ (n : ℕ) (b : List ℕ) {r : Bool} (f : r ≡ path_valid n b) where
  whole : valid_slot n b ≡ ((r && storable (read_content b)) && rest_zero b)
  unfolding valid_slot valid_element read_slot unused_zero steps_zero rest_zero
  whole =
      let u : unused_zero b ≡ (steps_zero b && rest_zero b) = and_assoc (steps_zero b) (all_zero (between (value_at + value_length b) spare_at b)) (all_zero (between spare_at slot_size b)) in
      rw u
      (crossed (valid_path (read_path b) && ends_in n (read_path b)) (storable (read_content b)) (steps_zero b) (rest_zero b)
      ∙ sym (and_assoc (path_valid n b) (storable (read_content b)) (rest_zero b))
      ∙ ap (λ (t : Bool). (t && storable (read_content b)) && rest_zero b) (sym f))

  pub no-path : r ≡ false → false ≡ valid_slot n b
  no-path t = sym (whole ∙ ap (λ (x : Bool). (x && storable (read_content b)) && rest_zero b) t)

  pub path-good : r ≡ true → true ≡ (valid_path (read_path b) && ends_in n (read_path b))
  path-good t =
      let y : T (path_valid n b) = rw (sym f ∙ t) tt in
      sym (is_true _ (and_l (valid_path (read_path b) && ends_in n (read_path b)) (steps_zero b) y))

  module _ (yes : r ≡ true) {q : Bool} (g : q ≡ storable (read_content b)) where
    then : valid_slot n b ≡ (q && rest_zero b)
    then = whole ∙ ap₂ (λ (x y : Bool). (x && y) && rest_zero b) yes (sym g)

    pub no-content : q ≡ false → false ≡ valid_slot n b
    no-content t = sym (then ∙ ap (λ (x : Bool). x && rest_zero b) t)

    pub by-rest : q ≡ true → {u : Bool} → u ≡ rest_zero b → u ≡ valid_slot n b
    by-rest good h = h ∙ sym (then ∙ ap (λ (x : Bool). x && rest_zero b) good)
