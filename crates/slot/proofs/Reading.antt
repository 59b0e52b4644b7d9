-- A slot read step by step, and how long its path and its value are.
use mathlib.Core.Path.{◌≡◌, sym, ap, ◌∙◌}
use mathlib.Core.Bool.{Bool, ◌&&◌, true}
use mathlib.Core.List.{List}
use Prim.Native.Nat.{ℕ, ◌+◌, ◌-◌, ◌≤◌, ◌<◌, min}
use native.Mathlib.Omega.{arith}
use lib.ListN.{length, drop, length-take, length-drop}
use lib.Dec.{T}
use mir.Facts.{leb_yes}
use Rattle.model.specs.Lists.{range, between}
use Rattle.model.specs.Path.{Step, ends_in, valid_path}
use Rattle.model.specs.Value.{storable}
use Rattle.model.specs.Slot.{value_at, slot_size, depth, step_at, value_length, read_path, read_content}
use Rattle.model.proofs.Bools.{and_l, and_r}
use Rattle.model.proofs.Lists.{length-range}
use Rattle.model.proofs.Slots.{allowed-length}
use Rattle.path.specs.Common.{ComparedBy}

-- ---- the path

pub length-path : (b : List ℕ) → length (read_path b) ≡ depth b
unfolding read_path
length-path b = length-range (step_at b) 0 (depth b)

-- the value as a part
pub value-part : (b : List ℕ) {n : ℕ} → (n ≡ value_length b) × (n < 256) → between value_at (value_at + n) b ≡ (read_content b).value
unfolding read_content
value-part b e = ap (λ (m : ℕ). between value_at (value_at + m) b) e.0

-- a storable value is short
pub storable-short : (b : List ℕ) → T (storable (read_content b)) → length b ≡ slot_size → value_length b ≤ 16
unfolding storable read_content
storable-short b t size =
    let k : length (between value_at (value_at + value_length b) b) ≤ 16 = allowed-length _ _ t in
    let d : length (drop value_at b) ≡ 19 = length-drop value_at b ∙ ap (λ (m : ℕ). m - value_at) size in
    let l : length (between value_at (value_at + value_length b) b) ≡ min (value_at + value_length b - value_at) (length (drop value_at b)) = length-take _ (drop value_at b) in
    omega arith

-- a valid path and content are short
module _ (n : ℕ) (b : List ℕ) {r : Bool} (f : r ≡ (valid_path (read_path b) && ends_in n (read_path b))) (yes : r ≡ true)
    {q : Bool} (g : q ≡ storable (read_content b)) (good : q ≡ true) where
  pub short-steps : depth b ≤ 6
  unfolding valid_path
  short-steps =
      let t : T (valid_path (read_path b) && ends_in n (read_path b)) = rw (sym f ∙ yes) tt in
      let k : length (read_path b) ≤ 6 = leb_yes (search (and_l, and_r)) in
      rw (length-path b) at k

  pub short-value : length b ≡ slot_size → value_length b ≤ 16
  short-value size = storable-short b (rw (sym g ∙ good) tt) size

-- ---- comparisons

-- two comparisons of ranges whose lengths were read
pub compared-counts : (k : Step → List ℕ) (f g : ℕ → Step) {x y m n i : ℕ} {t : Bool} → x ≡ m → y ≡ n
    → ComparedBy k (range f 0 x) (range g 0 y) i t → ComparedBy k (range f 0 m) (range g 0 n) i t
compared-counts k f g d e c = rw (d, e) at c
