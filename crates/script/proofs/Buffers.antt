-- Steps and their bytes.
use mathlib.Core.Path.{◌≡◌, refl}
use mathlib.Core.List.{List, ◌∷◌}
use Prim.Native.Nat.{ℕ, ◌+◌, ◌*◌, ◌/◌, ◌%◌, ◌≤◌, ◌<◌}
use native.Mathlib.Omega.{arith}
use lib.ListN.{length, take}
use lib.Seq.{length-take-le}
use lib.Dec.{T}
use mir.Facts.{ltb_yes}
use Rattle.model.specs.Lists.{all, is_byte}
use Rattle.model.specs.Path.{steps_of}
use Rattle.model.specs.Script.{lent_path}
use Rattle.model.proofs.Bools.{and_l, and_r}
use Rattle.model.proofs.Lists.{Bytes, all_take}
use Rattle.path.proofs.Buffers.{by-threes}

-- the bytes of the steps that bytes hold are those bytes
bytes_back : (n : ℕ) (x : List ℕ) → length x ≡ 3 * n → T (all is_byte x) → lent_path (steps_of x) ≡ x
unfolding is_byte
bytes_back = by-threes (λ n x. T (all is_byte x) → lent_path (steps_of x) ≡ x) (λ t. refl) more
  where
    more : (n a b c : ℕ) (x : List ℕ) → (T (all is_byte x) → lent_path (steps_of x) ≡ x) → T (all is_byte (a ∷ b ∷ c ∷ x))
        → lent_path (steps_of (a ∷ b ∷ c ∷ x)) ≡ a ∷ b ∷ c ∷ x
    more n a b c x f t =
        let h : a < 256 = ltb_yes (search and_l) in
        let p : (a + 256 * b) % 256 ≡ a = omega arith in
        let q : (a + 256 * b) / 256 ≡ b = omega arith in
        rw (p, q, f (search (and_l, and_r)))

-- the bytes of n steps of a buffer are its first 3 * n
pub lent-steps : (b : List ℕ) (n : ℕ) → Bytes b → 3 * n ≤ length b → lent_path (steps_of (take (3 * n) b)) ≡ take (3 * n) b
lent-steps b n t h = bytes_back n (take (3 * n) b) (length-take-le (3 * n) b h) (all_take is_byte (3 * n) b t.bytes)
