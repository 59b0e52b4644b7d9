-- The arithmetic of an even grade: the library's division, rounded down, and the difference of two measures.
use mathlib.Core.Path.{◌≡◌, sym, ap, ap₂, ◌∙◌}
use mathlib.Core.Bool.{cond}
use Prim.Native.Nat.{ℕ, suc, ◌+◌, ◌-◌, ◌*◌, ◌/◌, ◌%◌, ◌^◌, ◌<◌}
use native.Mathlib.Nat.{mul-suc, mod-lt, div-add-mod}
use native.Mathlib.Omega.{arith}
use lib.IntN.{ℤ, pos, negsuc, neg_ℤ, nat_abs, ◌-ℤ◌, +ℤ_comm}
use lib.Dec.{ltb}
use mir.Syntax.{w32, w64}
use mir.Val.{Fits, SFits, to_z, of_z}
use mir.Facts.{to_z-of_z}
use borrow.Author.Rules.{rules}
use Rattle.std.specs.Int.{int_div_euclid, int_rem_euclid}
use Rattle.model.specs.Grade.{whole_of, Even}
use Rattle.model.proofs.Dividing.{less-pos}

-- the library's quotient and remainder satisfy the equation and the bound
even-euclid : (n : ℕ) → 0 < n → (d : ℤ) → Even n d (int_div_euclid d (pos n)) (nat_abs (int_rem_euclid d (pos n)))
even-euclid n h (pos a) = record { sum = ap pos (sym (div-add-mod a n)); bound = mod-lt a h }
even-euclid n h (negsuc a) =
    let q : n * (a / n) + a % n ≡ a = div-add-mod a n in
    let b : a % n < n = mod-lt a h in
    let k : n * suc (a / n) ≡ n * (a / n) + n = mul-suc n (a / n) in
    let f : n - 1 - a % n < n * suc (a / n) = omega arith in
    let i : n * suc (a / n) - suc (n - 1 - a % n) ≡ a = omega arith in
    record {
      sum = sym (+ℤ_comm (neg_ℤ (pos (n * suc (a / n)))) (pos (n - 1 - a % n)) ∙ less-pos (n - 1 - a % n) (n * suc (a / n)) f ∙ ap negsuc i);
      bound = omega arith;
    }

-- so they do as the code has them, in 64 bits with a sign
pub even-held : (n : ℕ) → 0 < n → {d e k q r : ℤ} → SFits w64 k → k ≡ pos n → e ≡ d → SFits w64 q → SFits w64 r
    → q ≡ int_div_euclid e (to_z w64 (of_z w64 k)) → r ≡ int_rem_euclid e (to_z w64 (of_z w64 k))
    → Even n d (to_z w64 (of_z w64 q)) (nat_abs (to_z w64 (of_z w64 r)))
even-held n h {d} {e} {k} {q} {r} o p f g i u v =
    let k_is : to_z w64 (of_z w64 k) ≡ pos n = to_z-of_z o ∙ p in
    let s : to_z w64 (of_z w64 q) ≡ int_div_euclid d (pos n) = to_z-of_z g ∙ u ∙ ap₂ int_div_euclid f k_is in
    let t : to_z w64 (of_z w64 r) ≡ int_rem_euclid d (pos n) = to_z-of_z i ∙ v ∙ ap₂ int_rem_euclid f k_is in
    rw (s, t) (even-euclid n h d)

-- a measure's 32 bits with their sign
whole-signed : (m : ℕ) → Fits w32 m → to_z w32 m ≡ whole_of m
unfolding whole_of
whole-signed m f =
    let e : 2 ^ 32 - suc m ≡ 4294967295 - m = omega arith in
    ap (λ (k : ℕ). cond (ltb m 2147483648) (pos m) (negsuc k)) e

-- the difference of two of them, read as 32 bits with a sign and widened
module _ {x y : ℤ} (f : SFits w32 x) (g : SFits w32 y) where
  apart : SFits w64 (y -ℤ x)
  apart = search rules

  wide : {z : ℤ} → SFits w64 z → {v : ℤ} → SFits w32 v → z ≡ to_z w32 (of_z w32 v) → to_z w64 (of_z w64 z) ≡ v
  wide h i e = to_z-of_z h ∙ e ∙ to_z-of_z i

  pub difference : (b t : ℕ) → Fits w32 b → Fits w32 t → x ≡ to_z w32 b → y ≡ to_z w32 t → {x' y' : ℤ} → SFits w64 x' → SFits w64 y'
      → x' ≡ to_z w32 (of_z w32 x) → y' ≡ to_z w32 (of_z w32 y)
      → to_z w64 (of_z w64 (to_z w64 (of_z w64 y') -ℤ to_z w64 (of_z w64 x'))) ≡ whole_of t -ℤ whole_of b
  difference b t i j p q h k u v =
      ap₂ (λ (n m : ℤ). to_z w64 (of_z w64 (n -ℤ m))) (wide k g v) (wide h f u)
      ∙ to_z-of_z apart
      ∙ ap₂ ◌-ℤ◌ (q ∙ whole-signed t j) (p ∙ whole-signed b i)
