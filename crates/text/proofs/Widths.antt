-- How long numbers and values are as texts.
use mathlib.Core.List.{List, [], ◌∷◌, ◌++◌}
use Prim.Native.Nat.{ℕ, zero, suc, ◌+◌, ◌-◌, ◌/◌, ◌%◌, ◌^◌, ◌≤◌, ◌<◌}
use native.Mathlib.Omega.{arith}
use lib.IntN.{ℤ, pos, negsuc}
use lib.ListN.{length, length-append}
use lib.Dec.{T}
use mir.Syntax.{w32, w64}
use mir.Val.{Fits, SFits}
use Rattle.model.specs.Value.{allowed}
use Rattle.model.specs.Text.{decimal, measure_of, signed, whole_text}
use Rattle.model.specs.View.{shown}
use Rattle.model.proofs.Decimal.{decimal-fact, signed-fact}
use Rattle.model.proofs.Slots.{allowed-length}

-- a number below 10 ^ (k + 1) has at most k + 1 digits
pub decimal-width : (n k : ℕ) → n < 10 ^ suc k → length (decimal n) ≤ suc k
decimal-width = decimal-fact (λ n l. (k : ℕ) → n < 10 ^ suc k → length l ≤ suc k) (λ n h k e. omega arith) next
  where
    next : (n : ℕ) (l : List ℕ) → 10 ≤ n → ((k : ℕ) → n / 10 < 10 ^ suc k → length l ≤ suc k)
        → (k : ℕ) → n < 10 ^ suc k → length (l ++ ((48 + n % 10) ∷ [])) ≤ suc k
    next n l h f zero e = absurd (omega arith)
    next n l h f (suc k) e = omega (arith, f k (omega arith), length-append l ((48 + n % 10) ∷ []))

-- a number of 32 bits has at most ten
pub decimal-short : (n : ℕ) → Fits w32 n → length (decimal n) ≤ 10
decimal-short n f = decimal-width n 9 (omega arith)

-- with its sign
pub signed-short : (m : ℕ) → length (signed m) ≤ 11
signed-short m = signed-fact (λ l. length l ≤ 11) m
    (λ k. omega (arith, decimal-width m 9 (omega arith)))
    (λ k. omega (arith, decimal-width (4294967296 - m) 9 (omega arith)))

-- a number of 64 bits has at most twenty
pub decimal-long : (n : ℕ) → Fits w64 n → length (decimal n) ≤ 20
decimal-long n f = decimal-width n 19 (omega arith)

-- with its sign, as many
pub whole_long : (z : ℤ) → SFits w64 z → length (whole_text z) ≤ 20
whole_long (pos n) f = omega (arith, decimal-width n 18 (omega arith))
whole_long (negsuc n) f = omega (arith, decimal-width (suc n) 18 (omega arith))

-- a value as it is shown
pub shown-short : (k : ℕ) (v : List ℕ) → T (allowed k v) → length (shown k v) ≤ 16
unfolding shown
shown-short zero v t = omega arith
shown-short (suc zero) v t = omega (arith, signed-short (measure_of v))
shown-short (suc (suc k)) v t = allowed-length (suc (suc k)) v t
