-- Numbers in a text.
use Rattle.std.specs.Prelude.{◌≡◌, List, ◌++◌, ℕ, ◌≤◌, ◌<◌, length, drop, T, Option, Some, None}
use Rattle.model.specs.Lists.{all, between}
use Rattle.model.specs.Text.{decimal, signed, is_digit, digits_value}
use Rattle.scan.specs.Text.{no_digit}

-- digits from at to i that stand for v; either v is greater than most, or no digit follows
pub record Run (most : ℕ) (l : List ℕ) (at v i : ℕ) : Type 0 where
  pub from : at ≤ i
  pub within : i ≤ length l
  pub digits : T (all is_digit (between at i l))
  pub value : v ≡ digits_value (between at i l)
  pub stops : v ≤ most → T (no_digit (drop i l))

-- l is the decimal of n, which is at most most, and r, which begins with no digit
pub record Numbered (most : ℕ) (l : List ℕ) (n : ℕ) (r : List ℕ) : Type 0 where
  pub small : n ≤ most
  pub ends : T (no_digit r)
  pub same : l ≡ decimal n ++ r

-- what a number read at a place says
abbrev pub NumberAt : ℕ → List ℕ → ℕ → Option (ℕ × ℕ) → Type 0
NumberAt most l at (Some (n, next)) = (at < next) × (next ≤ length l) × Numbered most (drop at l) n (drop next l)
NumberAt most l at None = (n : ℕ) (r : List ℕ) → Numbered most (drop at l) n r → ⊥

-- what a number of 32 signed bits read at a place says
abbrev pub SignedAt : List ℕ → ℕ → Option (ℕ × ℕ) → Type 0
SignedAt l at (Some (m, next)) = (at < next) × (next ≤ length l) × (m < 4294967296) × T (no_digit (drop next l)) × (drop at l ≡ signed m ++ drop next l)
SignedAt l at None = (m : ℕ) (r : List ℕ) → m < 4294967296 → T (no_digit r) → drop at l ≡ signed m ++ r → ⊥
