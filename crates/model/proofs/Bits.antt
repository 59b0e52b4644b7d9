-- Numbers by their bits: each bit is read back, and a few bits make a small number.
use mathlib.Core.Path.{◌≡◌, refl, sym, ap, ◌∙◌}
use mathlib.Core.Bool.{Bool, true, false, cond}
use mathlib.Core.List.{List, [], ◌∷◌, map}
use Prim.Native.Nat.{ℕ, zero, suc, ◌+◌, ◌-◌, ◌*◌, ◌/◌, ◌%◌, ◌≤◌, ◌<◌}
use native.Mathlib.Omega.{arith}
use lib.ListN.{length}
use lib.Dec.{eqb}
use Rattle.model.specs.Lists.{range}
use Rattle.model.specs.Migration.{binary, bit}

-- the lowest bit, and the number without it
lowest : (b : Bool) (m : ℕ) → eqb ((cond b 1 0 + 2 * m) % 2) 1 ≡ b
lowest true m = let e : (1 + 2 * m) % 2 ≡ 1 = omega arith in rw e
lowest false m = let e : (0 + 2 * m) % 2 ≡ 0 = omega arith in rw e

without : (b : Bool) (m : ℕ) → (cond b 1 0 + 2 * m) / 2 ≡ m
without true m = omega arith
without false m = omega arith

-- bit n of the bits that a test gives for i, i + 1 and so on
pub bit-range : (f : ℕ → Bool) (i c n : ℕ) → n < c → bit n (binary (map f (range (λ k. k) i c))) ≡ f (i + n)
bit-range f i zero n h = absurd (omega arith)
bit-range f i (suc c) zero h = let e : i + 0 ≡ i = omega arith in lowest (f i) (binary (map f (range (λ k. k) (suc i) c))) ∙ ap f (sym e)
bit-range f i (suc c) (suc n) h =
    let e : suc i + n ≡ i + suc n = omega arith in
    ap (bit n) (without (f i) (binary (map f (range (λ k. k) (suc i) c)))) ∙ bit-range f (suc i) c n (omega arith) ∙ ap f e

-- twice as much for each
abbrev doubled : ℕ → ℕ
doubled zero = 1
doubled (suc n) = 2 * doubled n

more-doubled : (m k : ℕ) → doubled m ≤ doubled (k + m)
more-doubled m zero = let e : 0 + m ≡ m = omega arith in rw e (omega arith)
more-doubled m (suc k) = let e : suc k + m ≡ suc (k + m) = omega arith in let h : doubled m ≤ doubled (k + m) = more-doubled m k in rw e (omega arith)

below-doubled : (bs : List Bool) → binary bs < doubled (length bs)
below-doubled [] = omega arith
below-doubled (true ∷ bs) = let h : binary bs < doubled (length bs) = below-doubled bs in omega arith
below-doubled (false ∷ bs) = let h : binary bs < doubled (length bs) = below-doubled bs in omega arith

-- at most 31 bits
pub binary-small : (bs : List Bool) → length bs ≤ 31 → binary bs < 2147483648
binary-small bs h =
    let e : 31 - length bs + length bs ≡ 31 = omega arith in
    let k : doubled (length bs) ≤ doubled 31 = rw e at (more-doubled (length bs) (31 - length bs)) in
    let l : doubled 31 ≡ 2147483648 = refl in
    omega (arith, below-doubled bs)
