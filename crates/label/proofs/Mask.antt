-- The compartments of a include those of b where masking b's by a's leaves them as they are.
use mathlib.Core.Path.{◌≡◌, refl, ap, subst, ◌∙◌}
use mathlib.Core.Bool.{Bool, true, false, not, ◌&&◌, beq}
use Prim.Native.Nat.{ℕ, zero, suc, ◌+◌, ◌/◌, ◌%◌, ◌≤◌, ◌<◌}
use native.Mathlib.Omega.{arith}
use lib.Bits.{bit_and}
use lib.Dec.{T, leb, ltb, eqb}
use mir.Facts.{eqb_yes, eqb_no}
use Rattle.model.specs.Lists.{all, range}
use Rattle.model.specs.Label.{is_label, level, sizing, fabric, cost, includes, dominates}
use Rattle.model.proofs.Bools.{and_l, and_r, decide}

-- a test that all numbers of a range pass, at one of them
at : (p : ℕ → Bool) (i n k : ℕ) → T (all p (range (λ x. x) i n)) → i ≤ k → k < i + n → T (p k)
at p i zero k t l h = absurd (omega arith)
at p i (suc n) k t l h =
    decide (eqb i k)
    (λ (e : T (eqb i k)). subst (λ (x : ℕ). T (p x)) (eqb_yes e) (and_l (p i) (all p (range (λ x. x) (suc i) n)) t))
    (λ (e : T (not (eqb i k))).
    let d : i ≡ k → ⊥ = eqb_no e in
    at p (suc i) n k (and_r (p i) (all p (range (λ x. x) (suc i) n)) t) (omega arith) (omega arith))

-- the test by the mask agrees with the test by compartments
agrees : ℕ → ℕ → Bool
agrees x y = beq (eqb (bit_and x y) y) (includes x y)

agrees-row : ℕ → Bool
agrees-row x = all (agrees x) (range (λ y. y) 0 8)

-- computed for the 8 × 8 sets of compartments
agrees-all : T (all agrees-row (range (λ x. x) 0 8))
unfolding agrees agrees-row includes sizing fabric cost
agrees-all = tt

beq-eq : (a b : Bool) → T (beq a b) → a ≡ b
beq-eq true true t = refl
beq-eq true false t = absurd t
beq-eq false true t = absurd t
beq-eq false false t = refl

mask-small : (x y : ℕ) → x < 8 → y < 8 → eqb (bit_and x y) y ≡ includes x y
unfolding agrees agrees-row
mask-small x y h k =
    beq-eq (eqb (bit_and x y) y) (includes x y) (at (agrees x) 0 8 y (at agrees-row 0 8 x agrees-all (omega arith) (omega arith)) (omega arith) (omega arith))

-- a label's compartments are those of its last three bits
includes-low : (a b : ℕ) → includes (a % 8) (b % 8) ≡ includes a b
unfolding includes sizing fabric cost
includes-low a b =
    let s : (x : ℕ) → x % 8 % 2 ≡ x % 2 = λ x. omega arith in
    let f : (x : ℕ) → x % 8 / 2 % 2 ≡ x / 2 % 2 = λ x. omega arith in
    let c : (x : ℕ) → x % 8 / 4 % 2 ≡ x / 4 % 2 = λ x. omega arith in
    rw (s a, s b, f a, f b, c a, c b)

pub by_mask : (a b : ℕ)
    → (ltb a 32 && ltb b 32 && leb (b / 8) (a / 8) && eqb (bit_and (a % 8) (b % 8)) (b % 8)) ≡ dominates a b
unfolding dominates is_label level
by_mask a b =
    ap (λ (t : Bool). ltb a 32 && ltb b 32 && leb (b / 8) (a / 8) && t)
    (mask-small (a % 8) (b % 8) (omega arith) (omega arith) ∙ includes-low a b)
