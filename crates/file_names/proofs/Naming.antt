-- A name put into a space as C takes it.
use mathlib.Core.Path.{◌≡◌, ◌∙◌, ap}
use mathlib.Core.List.{List, ◌++◌}
use Prim.Native.Nat.{ℕ, zero, suc, ◌+◌, ◌-◌, ◌<◌, ◌≤◌}
use native.Mathlib.Omega.{arith}
use lib.ListN.{length, drop, get_or, replicate, get_or-replicate}
use lib.Seq.{get_or-append-add}
use Rattle.file_names.specs.Names.{for_c, Ended}

-- z is what the copy left of m zeros
drop-zeros : (n m : ℕ) → n ≤ m → drop n (replicate {A = ℕ} m 0) ≡ replicate {A = ℕ} (m - n) 0
drop-zeros zero m h = let e : m ≡ m - 0 = omega arith in ap (λ (k : ℕ). replicate {A = ℕ} k 0) e
drop-zeros (suc n) zero h = absurd (omega arith)
drop-zeros (suc n) (suc m) h = let e : m - n ≡ suc m - suc n = omega arith in drop-zeros n m (omega arith) ∙ ap (λ (k : ℕ). replicate {A = ℕ} k 0) e

put : (name z : List ℕ) (m : ℕ) → length name ≤ m → z ≡ name ++ drop (length name) (replicate {A = ℕ} m 0) → z ≡ name ++ replicate {A = ℕ} (m - length name) 0
put name z m h e = e ∙ ap (λ (l : List ℕ). name ++ l) (drop-zeros (length name) m h)

-- behind a name that leaves room the last byte is 0
last-zero : (name z : List ℕ) (m k : ℕ) → length name ≤ k → k < m → z ≡ name ++ replicate {A = ℕ} (m - length name) 0 → get_or z k 1 ≡ 0
last-zero name z m k h l e =
    let at : k ≡ length name + (k - length name) = omega arith in
    ap (λ (s : List ℕ). get_or s k 1) e
    ∙ ap (λ (i : ℕ). get_or (name ++ replicate {A = ℕ} (m - length name) 0) i 1) at
    ∙ get_or-append-add name (replicate {A = ℕ} (m - length name) 0) (k - length name) 1
    ∙ get_or-replicate (m - length name) (k - length name) 0 1 (omega arith)

pub for-c : (name z : List ℕ) → length name ≤ 4088 → z ≡ name ++ drop (length name) (replicate 4096 0) → (z ≡ for_c name) × Ended z
for-c name z h e = let p : z ≡ for_c name = put name z 4096 (omega arith) e in (p, last-zero name z 4096 4095 (omega arith) (omega arith) p)
