-- Where the last slash of a name stands.
use mathlib.Core.Path.{◌≡◌, refl, ◌∙◌, sym, ap}
use mathlib.Core.Bool.{Bool, true, false, not, cond, ◌&&◌, ◌||◌}
use mathlib.Core.List.{List, [], ◌∷◌}
use Prim.Native.Nat.{ℕ, zero, suc, ◌+◌, ◌<◌, ◌≤◌}
use native.Mathlib.Omega.{arith}
use borrow.Author.Tests.{eq-eqb, ne_eqb}
use lib.Dec.{eqb}
use Rattle.std.specs.Prelude.{Option, Some, None, IfSome, IfNone}
use lib.ListN.{length, drop, get_or}
use Rattle.file_names.specs.Names.{has_slash, last_slash}

or_left : (a b : Bool) → (a || b) ≡ false → a ≡ false
or_left true b e = e
or_left false b e = refl

or_right : (a b : Bool) → (a || b) ≡ false → b ≡ false
or_right true true e = e
or_right true false e = refl
or_right false b e = e

or-true : (a b : Bool) → b ≡ true → (a || b) ≡ true
or-true true b e = refl
or-true false b e = e

and-false : (a b : Bool) → b ≡ false → (a && b) ≡ false
and-false true b e = e
and-false false b e = refl

-- a slash somewhere in a text
has-at : (s : List ℕ) (k : ℕ) → k < length s → get_or s k 0 ≡ 47 → has_slash s ≡ true
has-at [] k h e = absurd (omega arith)
has-at (x ∷ xs) zero h e = ap (λ (b : Bool). b || has_slash xs) (eq-eqb x 47 e)
has-at (x ∷ xs) (suc k) h e = or-true (eqb x 47) (has_slash xs) (has-at xs k (omega arith) e)

-- a slash with none behind it is the last
last-at : (s : List ℕ) (k : ℕ) → k < length s → get_or s k 0 ≡ 47 → has_slash (drop (suc k) s) ≡ false → k ≡ last_slash s
last-at [] k h e n = absurd (omega arith)
last-at (x ∷ xs) zero h e n = sym (ap (λ (b : Bool). cond b 0 (suc (last_slash xs))) (ap (λ (b : Bool). b && not (has_slash xs)) (eq-eqb x 47 e) ∙ ap not n))
last-at (x ∷ xs) (suc k) h e n =
    ap suc (last-at xs k (omega arith) e n)
    ∙ sym (ap (λ (b : Bool). cond b 0 (suc (last_slash xs))) (and-false (eqb x 47) (not (has_slash xs)) (ap not (has-at xs k (omega arith) e))))

-- a text without one
last_none : (s : List ℕ) → has_slash s ≡ false → length s ≡ last_slash s
last_none [] n = refl
last_none (x ∷ xs) n =
    ap suc (last_none xs (or_right (eqb x 47) (has_slash xs) n))
    ∙ sym (ap (λ (b : Bool). cond (b && not (has_slash xs)) 0 (suc (last_slash xs))) (or_left (eqb x 47) (has_slash xs) n))

-- a text no byte of which, from a place on, is a slash
none_from : (s : List ℕ) → ((k : ℕ) → k < length s → get_or s k 0 ≡ 47 → ⊥) → has_slash s ≡ false
none_from [] f = refl
none_from (x ∷ xs) f = ap (λ (b : Bool). b || has_slash xs) (ne_eqb x 47 (f 0 (omega arith))) ∙ none_from xs (λ k h. f (suc k) (omega arith))

none-behind : (s : List ℕ) (i : ℕ) → ((k : ℕ) → i ≤ k → k < length s → get_or s k 0 ≡ 47 → ⊥) → has_slash (drop i s) ≡ false
none-behind s zero f = none_from s (λ k h. f k (omega arith) h)
none-behind [] (suc i) f = refl
none-behind (x ∷ xs) (suc i) f = none-behind xs i (λ k g h. f (suc k) (omega arith) (omega arith))

-- a slash behind which no byte is one, and a text without any
pub last_found : (s : List ℕ) (i : ℕ) → i < length s → get_or s i 0 ≡ 47 → ((k : ℕ) → i + 1 ≤ k → k < length s → get_or s k 0 ≡ 47 → ⊥) → i ≡ last_slash s
last_found s i h e f = last-at s i h e (none-behind s (suc i) (λ k g l. f k (omega arith) l))

pub none_found : (s : List ℕ) → ((k : ℕ) → k < length s → get_or s k 0 ≡ 47 → ⊥) → last_slash s ≡ length s
none_found s f = sym (last_none s (none_from s f))

-- ---- what holds of an option, by its cases

pub some_case : {P : ℕ → Type 0} (o : Option ℕ) → ((i : ℕ) → o ≡ Some i → P i) → IfSome o P
some_case None f = tt
some_case (Some i) f = f i refl

pub none_case : {P : Type 0} (o : Option ℕ) → (o ≡ None → P) → IfNone o P
none_case None f = f refl
none_case (Some i) f = tt
