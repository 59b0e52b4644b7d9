-- Steps written into a buffer, three bytes each.
use mathlib.Core.Path.{◌≡◌, refl, ap, ◌∙◌}
use mathlib.Core.List.{List, [], ◌∷◌, ◌++◌, append_assoc}
use Prim.Native.Nat.{ℕ, zero, suc, ◌+◌, ◌*◌, ◌/◌, ◌%◌, ◌≤◌}
use native.Mathlib.Omega.{arith}
use lib.ListN.{length, take, drop, length-set}
use lib.Seq.{length-take-le, take_at, take-append-add, sets-eq}
use Rattle.model.specs.Path.{Step, steps_of}
use Rattle.path.specs.Steps.{put_step}

-- what holds of no bytes, and of three bytes before some of which it holds, holds of any 3 * n bytes
pub by-threes : (P : ℕ → List ℕ → Type 0) → P 0 [] → ((n a b c : ℕ) (x : List ℕ) → P n x → P (suc n) (a ∷ b ∷ c ∷ x))
    → (n : ℕ) (x : List ℕ) → length x ≡ 3 * n → P n x
by-threes P f g zero [] e = f
by-threes P f g zero (a ∷ x) e = absurd (omega arith)
by-threes P f g (suc n) [] e = absurd (omega arith)
by-threes P f g (suc n) (a ∷ []) e = absurd (omega arith)
by-threes P f g (suc n) (a ∷ b ∷ []) e = absurd (omega arith)
by-threes P f g (suc n) (a ∷ b ∷ c ∷ x) e = g n a b c x (by-threes P f g n x (omega arith))

-- the bytes of one step more
pub steps-more : (n : ℕ) (x : List ℕ) (lo hi l : ℕ) → length x ≡ 3 * n
    → steps_of (x ++ (lo ∷ hi ∷ l ∷ [])) ≡ steps_of x ++ (record { name = lo + 256 * hi; label = l } ∷ [])
steps-more n x lo hi l =
    by-threes (λ n x. steps_of (x ++ (lo ∷ hi ∷ l ∷ [])) ≡ steps_of x ++ (record { name = lo + 256 * hi; label = l } ∷ []))
    refl (λ n a b c x. ap (λ (p : List Step). record { name = a + 256 * b; label = c } ∷ p)) n x

module _ (b : List ℕ) (n name label : ℕ) where
  -- writing a step keeps the length
  pub length-put : length (put_step b n name label) ≡ length b
  length-put = simp length-set

  module _ (h : 3 * n + 3 ≤ length b) where
    written : put_step b n name label ≡ take (3 * n) b ++ ((name % 256 ∷ name / 256 ∷ label ∷ []) ++ drop (3 * n + 3) b)
    written =
        let e : 3 * n + 1 ≡ suc (3 * n) = omega arith in
        let f : 3 * n + 2 ≡ suc (suc (3 * n)) = omega arith in
        rw (e, f) (sets-eq (name % 256 ∷ name / 256 ∷ label ∷ []) b (3 * n) h)
        ∙ append_assoc (take (3 * n) b) (name % 256 ∷ name / 256 ∷ label ∷ []) (drop (3 * n + 3) b)

    -- the steps before it stay
    pub steps-kept : take (3 * n) (put_step b n name label) ≡ take (3 * n) b
    steps-kept =
        ap (take (3 * n)) written
        ∙ take_at (take (3 * n) b) ((name % 256 ∷ name / 256 ∷ label ∷ []) ++ drop (3 * n + 3) b) (3 * n) (length-take-le (3 * n) b (omega arith))

    -- the steps of the buffer are then one more
    pub steps-put : steps_of (take (3 * (n + 1)) (put_step b n name label)) ≡ steps_of (take (3 * n) b) ++ (record { name = name; label = label } ∷ [])
    steps-put =
        let k : length (take (3 * n) b) ≡ 3 * n = length-take-le (3 * n) b (omega arith) in
        let m : 3 * (n + 1) ≡ length (take (3 * n) b) + 3 = omega arith in
        let v : name % 256 + 256 * (name / 256) ≡ name = omega arith in
        ap (λ (x : List ℕ). steps_of (take (3 * (n + 1)) x)) written
        ∙ ap (λ (i : ℕ). steps_of (take i (take (3 * n) b ++ ((name % 256 ∷ name / 256 ∷ label ∷ []) ++ drop (3 * n + 3) b)))) m
        ∙ ap steps_of (take-append-add (take (3 * n) b) ((name % 256 ∷ name / 256 ∷ label ∷ []) ++ drop (3 * n + 3) b) 3)
        ∙ steps-more n (take (3 * n) b) (name % 256) (name / 256) label k
        ∙ ap (λ (i : ℕ). steps_of (take (3 * n) b) ++ (record { name = i; label = label } ∷ [])) v
