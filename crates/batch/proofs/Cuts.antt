-- The lines of an input that is cut in two, and where the first line ends.
use mathlib.Core.Path.{◌≡◌, refl, sym, ap, ◌∙◌}
use mathlib.Core.Bool.{Bool, true, not, cond}
use mathlib.Core.List.{List, [], ◌∷◌, ◌++◌, append-nil}
use Prim.Native.Nat.{ℕ, zero, suc, ◌+◌, ◌-◌, ◌≤◌, ◌<◌, min}
use native.Mathlib.Omega.{arith}
use lib.ListN.{length, take, drop, length-drop}
use lib.Seq.{append_snoc, drop-drop}
use lib.Dec.{T, eqb}
use Rattle.std.proofs.lemmas.Bool.{false_from_ne_true}
use Rattle.memchr.specs.Find.{Nowhere, Passes, is_byte}
use Rattle.model.specs.Lists.{all}
use Rattle.model.specs.Script.{lines_from}
use Rattle.model.proofs.Bools.{and_l, and_r, decide, is_true, is_false}
use Rattle.batch.specs.Pieces.{ended, begun, last, end_at, span}

-- ---- an input cut in two

-- the lines of an input are those that end in it and the last
pub lines-ended : (p i : List ℕ) → lines_from p i ≡ ended p i ++ last (begun p i)
lines-ended [] [] = refl
lines-ended (y ∷ p) [] = refl
lines-ended p (x ∷ i) =
    decide (eqb x 10)
    (λ (t : T (eqb x 10)). rw (is_true (eqb x 10) t) (ap (λ (ls : List (List ℕ)). p ∷ ls) (lines-ended [] i)))
    (λ (t : T (not (eqb x 10))). rw (is_false (eqb x 10) t) (lines-ended (p ++ (x ∷ [])) i))

-- the lines that end in the first part, and then in the second
pub ended-append : (p a b : List ℕ) → ended p (a ++ b) ≡ ended p a ++ ended (begun p a) b
ended-append p [] b = refl
ended-append p (x ∷ a) b =
    decide (eqb x 10)
    (λ (t : T (eqb x 10)). rw (is_true (eqb x 10) t) (ap (λ (ls : List (List ℕ)). p ∷ ls) (ended-append [] a b)))
    (λ (t : T (not (eqb x 10))). rw (is_false (eqb x 10) t) (ended-append (p ++ (x ∷ [])) a b))

-- the line begun behind both parts
pub begun-append : (p a b : List ℕ) → begun p (a ++ b) ≡ begun (begun p a) b
begun-append p [] b = refl
begun-append p (x ∷ a) b =
    decide (eqb x 10)
    (λ (t : T (eqb x 10)). rw (is_true (eqb x 10) t) (begun-append [] a b))
    (λ (t : T (not (eqb x 10))). rw (is_false (eqb x 10) t) (begun-append (p ++ (x ∷ [])) a b))

-- ---- the first line end, as it was found

-- no byte is one
pub end-none : (s : List ℕ) → Nowhere (Passes (is_byte 10) s) 0 (length s) → length s ≡ end_at s
end-none [] n = refl
end-none (x ∷ s) n =
    ap suc (end-none s (λ k g h p. n (suc k) (omega arith) (omega arith) p))
    ∙ sym (ap (λ (b : Bool). cond b 0 (suc (end_at s))) (false_from_ne_true (eqb x 10) (n 0 (omega arith) (omega arith))))

-- the one at k is the first
pub end-some : (s : List ℕ) (k : ℕ) → k < length s → Passes (is_byte 10) s k → Nowhere (Passes (is_byte 10) s) 0 k → k ≡ end_at s
end-some [] k h e n = absurd (omega arith)
end-some (x ∷ s) zero h e n = sym (ap (λ (b : Bool). cond b 0 (suc (end_at s))) e)
end-some (x ∷ s) (suc k) h e n =
    ap suc (end-some s k (omega arith) e (λ j g l p. n (suc j) (omega arith) (omega arith) p))
    ∙ sym (ap (λ (b : Bool). cond b 0 (suc (end_at s))) (false_from_ne_true (eqb x 10) (n 0 (omega arith) (omega arith))))

-- ---- the first line end is sought

-- whether no byte is a line end
unfoldable pub lacks_end : List ℕ → Bool
lacks_end i = all (λ x. not (eqb x 10)) i

-- the first line end is not among the first n bytes
pub record NotBefore (i : List ℕ) (n : ℕ) : Type 0 where
  pub within : n ≤ length i
  pub same : end_at i ≡ n + end_at (drop n i)

-- it is not among bytes that are none
past : (n : ℕ) (l : List ℕ) → n ≤ length l → T (lacks_end (take n l)) → end_at l ≡ n + end_at (drop n l)
unfolding lacks_end
past zero l h t = omega arith
past (suc n) [] h t = absurd (omega arith)
past (suc n) (x ∷ l) h t =
    let e : end_at l ≡ n + end_at (drop n l) =
    past n l (omega arith) (and_r (not (eqb x 10)) (all (λ y. not (eqb y 10)) (take n l)) t) in
    rw (is_false (eqb x 10) (and_l (not (eqb x 10)) (all (λ y. not (eqb y 10)) (take n l)) t)) (omega arith)

module _ {s : List ℕ} {i : ℕ} (inv : NotBefore s i) where
  -- a block that lacks it
  pub seek-block : {n z : ℕ} {b : Bool} → n ≤ length s - i → z ≡ n → b ≡ lacks_end (take z (drop i s)) → b ≡ true → NotBefore s (i + n)
  seek-block {n} {z} {b} h e f g =
      let w : i ≤ length s = inv.within in
      let l : length (drop i s) ≡ length s - i = length-drop i s in
      let t : T (lacks_end (take z (drop i s))) = rw (← f, g) tt in
      let p : end_at (drop i s) ≡ z + end_at (drop z (drop i s)) = past z (drop i s) (omega arith) t in
      let d : drop z (drop i s) ≡ drop (i + n) s = drop-drop z i s ∙ ap (λ (k : ℕ). drop (i + k) s) e in
      let q : end_at (drop z (drop i s)) ≡ end_at (drop (i + n) s) = ap end_at d in
      record { within = omega arith; same = omega (arith, inv.same) }

-- ---- where the first line ends

-- it is within the input, of which what is used goes one byte further, if there is one
pub end-span : (i : List ℕ) → (end_at i ≤ length i) × (span i ≡ min (suc (end_at i)) (length i))
end-span [] = (omega arith, omega arith)
end-span (x ∷ i) =
    let h = end-span i in
    decide (eqb x 10)
    (λ (t : T (eqb x 10)). rw (is_true (eqb x 10) t) (omega arith, omega arith))
    (λ (t : T (not (eqb x 10))). rw (is_false (eqb x 10) t) (omega arith, omega arith))

-- an input without a line end: nothing ends in it
pub endless : (p i : List ℕ) → end_at i ≡ length i → (ended p i ≡ []) × (begun p i ≡ p ++ i)
endless p [] = λ h. (refl, sym (append-nil p))
endless p (x ∷ i) =
    decide (eqb x 10)
    (λ (t : T (eqb x 10)). rw (is_true (eqb x 10) t) (λ (h : 0 ≡ suc (length i)). absurd (omega arith)))
    (λ (t : T (not (eqb x 10))).
    rw (is_false (eqb x 10) t)
    (λ (h : suc (end_at i) ≡ suc (length i)). let e = endless (p ++ (x ∷ [])) i (omega arith) in (e.0, e.1 ∙ append_snoc p x i)))

-- an input with one: up to it there is one line, and none is begun
pub ending : (p i : List ℕ) → end_at i < length i →
    (ended p (take (suc (end_at i)) i) ≡ (p ++ take (end_at i) i) ∷ []) × (begun p (take (suc (end_at i)) i) ≡ [])
ending p [] = λ (h : 0 < 0). absurd (omega arith)
ending p (x ∷ i) =
    decide (eqb x 10)
    (λ (t : T (eqb x 10)). rw (is_true (eqb x 10) t) (λ (h : 0 < suc (length i)). (ap (λ (l : List ℕ). l ∷ []) (sym (append-nil p)), refl)))
    (λ (t : T (not (eqb x 10))).
    rw (is_false (eqb x 10) t)
    (λ (h : suc (end_at i) < suc (length i)).
    let e = ending (p ++ (x ∷ [])) i (omega arith) in
    (e.0 ∙ ap (λ (l : List ℕ). l ∷ []) (append_snoc p x (take (end_at i) i)), e.1)))
