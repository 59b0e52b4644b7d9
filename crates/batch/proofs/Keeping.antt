-- What is kept of a line reads as the line does; and what the functions do with it.
use mathlib.Core.Path.{◌≡◌, refl, sym, ap, ap₂, ◌∙◌}
use mathlib.Core.Bool.{not}
use mathlib.Core.Option.{Option, none, some}
use mathlib.Core.List.{List, [], ◌∷◌, ◌++◌}
use Prim.Native.Nat.{ℕ, zero, suc, ◌+◌, ◌-◌, ◌≤◌, min}
use native.Mathlib.Omega.{arith}
use native.Mathlib.Numerals.{add-one}
use lib.ListN.{length, take, drop, length-append, length-take}
use lib.Seq.{take_all, take_at, take-take, take-append-add, length-take-le}
use lib.Dec.{T, eqb}
use Rattle.model.specs.Script.{ScriptCall, Reads, Reading, Readings}
use Rattle.model.proofs.Bools.{decide, is_true, is_false}
use Rattle.carry.specs.Lines.{Carried}
use Rattle.batch.specs.Pieces.{ended, begun, last, end_at, kept_size, kept, Kept, TakenIn}
use Rattle.carry.proofs.Carrying.{carried_none, carried-alike}
use Rattle.batch.proofs.Cuts.{end-span, endless, ending}

-- ---- what is kept

-- what is kept is kept whole
pub kept-kept : (p : List ℕ) → kept (kept p) ≡ kept p
unfolding kept
kept-kept p = take-take kept_size kept_size p (omega arith)

take-front : (n : ℕ) (p x : List ℕ) → take n (take n p ++ x) ≡ take n (p ++ x)
take-front zero p x = refl
take-front (suc n) [] x = refl
take-front (suc n) (y ∷ p) x = ap (λ (l : List ℕ). y ∷ l) (take-front n p x)

-- two lines of which the same is kept: so it is when both go on alike
kept_more : (p q x : List ℕ) → kept p ≡ kept q → kept (p ++ x) ≡ kept (q ++ x)
unfolding kept
kept_more p q x e = sym (take-front kept_size p x) ∙ ap (λ (l : List ℕ). take kept_size (l ++ x)) e ∙ take-front kept_size q x

-- the same is kept then of the lines begun behind an input
pub begun-alike : (i p q : List ℕ) → kept p ≡ kept q → kept (begun p i) ≡ kept (begun q i)
begun-alike [] p q e = e
begun-alike (x ∷ i) p q e =
    decide (eqb x 10)
    (λ (t : T (eqb x 10)). rw (is_true (eqb x 10) t) refl)
    (λ (t : T (not (eqb x 10))). rw (is_false (eqb x 10) t) (begun-alike i (p ++ (x ∷ [])) (q ++ (x ∷ [])) (kept_more p q (x ∷ []) e)))

-- ---- they read alike

-- one that is not cut is the other
short-same : (p q : List ℕ) → kept p ≡ kept q → length p ≤ 256 → p ≡ q
unfolding kept
short-same p q e h =
    let l : min kept_size (length p) ≡ min kept_size (length q) = sym (length-take kept_size p) ∙ ap length e ∙ length-take kept_size q in
    sym (take_all kept_size p (omega arith)) ∙ e ∙ take_all kept_size q (omega arith)

reads-alike : (p q : List ℕ) (c : ScriptCall) → kept p ≡ kept q → Reads p c → Reads q c
reads-alike p q c e r = rw (short-same p q e r.short) at r

reading-alike : (p q : List ℕ) (r : Option ScriptCall) → kept p ≡ kept q → Reading p r → Reading q r
reading-alike p q none e h = λ c r. h c (reads-alike q p c (sym e) r)
reading-alike p q (some c) e h = reads-alike p q c e h

first_alike : (p q : List ℕ) (ls : List (List ℕ)) (rs : List (Option ScriptCall)) → kept p ≡ kept q → Readings (p ∷ ls) rs → Readings (q ∷ ls) rs
first_alike p q ls [] e h = absurd h
first_alike p q ls (r ∷ rs) e h = (reading-alike p q r e h.0, h.1)

-- the lines that end in an input read alike
pub ended-alike : (i p q : List ℕ) (rs : List (Option ScriptCall)) → kept p ≡ kept q → Readings (ended p i) rs → Readings (ended q i) rs
ended-alike [] p q rs e = λ h. h
ended-alike (x ∷ i) p q rs e =
    decide (eqb x 10)
    (λ (t : T (eqb x 10)). rw (is_true (eqb x 10) t) (first_alike p q (ended [] i) rs e))
    (λ (t : T (not (eqb x 10))). rw (is_false (eqb x 10) t) (ended-alike i (p ++ (x ∷ [])) (q ++ (x ∷ [])) rs (kept_more p q (x ∷ []) e)))

-- so does a last line
pub last-alike : (p q : List ℕ) (rs : List (Option ScriptCall)) → kept p ≡ kept q → Readings (last p) rs → Readings (last q) rs
last-alike [] [] rs e h = h
last-alike [] (y ∷ q) rs e h = let z : y ∷ q ≡ [] = sym (short-same [] (y ∷ q) e (omega arith)) in absurd (omega (arith, ap length z))
last-alike (x ∷ p) [] rs e h = let z : x ∷ p ≡ [] = sym (short-same [] (x ∷ p) (sym e) (omega arith)) in absurd (omega (arith, ap length z))
last-alike (x ∷ p) (y ∷ q) rs e h = first_alike (x ∷ p) (y ∷ q) [] rs e h

-- ---- bytes put behind the first n of a line

-- as many of the bytes as there is room for
module _ {l' : List ℕ} (l : List ℕ) (n : ℕ) (more : List ℕ) (room : n ≤ kept_size) (size : length l ≡ kept_size) where
  pub keep_some : {z : ℕ} → z ≡ min (length more) (length l - n) → l' ≡ take n l ++ take z more ++ drop (n + length (take z more)) l
      → Kept l n more l' (n + z)
  keep_some {z} e put =
      let a : length (take n l) ≡ n = length-take-le n l (omega arith) in
      let b : length (take z more) ≡ z = length-take-le z more (omega arith) in
      let f : take (n + z) (take n l ++ more) ≡ take n l ++ take z more =
      ap (λ (k : ℕ). take (k + z) (take n l ++ more)) (sym a) ∙ take-append-add (take n l) more z in
      record { count-is = omega arith; line-is = put ∙ ap₂ (λ (x : List ℕ) (k : ℕ). x ++ drop (n + k) l) (sym f) b }

-- ---- what was put is what is kept

cut-kept : (x : List ℕ) (r : ℕ) → r ≡ min (length x) kept_size → take r x ≡ kept x
unfolding kept
cut-kept x r e = sym (take-take r kept_size x (omega arith)) ∙ take_all r (take kept_size x) (omega (arith, length-take kept_size x))

module _ {l more l' : List ℕ} {n r : ℕ} (put : Kept l n more l' r) (room : n ≤ kept_size) (size : length l ≡ kept_size) where
  count-is : r ≡ min (length (take n l ++ more)) kept_size
  count-is =
      let a : length (take n l ++ more) ≡ length (take n l) + length more = length-append (take n l) more in
      let b : length (take n l) ≡ n = length-take-le n l (omega arith) in
      let c : r ≡ min (n + length more) (length l) = put.count-is in
      omega arith

  front_length : length (take r (take n l ++ more)) ≡ r
  front_length = length-take-le r (take n l ++ more) (omega (arith, count-is))

  put-within : r ≤ length l'
  put-within =
      let e : length l' ≡ length (take r (take n l ++ more)) + length (drop r l) =
      ap length put.line-is ∙ length-append (take r (take n l ++ more)) (drop r l) in
      omega (arith, front_length)

  put-kept : take r l' ≡ kept (take n l ++ more)
  put-kept =
      ap (λ (x : List ℕ). take r x) put.line-is ∙ take_at (take r (take n l ++ more)) (drop r l) r front_length
      ∙ cut-kept (take n l ++ more) r count-is

  -- the bytes kept, carried out, do as the line does
  pub carried-kept : {s o t o' : List ℕ} {w z : ℕ} → z ≡ r → Carried (take z l' ∷ []) s o w t o' → Carried ((take n l ++ more) ∷ []) s o w t o'
  carried-kept {s} {o} {t} {o'} {w} {z} e c =
      let f : kept (take z l') ≡ kept (take n l ++ more) =
      ap kept (ap (λ (k : ℕ). take k l') e ∙ put-kept) ∙ kept-kept (take n l ++ more) in
      carried-alike (λ rs. first_alike (take z l') (take n l ++ more) [] rs f) c

  -- a piece without a line end
  pub taken-whole : {e : ℕ} (s o : List ℕ) → e ≡ end_at more → e ≡ length more → TakenIn (take n l) s o more e 0 r l' s o
  taken-whole {e} s o a b =
      let m = endless (take n l) more (sym a ∙ b) in
      let w : take e more ≡ more = take_all e more (omega arith) in
      record {
        used-is = omega (arith, (end-span more).1);
        used-within = omega arith;
        done = rw (w, m.0) (carried_none s o);
        within = put-within;
        kept-is = put-kept ∙ ap kept (sym (ap (begun (take n l)) w ∙ m.1));
      }

-- a line of which nothing was kept
pub carried-fresh : {more s o t o' : List ℕ} {n w : ℕ} (l : List ℕ) → n ≡ 0 → Carried (more ∷ []) s o w t o' → Carried ((take n l ++ more) ∷ []) s o w t o'
carried-fresh l e c = rw e c

-- a piece with a line end
pub taken-line : {k s o i t o' : List ℕ} {e w z : ℕ} (l' : List ℕ) → e ≡ end_at i → (e ≡ length i → ⊥) → z ≡ e
    → Carried ((k ++ take z i) ∷ []) s o w t o'
    → TakenIn k s o i (e + 1) w 0 l' t o'
unfolding kept
taken-line {k} {s} {o} {i} {t} {o'} {e} {w} {z} l' a f b c =
    let g = end-span i in
    let m = ending k i (omega arith) in
    let u : take (e + 1) i ≡ take (suc (end_at i)) i = ap (λ (n : ℕ). take n i) (add-one e ∙ ap suc a) in
    let v : ended k (take (e + 1) i) ≡ (k ++ take z i) ∷ [] = ap (ended k) u ∙ m.0 ∙ ap (λ (n : ℕ). (k ++ take n i) ∷ []) (sym (b ∙ a)) in
    record {
      used-is = omega arith;
      used-within = omega arith;
      done = rw v c;
      within = omega arith;
      kept-is = sym (ap kept (ap (begun k) u ∙ m.1));
    }

-- ---- the end of the input

-- no last line
pub finish-none : (l s o : List ℕ) → length l ≡ 0 → Carried (last l) s o 0 s o
finish-none [] s o h = carried_none s o
finish-none (x ∷ l) s o h = absurd (omega arith)

-- a last line
pub finish-last : {s o t o' : List ℕ} {w : ℕ} (l : List ℕ) → (length l ≡ 0 → ⊥) → Carried (l ∷ []) s o w t o' → Carried (last l) s o w t o'
finish-last [] h c = absurd (h refl)
finish-last (x ∷ l) h c = c
