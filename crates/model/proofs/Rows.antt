-- The table walked row by row: the first row that applies gives the refusal.
use mathlib.Core.Path.{◌≡◌, refl, sym, ap, ◌∙◌}
use mathlib.Core.Bool.{Bool, true, false, not, cond, ◌&&◌}
use mathlib.Core.Option.{Option, none, some}
use mathlib.Core.List.{List, [], ◌∷◌, ◌++◌}
use Prim.Native.Nat.{ℕ, ◌<◌}
use native.Mathlib.Omega.{arith}
use lib.Dec.{T, ltb}
use mir.Facts.{ltb_yes}
use Rattle.model.specs.Rows.{Row, row, refusal, code_of, row_code}
use Rattle.model.proofs.Bools.{and_l, and_r, cond_yes, cond_no, decide}

-- no row applies
abbrev pub Passes : List Row → Type 0
Passes [] = Unit {0}
Passes (row k t ∷ rs) = T (not t) × Passes rs

pub passes : (rs : List Row) → refusal rs ≡ none → Passes rs
unfolding refusal
passes [] e = tt
passes (row k true ∷ rs) e = let z : ◌≡◌ {A = ℕ} 0 1 = cc in absurd (omega arith)
passes (row k false ∷ rs) e = (tt, passes rs e)

pub passes-both : (front rest : List Row) → Passes (front ++ rest) → Passes front × Passes rest
passes-both [] rest p = (tt, p)
passes-both (row k t ∷ front) rest p = ((p.0, (passes-both front rest p.1).0), (passes-both front rest p.1).1)

pub passes_append : (front rest : List Row) → Passes front → Passes rest → Passes (front ++ rest)
passes_append [] rest p q = q
passes_append (row k t ∷ front) rest p q = (p.0, passes_append front rest p.1 q)

-- ---- rows in front of others

-- rows that pass leave the refusal to what is behind them
pub refusal-past : (front rest : List Row) → Passes front → refusal (front ++ rest) ≡ refusal rest
unfolding refusal
refusal-past [] rest p = refl
refusal-past (row k t ∷ front) rest p = cond_no t (some k) (refusal (front ++ rest)) p.0 ∙ refusal-past front rest p.1

-- behind rows that are the same, what differs counts only if none of them applies
pub refusal-behind : (front rs us : List Row) → (Passes front → refusal rs ≡ refusal us) → refusal (front ++ rs) ≡ refusal (front ++ us)
unfolding refusal
refusal-behind [] rs us f = f tt
refusal-behind (row k t ∷ front) rs us f =
    decide t
    (λ (h : T t). cond_yes t (some k) (refusal (front ++ rs)) h ∙ sym (cond_yes t (some k) (refusal (front ++ us)) h))
    (λ (h : T (not t)). ap (cond t (some k)) (refusal-behind front rs us (λ p. f (h, p))))

-- ---- the number of the first row that applies

-- it is a first row's that applies
pub row-applies : {k : ℕ} (t : Bool) (rest : List Row) → T t → k ≡ row_code (row k t ∷ rest)
unfolding refusal
row-applies {k} t rest h = sym (ap code_of (cond_yes t (some k) (refusal rest) h))

-- where it is not 0 it stops there
pub rows-stop : (front rest : List Row) {k : ℕ} → k ≡ row_code front → (k ≡ 0 → ⊥) → k ≡ row_code (front ++ rest)
unfolding refusal
rows-stop [] rest e h = absurd (h e)
rows-stop (row j true ∷ front) rest e h = e
rows-stop (row j false ∷ front) rest e h = rows-stop front rest e h

-- behind rows that pass it goes on
pub rows_behind : (front rest : List Row) → Passes front → {k : ℕ} → k ≡ row_code rest → k ≡ row_code (front ++ rest)
rows_behind front rest p e = e ∙ ap code_of (sym (refusal-past front rest p))

-- no row has number 0
abbrev pub numbered : List Row → Bool
numbered [] = true
numbered (row k t ∷ rs) = ltb 0 k && numbered rs

-- so where it is 0 they pass
pub rows_pass : (rs : List Row) → T (numbered rs) → {k : ℕ} → k ≡ row_code rs → k ≡ 0 → Passes rs
unfolding refusal
rows_pass [] t e z = tt
rows_pass (row j true ∷ rs) t e z =
    let p : 0 < j = ltb_yes (and_l (ltb 0 j) (numbered rs) t) in
    absurd (omega arith)
rows_pass (row j false ∷ rs) t e z = (tt, rows_pass rs (and_r (ltb 0 j) (numbered rs) t) e z)

-- and where it is not, it is the refusal
pub rows-refuse : (rs : List Row) {k : ℕ} → k ≡ row_code rs → (k ≡ 0 → ⊥) → refusal rs ≡ some k
rows-refuse rs {k} e h = go (refusal rs) e
  where
    go : (r : Option ℕ) → k ≡ code_of r → r ≡ some k
    go none q = absurd (h q)
    go (some j) q = ap some (sym q)

-- rows that pass refuse nothing
pub rows_none : (rs : List Row) → Passes rs → refusal rs ≡ none
unfolding refusal
rows_none [] p = refl
rows_none (row k t ∷ rs) p = cond_no t (some k) (refusal rs) p.0 ∙ rows_none rs p.1

pub rows_end : (rs : List Row) → Passes rs → 0 ≡ row_code rs
rows_end rs p = sym (ap code_of (rows_none rs p))
