-- Lists that are joined by a separator and split again.
use mathlib.Core.Path.{◌≡◌, refl, ap, ◌∙◌}
use mathlib.Core.Bool.{Bool, true, not, cond}
use mathlib.Core.List.{List, [], ◌∷◌, ◌++◌, map}
use Prim.Native.Nat.{ℕ}
use lib.Dec.{T, eqb, eqb_refl}
use mir.Facts.{T_not, not_T, eqb_yes}
use Rattle.model.specs.Lists.{all, joined}
use Rattle.model.proofs.Bools.{and_l, and_r, both, cond_yes, cond_no}
use Rattle.model.proofs.Lists.{all_append, all-implies}

-- ---- tests that hold throughout

pub all_map : {A B : Type 0} (p : B → Bool) (f : A → B) → ((a : A) → T (p (f a))) → (l : List A) → T (all p (map f l))
all_map p f h [] = tt
all_map p f h (a ∷ l) = both (p (f a)) (all p (map f l)) (h a) (all_map p f h l)

pub all-joined : (p : ℕ → Bool) (sep : ℕ) → T (p sep) → (fs : List (List ℕ)) → T (all (all p) fs) → T (all p (joined sep fs))
all-joined p sep h [] t = tt
all-joined p sep h (f ∷ []) t = and_l (all p f) true t
all-joined p sep h (f ∷ g ∷ fs) t =
    all_append p f (sep ∷ joined sep (g ∷ fs)) (and_l (all p f) (all (all p) (g ∷ fs)) t)
    (both (p sep) (all p (joined sep (g ∷ fs))) h (all-joined p sep h (g ∷ fs) (and_r (all p f) (all (all p) (g ∷ fs)) t)))

-- ---- splitting at a separator

-- a byte before the first field
abbrev before : ℕ → List (List ℕ) → List (List ℕ)
before x [] = (x ∷ []) ∷ []
before x (f ∷ fs) = (x ∷ f) ∷ fs

-- the fields that one separator parts from the next
abbrev pub split : ℕ → List ℕ → List (List ℕ)
split sep [] = [] ∷ []
split sep (x ∷ l) = let fs = split sep l in cond (eqb x sep) ([] ∷ fs) (before x fs)

-- a list that does not hold the separator
abbrev pub lacks : ℕ → List ℕ → Bool
lacks sep l = all (λ x. not (eqb x sep)) l

-- what passes a test that the separator fails
pub lacks-of : (p : ℕ → Bool) (sep : ℕ) → T (not (p sep)) → (l : List ℕ) → T (all p l) → T (lacks sep l)
lacks-of p sep h l = all-implies p (λ x. not (eqb x sep)) l other
  where
    other : (x : ℕ) → T (p x) → T (not (eqb x sep))
    other x t = not_T (eqb x sep) (λ k. let e : x ≡ sep = eqb_yes k in T_not (p sep) (rw e at t) h)

module _ (sep : ℕ) where
  split_one : (f : List ℕ) → T (lacks sep f) → split sep f ≡ f ∷ []
  split_one [] t = refl
  split_one (x ∷ f) t =
      cond_no (eqb x sep) ([] ∷ split sep f) (before x (split sep f)) (and_l (not (eqb x sep)) (lacks sep f) t)
      ∙ ap (before x) (split_one f (and_r (not (eqb x sep)) (lacks sep f) t))

  split-next : (f l : List ℕ) → T (lacks sep f) → split sep (f ++ (sep ∷ l)) ≡ f ∷ split sep l
  split-next [] l t = cond_yes (eqb sep sep) ([] ∷ split sep l) (before sep (split sep l)) (eqb_refl sep)
  split-next (x ∷ f) l t =
      cond_no (eqb x sep) ([] ∷ split sep (f ++ (sep ∷ l))) (before x (split sep (f ++ (sep ∷ l)))) (and_l (not (eqb x sep)) (lacks sep f) t)
      ∙ ap (before x) (split-next f l (and_r (not (eqb x sep)) (lacks sep f) t))

  -- fields that do not hold the separator are split as they were joined
  pub split-joined : (f : List ℕ) (fs : List (List ℕ)) → T (all (lacks sep) (f ∷ fs)) → split sep (joined sep (f ∷ fs)) ≡ f ∷ fs
  split-joined f [] t = split_one f (and_l (lacks sep f) true t)
  split-joined f (g ∷ fs) t =
      split-next f (joined sep (g ∷ fs)) (and_l (lacks sep f) (all (lacks sep) (g ∷ fs)) t)
      ∙ ap (λ (hs : List (List ℕ)). f ∷ hs) (split-joined g fs (and_r (lacks sep f) (all (lacks sep) (g ∷ fs)) t))
