-- Lists: tests over the members, parts, fixed widths and joined fields.
use Rattle.std.specs.Prelude.{Bool, true, false, cond, ◌&&◌, ◌||◌, ℕ, zero, suc, ◌-◌, take, drop, replicate, eqb, ltb}
use mathlib.Core.List.{List, [], ◌∷◌, ◌++◌, Memᴰ}

-- a member of a list
infix 50 ◌∈◌
abbrev pub ◌∈◌ : {A : Type 0} → A → List A → Type 0
x ∈ l = Memᴰ x l

module _ {A : Type 0} where
  -- every member passes
  abbrev pub all : (A → Bool) → List A → Bool
  all p [] = true
  all p (x ∷ l) = p x && all p l

  -- some member passes
  abbrev pub any : (A → Bool) → List A → Bool
  any p [] = false
  any p (x ∷ l) = p x || any p l

  -- the members that pass, in their order
  abbrev pub keep : (A → Bool) → List A → List A
  keep p [] = []
  keep p (x ∷ l) = cond (p x) (x ∷ keep p l) (keep p l)

  -- the lists that f gives for the members, one after another
  abbrev pub gather : {B : Type 0} → (A → List B) → List A → List B
  gather f [] = []
  gather f (x ∷ l) = f x ++ gather f l

  -- g i, g (i + 1) and so on, n of them
  abbrev pub range : (ℕ → A) → ℕ → ℕ → List A
  range g i zero = []
  range g i (suc n) = g i ∷ range g (suc i) n

-- a number that a byte holds
unfoldable pub is_byte : ℕ → Bool
is_byte x = ltb x 256

-- all zero
abbrev pub all_zero : List ℕ → Bool
all_zero l = all (λ x. eqb x 0) l

-- equal lists of bytes
abbrev pub same_bytes : List ℕ → List ℕ → Bool
same_bytes [] [] = true
same_bytes [] (y ∷ m) = false
same_bytes (x ∷ l) [] = false
same_bytes (x ∷ l) (y ∷ m) = eqb x y && same_bytes l m

-- members a to e - 1 of a list
abbrev pub between : {A : Type 0} → ℕ → ℕ → List A → List A
between a e l = take (e - a) (drop a l)

-- n numbers: those of l, then zeros
unfoldable pub pad : ℕ → List ℕ → List ℕ
pad n l = take n (l ++ replicate n 0)

-- lists joined by a separator
abbrev pub joined : ℕ → List (List ℕ) → List ℕ
joined sep [] = []
joined sep (f ∷ []) = f
joined sep (f ∷ g ∷ fs) = f ++ (sep ∷ joined sep (g ∷ fs))
