-- The steps of a lent path, step by step, and their keys as numbers.
use Rattle.std.specs.Prelude.{◌≡◌, Bool, true, ◌&&◌, List, [], ◌∷◌, ℕ, ◌+◌, ◌*◌, ◌/◌, ◌%◌, get_or, set, T}
use Rattle.model.specs.Lists.{all, is_byte}
use Rattle.model.specs.Label.{dominates}
use Rattle.model.specs.Path.{Step, valid_step}

-- the step with a name and a label
abbrev pub step_with : ℕ → ℕ → Step
step_with name label = record { name = name; label = label }

-- the step of three bytes: the name, lowest byte first, and the label
abbrev pub step_of : ℕ → ℕ → ℕ → Step
step_of lo hi l = step_with (lo + 256 * hi) l

-- step i of a lent path
abbrev pub lent_step : List ℕ → ℕ → Step
lent_step p i = step_of (get_or p (3 * i) 0) (get_or p (3 * i + 1) 0) (get_or p (3 * i + 2) 0)

-- a step that may follow one with label l
unfoldable pub may_follow : ℕ → Step → Bool
may_follow l a = valid_step a && dominates a.label l

-- steps that may follow one with label l, one after another
abbrev pub all_follow : ℕ → List Step → Bool
all_follow l [] = true
all_follow l (a ∷ p) = may_follow l a && all_follow a.label p

-- ---- keys as numbers

-- numbers read as digits of base 256 behind the number w, the highest first
abbrev pub word_from : ℕ → List ℕ → ℕ
word_from w [] = w
word_from w (d ∷ l) = word_from (256 * w + d) l

-- the numbers behind the first are digits
abbrev pub in_digits : List ℕ → Bool
in_digits [] = true
in_digits (d ∷ l) = all is_byte l

-- w is the key k of step a, as one number
pub record KeyOf (k : Step → List ℕ) (a : Step) (w : ℕ) : Type 0 where
  pub word : w ≡ word_from 0 (k a)
  pub digits : T (in_digits (k a))

-- a buffer with a step written behind n others
abbrev pub put_step : List ℕ → ℕ → ℕ → ℕ → List ℕ
put_step b n name label = set (set (set b (3 * n) (name % 256)) (3 * n + 1) (name / 256)) (3 * n + 2) label
