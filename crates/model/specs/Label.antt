-- Labels and dominance (document 01, "Labels").
use Rattle.std.specs.Prelude.{Bool, ◌&&◌, List, ℕ, ◌/◌, ◌%◌, leb, ltb}
use Rattle.model.specs.Lists.{range}

-- a label is 0 to 31: level × 8 + compartments
unfoldable pub is_label : ℕ → Bool
is_label l = ltb l 32

abbrev pub labels : List ℕ
labels = range (λ n. n) 0 32

-- 0 open, 1 trade, 2 house, 3 sealed
unfoldable pub level : ℕ → ℕ
level l = l / 8

-- the compartments number: a sum of 1 (sizing), 2 (fabric) and 4 (cost)
unfoldable pub compartments : ℕ → ℕ
compartments l = l % 8

-- each compartment, 0 or 1
unfoldable pub sizing : ℕ → ℕ
sizing l = l % 2

unfoldable pub fabric : ℕ → ℕ
fabric l = l / 2 % 2

unfoldable pub cost : ℕ → ℕ
cost l = l / 4 % 2

-- l's compartments include all of m's
unfoldable pub includes : ℕ → ℕ → Bool
includes l m = leb (sizing m) (sizing l) && leb (fabric m) (fabric l) && leb (cost m) (cost l)

-- l dominates m, both being labels
unfoldable pub dominates : ℕ → ℕ → Bool
dominates l m = is_label l && is_label m && leb (level m) (level l) && includes l m
