-- Lines by their parts.
use mathlib.Core.Path.{◌≡◌, ap}
use mathlib.Core.Option.{none, some}
use mathlib.Core.List.{List, [], ◌∷◌, ◌++◌, append_assoc}
use Prim.Native.Nat.{ℕ}
use Rattle.model.specs.Path.{Step}
use Rattle.model.specs.Text.{ascii, decimal}
use Rattle.model.specs.View.{letter, shown, head_line}
use Rattle.line.specs.Line.{line_of, number_field, line_start}

pub removed-line : (d : ℕ) (a : Step) → line_start d a ++ ascii "R\t-\t-\n" ≡ line_of d a none
unfolding line_of
removed-line d a = simp append_assoc

-- kind and value, up to the line's end
pub content-end : (k : ℕ) (v : List ℕ) {x : ℕ} → x ∷ [] ≡ letter k
    → x ∷ 9 ∷ (shown k v ++ (10 ∷ [])) ≡ letter k ++ (9 ∷ (shown k v ++ (10 ∷ [])))
content-end k v e = ap (λ (l : List ℕ). l ++ (9 ∷ (shown k v ++ (10 ∷ [])))) e

pub live-line : (d : ℕ) (a : Step) (k : ℕ) (v : List ℕ)
    → line_start d a ++ (ascii "P\t" ++ (letter k ++ (9 ∷ (shown k v ++ (10 ∷ []))))) ≡ line_of d a (some (record { kind = k; value = v }))
unfolding line_of
live-line d a k v = simp append_assoc

pub head-line : (s n : ℕ) → ascii "VIEW\t" ++ (number_field s ++ (decimal n ++ (10 ∷ []))) ≡ head_line s n
unfolding head_line
head-line s n = simp append_assoc
