-- Values in a line.
use Rattle.std.specs.Prelude.{◌≡◌, List, ◌∷◌, ℕ, ◌-◌, ◌≤◌, length, drop, T, Option, Some, None}
use Rattle.model.specs.Lists.{joined}
use Rattle.model.specs.Script.{ScriptValue, group, measure, text, value_fields, value_in_range}
use Rattle.script.specs.declared.Value.{Value}
use Rattle.script.specs.declared.Value.TheVariants.{Group, Measure, Text}

-- the value that a line's code stands for: a text is the last bytes of the line
abbrev pub value_of : Value → List ℕ → ScriptValue
value_of Group l = group
value_of (Measure m) l = measure m
value_of (Text n) l = text (drop (length l - n) l)

-- how many bytes of the line are its text
abbrev pub text_length : Value → ℕ
text_length Group = 0
text_length (Measure m) = 0
text_length (Text n) = n

-- l is the kind letter, a tab and what stands for the value
pub record Valued (l : List ℕ) (v : ScriptValue) : Type 0 where
  pub ranges : T (value_in_range v)
  pub same : l ≡ joined 9 (value_fields v)

-- what a value read behind the letter k and a tab says
abbrev pub ShownAt : ℕ → List ℕ → ℕ → Option Value → Type 0
ShownAt k l at (Some v) = (text_length v ≤ length l) × Valued (k ∷ 9 ∷ drop at l) (value_of v l)
ShownAt k l at None = (v : ScriptValue) → Valued (k ∷ 9 ∷ drop at l) v → ⊥

-- what a value read at a place says
abbrev pub ValueAt : List ℕ → ℕ → Option Value → Type 0
ValueAt l at (Some v) = (text_length v ≤ length l) × Valued (drop at l) (value_of v l)
ValueAt l at None = (v : ScriptValue) → Valued (drop at l) v → ⊥
