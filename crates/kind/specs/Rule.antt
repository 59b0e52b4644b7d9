-- The rule of each kind, and what passes a rule.
use Rattle.std.specs.Prelude.{Bool, true, false, ◌&&◌, List, ℕ, zero, suc, length, leb}
use Rattle.model.specs.Lists.{all}
use Rattle.kind.specs.declared.Kind.{Kind}
use Rattle.kind.specs.declared.Kind.TheVariants.{Group, Measure, Text}
use Rattle.kind.specs.declared.Rule.{Rule}

-- a group: no bytes; a measure: 4 bytes; a text: 1 to 16 bytes, each 32 to 126. The letters are G, M and T; a measure is a number
unfoldable pub rule_of : Kind → Rule
rule_of Group = record { least = 0; most = 0; low = 0; high = 255; letter = 71; number = false }
rule_of Measure = record { least = 4; most = 4; low = 0; high = 255; letter = 77; number = true }
rule_of Text = record { least = 1; most = 16; low = 32; high = 126; letter = 84; number = false }

-- the rule of the kind with a number: 0 group, 1 measure, 2 text; no length is right for any other
unfoldable pub numbered_rule : ℕ → Rule
numbered_rule zero = rule_of Group
numbered_rule (suc zero) = rule_of Measure
numbered_rule (suc (suc zero)) = rule_of Text
numbered_rule (suc (suc (suc k))) = record { least = 1; most = 0; low = 0; high = 255; letter = 84; number = false }

-- low to high
abbrev pub within : ℕ → ℕ → ℕ → Bool
within low high x = leb low x && leb x high

-- as many bytes as the rule says, each as it says
unfoldable pub passes : Rule → List ℕ → Bool
passes r v = leb r.least (length v) && leb (length v) r.most && all (within r.low r.high) v
