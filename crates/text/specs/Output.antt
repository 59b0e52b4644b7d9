-- What is put into an output.
use Rattle.std.specs.Prelude.{◌≡◌, List, ℕ}
use Rattle.text.specs.declared.output.Output.{Output}
use Rattle.text.specs.Overlay.{Wrote}

-- the bytes xs are written behind those that were, into the same output
abbrev pub Puts : Output → List ℕ → Output → Type 0
Puts o xs p = (p.bytes.ghost_name ≡ o.bytes.ghost_name) × Wrote o.bytes.now o.at xs p.bytes.now p.at
