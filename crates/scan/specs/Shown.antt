-- What a start tag shows of an element: its kind, or none if it is removed.
use Rattle.std.proofs.Math.Option.{none, some}
use Rattle.std.proofs.Math.Option as logic
use Rattle.std.specs.Prelude.{List, ℕ, zero, suc, Option, Some, None}
use Rattle.model.specs.Value.{Content}
use Rattle.kind.specs.Code.{code}
use Rattle.kind.specs.declared.Kind.{Kind}
use Rattle.kind.specs.declared.Kind.TheVariants.{Group, Measure, Text}

-- the content that it shows, with a value
abbrev pub content_in : Option Kind → List ℕ → logic.Option Content
content_in None v = none
content_in (Some k) v = some (record { kind = code k; value = v })

-- the kind of a number, of which three have one
abbrev pub kind_at : ℕ → Kind
kind_at zero = Group
kind_at (suc zero) = Measure
kind_at (suc (suc k)) = Text

-- what shows a content
abbrev pub shows : logic.Option Content → Option Kind
shows none = None
shows (some c) = Some (kind_at c.kind)
