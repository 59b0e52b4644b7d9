-- How long the lines are, with numbers of 32 bits.
use mathlib.Core.Path.{◌≡◌}
use mathlib.Core.Bool.{Bool, true, false, cond}
use mathlib.Core.Option.{none, some}
use Prim.Native.Nat.{ℕ, ◌≤◌, ◌<◌}
use native.Mathlib.Omega.{arith}
use lib.ListN.{length, length-append}
use lib.Dec.{T}
use mir.Syntax.{w32}
use mir.Val.{Fits}
use Rattle.model.specs.Value.{Content, storable}
use Rattle.model.specs.Path.{Step}
use Rattle.model.specs.View.{letter, shown, head_line}
use Rattle.kind.proofs.Rules.{letter-one}
use Rattle.text.proofs.Widths.{decimal-short, shown-short}
use Rattle.line.specs.Line.{line_of, number_field, line_start}
use Rattle.line.proofs.Lines.{removed-line, live-line, head-line}

-- a number and a tab
pub field-short : (n : ℕ) → Fits w32 n → length (number_field n) ≤ 11
field-short n f = rw length-append (omega (arith, decimal-short n f))

-- the first line of a listing
pub head-short : {s n : ℕ} → Fits w32 s → Fits w32 n → length (head_line s n) ≤ 64
head-short {s} {n} f g = rw (← head-line s n, length-append, length-append, length-append, length-append) (omega (arith, decimal-short s f, decimal-short n g))

-- the line of an element, by depth, name and label
module _ {d n l : ℕ} (f : Fits w32 d) (g : (n < 4294967296) × (l < 4294967296)) where
  pub start-short : length (line_start d (record { name = n; label = l })) ≤ 33
  start-short = rw (length-append (number_field d), length-append (number_field n)) (omega (arith, field-short d f, field-short n (record { fits = g.0 }), field-short l (record { fits = g.1 })))

  -- live or removed
  pub line-short : (live : Bool) (c : Content) → T (storable c) → length (line_of d (record { name = n; label = l }) (cond live (some c) none)) ≤ 64
  unfolding storable
  line-short true c t =
      let one : length (letter c.kind) ≡ 1 = letter-one c.kind in
      let a : Step = record { name = n; label = l } in
      rw (← live-line d a c.kind c.value, length-append (line_start d a), length-append (letter c.kind), length-append (shown c.kind c.value))
      (omega (arith, start-short, one, shown-short c.kind c.value t))
  line-short false c t = rw (← removed-line d (record { name = n; label = l }), length-append) (omega (arith, start-short))
