-- How long tags and values are, with numbers of 32 bits.
use mathlib.Core.Path.{◌≡◌}
use mathlib.Core.Option.{Option, none, some}
use mathlib.Core.List.{List, [], ◌∷◌, ◌++◌}
use Prim.Native.Nat.{ℕ, zero, suc, ◌+◌, ◌*◌, ◌≤◌, ◌<◌}
use native.Mathlib.Omega.{arith}
use lib.ListN.{length, length-append}
use lib.Dec.{T}
use Rattle.model.specs.Lists.{gather}
use Rattle.model.specs.Path.{Step}
use Rattle.model.specs.Value.{Content, allowed}
use Rattle.model.specs.Text.{ascii, decimal, measure_of}
use Rattle.model.specs.View.{letter}
use Rattle.model.specs.Xml.{escaped, attribute, value_xml, start_tag, end_tag, outer_tag}
use Rattle.model.proofs.Slots.{allowed-length}
use Rattle.kind.proofs.Rules.{letter-one}
use Rattle.text.proofs.Widths.{decimal-short, signed-short}
use Rattle.xml.specs.Pieces.{tag_start}
use Rattle.xml.proofs.Tags.{escaped-short}

-- the beginning of a tag
pub start-short : (a : Step) → (a.name < 4294967296) × (a.label < 4294967296) → length (tag_start a) ≤ 30
start-short a f =
    rw (length-append (decimal a.name))
    (omega (arith, decimal-short a.name (record { fits = f.0 }), decimal-short a.label (record { fits = f.1 })))

-- a tag is as long as its numbers and 40 bytes, an end tag as its number and four
pub tag-length : (a : Step) (c : Option Content) → length (start_tag a c) ≡ 40 + length (decimal a.name) + length (decimal a.label)
unfolding start_tag
tag-length a none =
    rw (length-append (decimal a.name), length-append (attribute "label" (decimal a.label)), length-append (decimal a.label)) (omega arith)
tag-length a (some c) =
    let one : length (letter c.kind) ≡ 1 = letter-one c.kind in
    rw (
      length-append (decimal a.name),
      length-append (attribute "label" (decimal a.label)),
      length-append (decimal a.label),
      length-append (attribute "kind" (letter c.kind)),
      length-append (letter c.kind),
    ) (omega (arith, one))

pub tag-short : (a : Step) (c : Option Content) → (a.name < 4294967296) × (a.label < 4294967296) → length (start_tag a c) ≤ 60
tag-short a c f = omega (arith, tag-length a c, decimal-short a.name (record { fits = f.0 }), decimal-short a.label (record { fits = f.1 }))

pub end-length : (n : ℕ) → length (end_tag n) ≡ 4 + length (decimal n)
unfolding end_tag
end-length n = rw (length-append (decimal n)) (omega arith)

pub outer-length : (s : ℕ) → length (outer_tag s) ≡ 20 + length (decimal s)
unfolding outer_tag
outer-length s = rw (length-append (decimal s ++ ascii "\""), length-append (decimal s)) (omega arith)

escaped-all : (v : List ℕ) → length (gather escaped v) ≤ 5 * length v
escaped-all [] = omega arith
escaped-all (x ∷ v) = rw length-append (omega (arith, escaped-short x, escaped-all v))

pub value-short : (k : ℕ) (v : List ℕ) → T (allowed k v) → length (value_xml k v) ≤ 80
unfolding value_xml
value-short zero v t = omega arith
value-short (suc zero) v t = omega (arith, signed-short (measure_of v))
value-short (suc (suc k)) v t = omega (arith, escaped-all v, allowed-length (suc (suc k)) v t)
