-- Views as XML (document 02, request 1/14).
use Rattle.std.specs.Prelude.{cond, List, [], ◌∷◌, ◌++◌, ℕ, zero, suc, eqb}
use Rattle.std.proofs.Math.Option.{Option, none, some}
use Prim.Native.String.{String}
use Rattle.model.specs.Lists.{gather}
use Rattle.model.specs.Path.{Step}
use Rattle.model.specs.Value.{Content}
use Rattle.model.specs.Element.{Element}
use Rattle.model.specs.Model.{Model}
use Rattle.model.specs.Text.{ascii, decimal, measure_of, signed}
use Rattle.model.specs.View.{visible, letter}
use Rattle.model.specs.Tree.{Forest, empty, element, forest}

-- a character of a text: &, < and > are escaped
unfoldable pub escaped : ℕ → List ℕ
escaped x = cond (eqb x 38) (ascii "&amp;") (cond (eqb x 60) (ascii "&lt;") (cond (eqb x 62) (ascii "&gt;") (x ∷ [])))

-- ---- an element's tags and value

-- e and the name number
abbrev pub tag_name : ℕ → List ℕ
tag_name n = ascii "e" ++ decimal n

-- one space before an attribute, whose value is double quoted
abbrev pub attribute : String → List ℕ → List ℕ
attribute name v = ascii " " ++ (ascii name ++ (ascii "=\"" ++ (v ++ ascii "\"")))

-- whether the element is live or removed
abbrev pub preserve : Option Content → List ℕ
preserve none = ascii "REMOVED"
preserve (some c) = ascii "PRESENT"

-- the printed letter, - if removed
abbrev pub kind_letter : Option Content → List ℕ
kind_letter none = ascii "-"
kind_letter (some c) = letter c.kind

unfoldable pub start_tag : Step → Option Content → List ℕ
start_tag a c =
    ascii "<"
    ++ (tag_name a.name ++ (attribute "label" (decimal a.label) ++ (attribute "preserve" (preserve c) ++ (attribute "kind" (kind_letter c) ++ ascii ">"))))

unfoldable pub end_tag : ℕ → List ℕ
end_tag n = ascii "</" ++ (tag_name n ++ ascii ">")

-- a group has no value, a measure is in decimal, a text is escaped
unfoldable pub value_xml : ℕ → List ℕ → List ℕ
value_xml zero v = []
value_xml (suc zero) v = signed (measure_of v)
value_xml (suc (suc k)) v = gather escaped v

-- a removed element has no value
abbrev pub content_xml : Option Content → List ℕ
content_xml none = []
content_xml (some c) = value_xml c.kind c.value

-- ---- elements: the tag, the value, the elements inside, the end tag

abbrev pub xml : Forest → List ℕ
xml empty = []
xml (element a c inside behind) = start_tag a c ++ (content_xml c ++ (xml inside ++ (end_tag a.name ++ xml behind)))

-- the outer dossier tag of subject s, and its end tag
unfoldable pub outer_tag : ℕ → List ℕ
outer_tag s = ascii "<dossier" ++ (attribute "subject" (decimal s) ++ ascii ">")

abbrev pub outer_end : List ℕ
outer_end = ascii "</dossier>"

-- trees inside it
unfoldable pub document : ℕ → Forest → List ℕ
document s f = outer_tag s ++ (xml f ++ outer_end)

-- the visible elements v at or below path p, for subject s
unfoldable pub xml_of : ℕ → List Element → List Step → List ℕ
xml_of s v p = document s (forest v p)

-- what a view as XML writes for subject s and path p
unfoldable pub xml_view : ℕ → Model → List Step → List ℕ
xml_view s m p = xml_of s (visible s m) p
