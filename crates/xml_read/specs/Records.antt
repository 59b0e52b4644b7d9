-- What is kept of the elements of a text while it is read: enough to put them in without reading their tags again.
use Rattle.std.specs.Prelude.{◌≡◌, List, [], ◌∷◌, ◌++◌, ℕ, suc, ◌+◌, length, take}
use Rattle.model.specs.Tree.{Forest, empty, element}
use Rattle.model.specs.Xml.{start_tag, end_tag, content_xml, xml}
use Rattle.scan.specs.Shown.{shows}
use Rattle.xml_read.specs.declared.Mark.{Mark}

-- of the elements of trees below d steps whose text begins at a place, each before those inside it
abbrev pub marks : ℕ → ℕ → Forest → List Mark
marks d at empty = []
marks d at (element a c inside behind) =
    let value = at + length (start_tag a c) in
    let first = value + length (content_xml c) in
    record { steps = d; name = a.name; shown = shows c; place = value }
    ∷ (marks (suc d) first inside ++ marks d (first + length (xml inside) + length (end_tag a.name)) behind)

-- a buffer begins with the marks of the first 32 elements at most
pub record Noted (kept ms : List Mark) : Type 0 where
  pub are : take (length (take 32 ms)) kept ≡ take 32 ms

-- where a buffer begins with the marks of k elements, what it becomes begins with those and, behind them, ms
pub record Marked (kept : List Mark) (k : ℕ) (kept' ms : List Mark) : Type 0 where
  pub goes_on : (done : List Mark) → length done ≡ k → Noted kept done → Noted kept' (done ++ ms)
