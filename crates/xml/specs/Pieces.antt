-- The part that all tags of elements begin with.
use Rattle.std.specs.Prelude.{List, ◌++◌, ℕ}
use Rattle.model.specs.Path.{Step}
use Rattle.model.specs.Text.{ascii, decimal}
use Rattle.model.specs.Xml.{tag_name}

-- the name, and the label up to its last digit
abbrev pub tag_start : Step → List ℕ
tag_start a = ascii "<" ++ (tag_name a.name ++ (ascii " label=\"" ++ decimal a.label))
