-- What a view as XML does.
use mathlib.Core.Path.{refl}
use mathlib.Core.List.{List}
use Prim.Native.Nat.{ℕ}
use lib.ListN.{length}
use Rattle.model.specs.Path.{steps_of}
use Rattle.model.specs.Model.{open_model}
use Rattle.model.specs.Xml.{xml_view}
use Rattle.model.specs.Call.{view_xml, op_rows, effect}
use Rattle.table.proofs.Looking.{Looks}

pub xml-looks : (s : ℕ) (b p o : List ℕ) → Looks (view_xml p (length o)) s b p o (xml_view s (open_model b) (steps_of p))
unfolding op_rows effect
xml-looks s b p o = record { rows = refl; counts = refl; does = refl }
