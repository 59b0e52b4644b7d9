-- A tree taken in for a label: its rows behind the text, the path of its own element, and what the call has done.
use Rattle.std.specs.Prelude.{◌≡◌, List, [], ◌∷◌, ◌++◌, ℕ, ◌+◌, ◌*◌, ◌/◌, length, take, T}
use Rattle.model.specs.Path.{Step, steps_of}
use Rattle.model.specs.Model.{open_model}
use Rattle.model.specs.Tree.{Forest}
use Rattle.model.specs.Intake.{siblings, own_live, Sends, Sending}
use Rattle.model.specs.Rows.{view_path, tree_rows, row_code}
use Rattle.model.specs.Call.{insert_xml, counted}
use Rattle.store.specs.Opened.{Opened}
use Rattle.promise.specs.Did.{Acted}
use Rattle.xml_read.specs.Trees.{size}
use Rattle.xml_read.specs.Records.{marks, Noted}
use Rattle.xml_read.specs.declared.Mark.{Mark}

-- a buffer for six steps holds the path p given as bytes, and the step a behind it
pub record TopPath (p : List ℕ) (a : Step) (buffer : List ℕ) : Type 0 where
  pub size : length buffer ≡ 18
  pub above : steps_of (take (3 * (length p / 3)) buffer) ≡ steps_of p
  pub whole : steps_of (take (length p + 3) buffer) ≡ steps_of p ++ (a ∷ [])

-- the number of the first of rows 7 to 9 that applies, or 0, for a tree of n elements and the paths of its parent and of its own element,
-- which bears the label
abbrev pub TreeRow : (s : ℕ) (store parent path : List ℕ) (n number : ℕ) → Type 0
TreeRow s b p q n k =
    (a : Step) → a.label ≡ s → steps_of q ≡ steps_of p ++ (a ∷ []) → k ≡ row_code (tree_rows s (open_model b) (steps_of p) (a ∷ []) n)

-- rows 1 to 4, 13 and 14 do not apply: the tree of n elements that the text sends, the name of its own, and what is kept of the elements
pub record Ready (s : ℕ) (parent text store : List ℕ) (name n : ℕ) (kept : List Mark) : Type 0 where
  pub opened : Opened store s
  pub path : T (view_path parent)
  pub sent : Forest
  pub sends : Sends (length (steps_of parent)) text sent
  pub own : T (own_live s sent)
  pub step : siblings sent ≡ record { name = name; label = s } ∷ []
  pub counts : n ≡ size sent
  pub noted : Noted kept (marks (length (steps_of parent)) 0 sent)

-- for a label on a store of the right size: the tree that the text sends, or none, and what was done with it
pub record ActedXml (label : ℕ) (parent text store : List ℕ) (number count : ℕ) (store' : List ℕ) : Type 0 where
  pub sent : Forest
  pub reads : Sending (length (steps_of parent)) text sent
  pub acted : Acted (insert_xml parent sent) label store [] (counted number count) store' []
