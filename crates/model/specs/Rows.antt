-- The table of refusals: its rows, and the groups of them that calls share (document 01, "The four calls"; document 02).
use Rattle.std.specs.Prelude.{Bool, not, cond, ◌&&◌, ◌||◌, List, [], ◌∷◌, ◌++◌, ℕ, ◌+◌, ◌%◌, length, eqb, leb, ltb}
use Rattle.std.proofs.Math.Option.{Option, none, some}
use Rattle.model.specs.Lists.{any}
use Rattle.model.specs.Label.{labels, is_label, dominates}
use Rattle.model.specs.Path.{Step, ends_in, valid_path, steps_of}
use Rattle.model.specs.Value.{Content, bringable}
use Rattle.model.specs.Store.{store_size}
use Rattle.model.specs.Model.{Model, is_held, own_set, live}
use Rattle.model.specs.View.{visible, in_view}
use Rattle.model.specs.Tree.{Forest, entries}
use Rattle.model.specs.Intake.{siblings, in_form, own_live, is_one}
use Rattle.model.specs.Grade.{is_measure, measure_at}
use Rattle.model.specs.Groups.{seen_steps, own_behind, missing_paths}

-- a row has a number and whether its cause applies
pub data Row : Type 0 where
  row : (number : ℕ) (applies : Bool) → Row

-- the number of the first row that applies
unfoldable pub refusal : List Row → Option ℕ
refusal [] = none
refusal (row k t ∷ rs) = cond t (some k) (refusal rs)

-- a refusal's number, 0 for none
abbrev pub code_of : Option ℕ → ℕ
code_of none = 0
code_of (some k) = k

-- the number of the first row that applies, 0 if none does
abbrev pub row_code : List Row → ℕ
row_code rs = code_of (refusal rs)

-- ---- the groups, in the table's order

-- a partition dominated by the subject is not well formed
unfoldable pub some_raw : ℕ → Model → Bool
some_raw s m = any (λ n. dominates s n && not (is_held (m.cell n))) labels

-- a path of one to six steps, as bytes
unfoldable pub good_path : List ℕ → Bool
good_path p = eqb (length p % 3) 0 && valid_path (steps_of p)

-- a path that a reading call may be asked for: the root too
unfoldable pub view_path : List ℕ → Bool
view_path p = eqb (length p) 0 || good_path p

-- row 1: the store's length
abbrev pub size_rows : Model → List Row
size_rows m = row 1 (not (eqb m.size store_size)) ∷ []

-- row 2: the subject is a label
abbrev pub label_rows : ℕ → List Row
label_rows s = row 2 (not (is_label s)) ∷ []

-- rows 1 and 2, which a call of a bare subject has first
abbrev pub lent_rows : ℕ → Model → List Row
lent_rows s m = size_rows m ++ label_rows s

-- row 3: the partitions that the label dominates
abbrev pub formed_rows : ℕ → Model → List Row
formed_rows s m = row 3 (some_raw s m) ∷ []

-- row 4: the path
abbrev pub path_rows : List ℕ → List Row
path_rows p = row 4 (not (good_path p)) ∷ []

-- row 4 of a reading call
abbrev pub view_path_rows : List ℕ → List Row
view_path_rows p = row 4 (not (view_path p)) ∷ []

-- row 11: there are 1 to 64 sizes
abbrev pub sizes_rows : ℕ → List Row
sizes_rows n = row 11 (not (leb 1 n && leb n 64)) ∷ []

-- rows 4 and 5: the path, then the kind and the value that are brought to it
abbrev pub bring_rows : List ℕ → Content → List Row
bring_rows p c = path_rows p ++ (row 5 (not (bringable c)) ∷ [])

-- rows 6 and 7 of an element that is there: the last label is the subject's, and it is live
abbrev pub own_live_rows : ℕ → Model → List Step → List Row
own_live_rows s m p = row 6 (not (ends_in s p)) ∷ row 7 (not (live m p)) ∷ []

-- row 7: the path is in view
abbrev pub seen_rows : ℕ → Model → List Step → List Row
seen_rows s m p = row 7 (not (in_view s m p)) ∷ []

-- row 12: the path is a live measure's
abbrev pub measure_rows : ℕ → Model → List Step → List Row
measure_rows s m p = row 12 (not (is_measure (measure_at (visible s m) p))) ∷ []

-- rows 4 and 7 of a reading call: the path, and that it is in view
abbrev pub look_rows : ℕ → Model → List ℕ → List Row
look_rows s m p = view_path_rows p ++ seen_rows s m (steps_of p)

-- rows 6 to 9 of an element that comes: the last label is the subject's, each step behind the longest prefix in view bears it, the element
-- is not there, and slots are free for the missing groups and for it
abbrev pub place_rows : ℕ → Model → List Step → List Row
place_rows s m p =
    row 6 (not (ends_in s p))
    ∷ row 7 (not (own_behind s (seen_steps (visible s m) p) p))
    ∷ row 8 (live m p)
    ∷ row 9 (ltb 32 (length (own_set s m) + length (missing_paths (seen_steps (visible s m) p) p) + 1))
    ∷ []

-- rows 4 and 11 of an even grade: each of the two paths, then the sizes
abbrev pub asked_rows : (base top : List ℕ) → ℕ → List Row
asked_rows p q n = view_path_rows p ++ view_path_rows q ++ sizes_rows n

-- rows 7 and 12 of an even grade: each of the two paths is in view, then each is a live measure's
abbrev pub measured_rows : ℕ → Model → (base top : List Step) → List Row
measured_rows s m p q = seen_rows s m p ++ seen_rows s m q ++ measure_rows s m p ++ measure_rows s m q

-- rows 13 and 14 of a tree sent below a path of d steps: it is one, in form; each element is live and bears the subject's label
abbrev pub sent_rows : ℕ → ℕ → Forest → List Row
sent_rows s d f = row 13 (not (is_one f && in_form d f)) ∷ row 14 (not (own_live s f)) ∷ []

-- rows 7 to 9 of n elements below the path p, those next below it of the steps tops: it is in view, none of them is there, and n slots are free
abbrev pub tree_rows : ℕ → Model → List Step → List Step → ℕ → List Row
tree_rows s m p tops n = seen_rows s m p ++ (row 8 (any (λ a. live m (p ++ (a ∷ []))) tops) ∷ row 9 (ltb 32 (length (own_set s m) + n)) ∷ [])

-- these rows of the trees that are sent
abbrev pub take_rows : ℕ → Model → List Step → Forest → List Row
take_rows s m p f = tree_rows s m p (siblings f) (length (entries p f))

-- row 10: what is written fits into the output
abbrev pub room_rows : ℕ → List ℕ → List Row
room_rows room text = row 10 (ltb room (length text)) ∷ []
