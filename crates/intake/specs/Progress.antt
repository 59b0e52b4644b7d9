-- How far the elements of a text are put into a partition.
use Rattle.std.specs.Prelude.{◌≡◌, List, [], ◌∷◌, ◌++◌, map, ℕ, suc, ◌+◌, ◌≤◌, ◌<◌, length, drop, T, Some}
use Rattle.std.proofs.Math.Option.{some}
use Rattle.model.specs.Path.{Step, valid_step, is_prefix, steps_of}
use Rattle.model.specs.Value.{Content}
use Rattle.model.specs.Element.{Element}
use Rattle.model.specs.Partition.{read_partition, well_formed}
use Rattle.model.specs.Intake.{with_all}
use Rattle.model.proofs.Taking.{Coming}
use Rattle.partition.specs.Place.{place_of, Room}
use Rattle.scan_value.specs.Values.{Valued}
use Rattle.scan.specs.Shown.{kind_at}
use Rattle.xml_read.specs.declared.Mark.{Mark}
use Rattle.intake.specs.Putting.{above}

-- ---- one element

-- the step of an element of a label and a mark
abbrev pub step_of : ℕ → Mark → Step
step_of s m = record { name = m.name; label = s }

-- an element may be put into the partition x, at the step a below the first n of a path
pub record Below (x path : List ℕ) (n : ℕ) (a : Step) : Type 0 where
  pub size : length path ≡ 18
  pub shallow : n < 6
  pub step : T (valid_step a)
  pub room : Room x (place_of (above n path ++ (a ∷ [])) (read_partition x)) (above n path ++ (a ∷ []))

-- the step a is written behind the first n of a path
pub record Stepped (path : List ℕ) (n : ℕ) (a : Step) (path' : List ℕ) : Type 0 where
  pub size : length path' ≡ length path
  pub steps : above (suc n) path' ≡ above n path ++ (a ∷ [])

-- ---- the elements that are left

-- an element of a text: the steps above it, its step and content, and where its value begins
pub record Item : Type 0 where
  pub over : List Step
  pub step : Step
  pub content : Content
  pub place : ℕ

-- its path
abbrev pub path_of : Item → List Step
path_of i = i.over ++ (i.step ∷ [])

-- what it brings
abbrev pub element_of : Item → Element
element_of i = record { path = path_of i; content = i.content }

-- what is kept of it
abbrev pub mark_of : Item → Mark
mark_of i = record { steps = length i.over; name = i.step.name; shown = Some (kind_at i.content.kind); place = i.place }

-- it is in form and bears label s, and its value stands at its place of the text l
pub record Fit (s : ℕ) (l : List ℕ) (i : Item) : Type 0 where
  pub shallow : length i.over < 6
  pub step : T (valid_step i.step)
  pub own : i.step.label ≡ s
  pub within : i.place ≤ length l
  pub rest : List ℕ
  pub value : Valued (drop i.place l) (some i.content) rest

-- so are elements one after another; the steps above each are the first of the path of the one before it, those above the first of path p
abbrev pub Ready : ℕ → List ℕ → List Step → List Item → Type 0
Ready s l p [] = Unit {0}
Ready s l p (i ∷ is) = T (is_prefix i.over p) × Fit s l i × Ready s l (path_of i) is

-- with the elements that are left the partition x of label s comes to hold goal
pub record Going (goal : List Element) (s : ℕ) (x l path : List ℕ) (is : List Item) : Type 0 where
  pub size : length path ≡ 18
  pub ready : Ready s l (steps_of path) is
  pub formed : T (well_formed s x)
  pub coming : Coming s (read_partition x) (map element_of is)
  pub room : length (read_partition x) + length is ≤ 32
  pub reaches : with_all (map element_of is) (read_partition x) ≡ goal

-- they are those whose marks are ms
pub record Left (goal : List Element) (s : ℕ) (x l path : List ℕ) (ms : List Mark) : Type 0 where
  pub items : List Item
  pub going : Going goal s x l path items
  pub marks-are : ms ≡ map mark_of items

-- ---- the next of them

-- a mark is the next element's, whatever the partition comes to hold
pub record Way (x l path : List ℕ) (s : ℕ) (m : Mark) : Type 0 where
  pub goal : List Element
  pub item : Item
  pub others : List Item
  pub going : Going goal s x l path (item ∷ others)
  pub tells : m ≡ mark_of item

-- it comes to hold the same with the others
abbrev pub Went : (x l path : List ℕ) (s : ℕ) (m : Mark) (x' path' : List ℕ) → Type 0
Went x l path s m x' path' =
    (goal : List Element) (i : Item) (is : List Item) → Going goal s x l path (i ∷ is) → m ≡ mark_of i → Going goal s x' l path' is
