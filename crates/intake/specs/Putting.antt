-- The elements of a text that are put into a partition.
use Rattle.std.specs.Prelude.{◌≡◌, List, ℕ, ◌+◌, ◌*◌, ◌≤◌, length, take, T}
use Rattle.model.specs.Path.{Step, steps_of}
use Rattle.model.specs.Partition.{layout, read_partition, well_formed}
use Rattle.model.specs.Tree.{Forest}
use Rattle.model.specs.Intake.{own_live, Sends, elements_of, with_all}
use Rattle.model.proofs.Taking.{Coming}
use Rattle.xml_read.specs.Records.{marks}
use Rattle.xml_read.specs.declared.Mark.{Mark}

-- the steps of the first d of a path given as bytes
abbrev pub above : ℕ → List ℕ → List Step
above d path = steps_of (take (3 * d) path)

-- the tree that the text l sends, below the d first steps of a path, may come to the partition x of a label; ms are the marks of its
-- elements
pub record Comes (x l path : List ℕ) (d label : ℕ) (ms : List Mark) : Type 0 where
  pub sent : Forest
  pub formed : T (well_formed label x)
  pub size : length path ≡ 18
  pub reads : Sends d l sent
  pub own : T (own_live label sent)
  pub coming : Coming label (read_partition x) (elements_of (above d path) sent)
  pub room : length (read_partition x) + length (elements_of (above d path) sent) ≤ 32
  pub noted : ms ≡ marks d 0 sent

-- the partition x' is x with the elements of the tree that the text sends
abbrev pub Took : (x l path : List ℕ) (d : ℕ) (x' : List ℕ) → Type 0
Took x l path d x' = (f : Forest) → Sends d l f → x' ≡ layout (with_all (elements_of (above d path) f) (read_partition x))
