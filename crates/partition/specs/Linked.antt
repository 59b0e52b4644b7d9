-- Well-formedness of a partition slot by slot, each against the one before, in the order of a key.
use Rattle.std.specs.Prelude.{Bool, true, not, ◌&&◌, ◌||◌, List, [], ◌∷◌, ℕ, zero, suc}
use Rattle.model.specs.Path.{Step, is_prefix, parent, ends_in}
use Rattle.model.specs.Element.{Element}
use Rattle.model.specs.Slot.{read_path}
use Rattle.model.specs.Partition.{slot_at}
use Rattle.path.specs.Common.{is_before_by}
use Rattle.slot_valid.specs.Valid.{valid_slot}

-- in the order of a key
module _ (k : Step → List ℕ) (n : ℕ) where
  -- q may follow p in partition n: it comes after p, and its parent, if it ends in n, is a prefix of p
  unfoldable pub may_follow : List Step → List Step → Bool
  may_follow p q = is_before_by k p q && (not (ends_in n (parent q)) || is_prefix (parent q) p)

  -- the elements follow p, one after another
  abbrev pub linked : List Step → List Element → Bool
  linked p [] = true
  linked p (e ∷ es) = may_follow p e.path && linked e.path es

  -- a slot that is valid and follows p
  unfoldable pub good_slot : List Step → List ℕ → Bool
  good_slot p b = valid_slot n b && may_follow p (read_path b)

  abbrev pub good_slots : List Step → List (List ℕ) → Bool
  good_slots p [] = true
  good_slots p (b ∷ bs) = good_slot p b && good_slots (read_path b) bs

-- the path of the slot before slot i, the root before the first
abbrev pub path_before : List ℕ → ℕ → List Step
path_before b zero = []
path_before b (suc i) = read_path (slot_at b i)
