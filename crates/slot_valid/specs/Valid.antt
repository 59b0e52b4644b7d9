-- A slot's validity in the parts in which the code tests it.
use Rattle.std.specs.Prelude.{Bool, cond, ◌&&◌, List, ℕ, ◌+◌, ◌*◌, ltb}
use Rattle.model.specs.Lists.{all_zero, between}
use Rattle.model.specs.Path.{Step, same_step}
use Rattle.model.specs.Element.{valid_element}
use Rattle.model.specs.Slot.{names_at, labels_at, kind_at, value_at, spare_at, slot_size, depth, value_length, read_slot, unused_zero}
use Rattle.path.specs.Steps.{may_follow}

-- a slot that holds a valid element of label n, its unused bytes zero
unfoldable pub valid_slot : ℕ → List ℕ → Bool
valid_slot n b = valid_element n (read_slot b) && unused_zero b

-- what the place of a step that is not used holds
abbrev pub no_step : Step → Bool
no_step a = same_step a (record { name = 0; label = 0 })

-- place i of a path of d steps, the label before being l
abbrev pub may_stand : ℕ → ℕ → ℕ → Step → Bool
may_stand d l i a = cond (ltb i d) (may_follow l a) (no_step a)

-- the unused bytes are those for steps and those behind the value
unfoldable pub steps_zero : List ℕ → Bool
steps_zero b = all_zero (between (names_at + 2 * depth b) labels_at b) && all_zero (between (labels_at + depth b) kind_at b)

unfoldable pub rest_zero : List ℕ → Bool
rest_zero b = all_zero (between (value_at + value_length b) spare_at b) && all_zero (between spare_at slot_size b)
