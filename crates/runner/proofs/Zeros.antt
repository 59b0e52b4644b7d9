-- The store that the runner starts with is the empty store.
use mathlib.Core.Path.{◌≡◌, refl}
use lib.ListN.{replicate}
use Rattle.model.specs.Store.{empty_store}

pub zeros-empty : replicate 41088 0 ≡ empty_store
unfolding empty_store
zeros-empty = refl
