-- The store that is begun with where the file is missing is the empty store, and has a store's length.
use mathlib.Core.Path.{◌≡◌, refl, ap, ◌∙◌}
use mathlib.Core.List.{List}
use Prim.Native.Nat.{ℕ}
use lib.ListN.{length, replicate, length-replicate}
use Rattle.model.specs.Store.{empty_store}

pub zeros-empty : replicate 41088 0 ≡ empty_store
unfolding empty_store
zeros-empty = refl

pub empty-size : (s : List ℕ) → s ≡ empty_store → length s ≡ 41088
unfolding empty_store
empty-size s e = ap length e ∙ length-replicate {A = ℕ} 41088 0
