-- What is done with the value that a line brings.
use Rattle.std.specs.Prelude.{◌≡◌, List, ℕ}
use Rattle.std.specs.Fn.{Once}
use Rattle.std.specs.Borrow.{Bor, MutBor}
use Rattle.model.specs.Value.{Content}

-- a call of f with a store s and the kind and bytes of the content c may give r and leave the store s'
pub record ActsOn {F R : Type 0} (g : Once F (MutBor (List ℕ) × (ℕ × (Bor (List ℕ) × Unit {0}))) (R × (MutBor (List ℕ) × Unit {0}))) (f : F)
    (s : List ℕ) (c : Content) (r : R) (s' : List ℕ) : Type 0 where
  pub store : MutBor (List ℕ)
  pub value : Bor (List ℕ)
  pub left : MutBor (List ℕ)
  pub met : g.post f (store, (c.kind, (value, tt))) (r, (left, tt))
  pub store_is : store.now ≡ s
  pub value_is : value.now ≡ c.value
  pub left_is : left.now ≡ s'
