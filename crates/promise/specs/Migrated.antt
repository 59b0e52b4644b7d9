-- What the migration has done, and noninterference of the code for a list that begins with it.
use Rattle.std.specs.Prelude.{◌≡◌, List, ℕ, T}
use Rattle.model.specs.Label.{dominates}
use Rattle.model.specs.Model.{open_model}
use Rattle.model.specs.Run.{spares, Alike}
use Rattle.model.specs.Migration.{migrated_store, bit, Migration, migration}
use Rattle.promise.specs.Ran.{Action, Ran, events, Undisturbed}

-- what is told and the store afterwards are the model's
pub record Migrated (store : List ℕ) (told : Migration) (store' : List ℕ) : Type 0 where
  pub told_is : told ≡ migration store
  pub store_is : store' ≡ migrated_store store

-- what the observer u gets of a migration that told k, and of the actions behind it, which left the store s'
pub record MigratedUndisturbed (u : ℕ) (acts : List Action) (k : Migration) (s' t : List ℕ) : Type 0 where
  pub number : k.number ≡ (migration t).number
  pub bits : (n : ℕ) → T (dominates u n) → bit n k.mask ≡ bit n (migration t).mask
  pub run : Undisturbed u acts s' (open_model (migrated_store t))

-- for every observer and every run behind a migration whose corruption spares him, from any store, and for every store alike to it
abbrev pub CodeMigratedNoninterference : Type 0
CodeMigratedNoninterference =
    (u : ℕ) (acts : List Action) (s s₁ s' t : List ℕ) (k : Migration) → Migrated s k s₁ → Ran acts s₁ s' → T (spares u (events acts)) → Alike u s t
    → MigratedUndisturbed u acts k s' t
