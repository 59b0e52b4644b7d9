-- The migration of the code: nothing else can be told or left, and noninterference for a list that begins with it.
use mathlib.Core.Path.{◌≡◌, sym, ap, subst, ◌∙◌}
use mathlib.Core.List.{List}
use Prim.Native.Nat.{ℕ}
use Rattle.model.specs.Migration.{bit, Migration, migrated_store}
use Rattle.model.specs.Run.{Alike}
use Rattle.model.proofs.Migrating.{migrated-noninterference, alike-migrated}
use Rattle.promise.specs.Ran.{events}
use Rattle.promise.specs.Migrated.{Migrated, CodeMigratedNoninterference}
use Rattle.promise.proofs.Runs.{code-noninterference}

-- nothing else can be told or left
pub migrated-one : {s : List ℕ} {k k2 : Migration} {t t2 : List ℕ} → Migrated s k t → Migrated s k2 t2 → (k ≡ k2) × (t ≡ t2)
migrated-one d e = (d.told_is ∙ sym e.told_is, d.store_is ∙ sym e.store_is)

-- demand 3 for a list that begins with the migration
pub code-migrated-noninterference : CodeMigratedNoninterference
code-migrated-noninterference u acts s s₁ s' t k m r h a =
    record {
      number = ap (λ (x : Migration). x.number) m.told_is ∙ (migrated-noninterference u (events acts) s t h a).number;
      bits = λ n d. ap (λ (x : Migration). bit n x.mask) m.told_is ∙ (migrated-noninterference u (events acts) s t h a).bits n d;
      run =
          code-noninterference u acts s₁ s' (migrated_store t) r h
          (subst (λ (x : List ℕ). Alike u x (migrated_store t)) (sym m.store_is) (alike-migrated u s t a));
    }
