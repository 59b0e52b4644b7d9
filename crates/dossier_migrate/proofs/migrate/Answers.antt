-- `dossier_migrate::migrate`: the length, then all partitions.
use Rattle.dossier_migrate.proofs.Progress.{length-refused, migration-told}
use Rattle.dossier_migrate.proofs.migrate.Goals as goal

pub returns-then-store-ne41088 : goal.returns-then-store-ne41088
returns-then-store-ne41088 c = length-refused c.if-store-ne41088.true

pub returns : goal.returns
returns c = migration-told c.if-store-ne41088.false c.migrate_all.ensures.value c.migrate_all.ensures.store_after
