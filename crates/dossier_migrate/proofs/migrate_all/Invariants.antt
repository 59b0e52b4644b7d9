-- `dossier_migrate::migrate_all`: the partitions from n on are migrated.
use Rattle.dossier_migrate.proofs.Progress.{Progress}
use Rattle.dossier_migrate.proofs.migrate_all.Given as goal

abbrev pub invariant-loop-n : goal.invariant-loop-n
invariant-loop-n l = Progress l.initial.store l.store l.mask l.n
