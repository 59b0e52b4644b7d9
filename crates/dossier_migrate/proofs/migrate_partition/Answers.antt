-- `dossier_migrate::migrate_partition`: tested, and sorted where it is well formed in the order of before.
use Rattle.dossier_migrate.proofs.Progress.{raw-bit, formed-former, formed-bit}
use Rattle.dossier_migrate.proofs.migrate_partition.Goals as goal

pub returns-then-not-is_well_formed_former : goal.returns-then-not-is_well_formed_former
returns-then-not-is_well_formed_former c = let found = raw-bit _ _ c.is_well_formed_former.ensures c.if-not-is_well_formed_former.true in record { value = found.0; part_after = found.1 }

pub sort-requires : goal.sort-requires
sort-requires c = formed-former _ _ c.is_well_formed_former.ensures c.if-not-is_well_formed_former.false

pub returns : goal.returns
returns c = let found = formed-bit _ _ c.is_well_formed_former.ensures c.if-not-is_well_formed_former.false c.sort.ensures in record { value = found.0; part_after = found.1 }
