-- `dossier_migrate::migrate_all`: the partitions from n on are migrated.
use native.Mathlib.Omega.{arith}
use Rattle.dossier_migrate.proofs.Progress.{bit-small, mask-small, progress-next, progress-mask, progress-store}
use Rattle.dossier_migrate.proofs.migrate_all.Goals as goal

pub overflow_mul-mask : goal.overflow_mul-mask
overflow_mul-mask c = omega (arith, mask-small c.loop-n.invariant c.loop-n-test.true)

pub overflow_add-mask : goal.overflow_add-mask
overflow_add-mask c = omega (arith, mask-small c.loop-n.invariant c.loop-n-test.true, bit-small _ _ c.migrate_partition.ensures.value)

pub loop-n-preserved : goal.loop-n-preserved
loop-n-preserved c =
    progress-next c.loop-n.invariant c.loop-n-test.true c.from-start.ensures (c.migrate_partition.ensures.value, c.migrate_partition.ensures.part_after)

pub returns : goal.returns
returns c =
    record {
      value = progress-mask c.requires c.loop-n.invariant c.loop-n-test.false;
      store_after = progress-store c.requires c.loop-n.invariant c.loop-n-test.false;
    }
