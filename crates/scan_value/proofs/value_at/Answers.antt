-- `value_at`: by what the tag shows.
use Rattle.std.proofs.Common.{◌≡◌}
use Rattle.kind.specs.declared.Kind.TheVariants.{Group}
use Rattle.scan_value.proofs.Valuing.{bare-group, bare-removed}
use Rattle.scan_value.proofs.value_at.Goals as goal

pub returns-in-None : goal.returns-in-None
returns-in-None c = rw c.in-None.is (search bare-removed)

pub returns-in-Some-Group : goal.returns-in-Some-Group
returns-in-Some-Group c =
    let group : c.in-Some-Group.field-0 ≡ Group = rw c.in-Some-Group.is at c.in-Some-Group.field-0-is in
    rw (c.in-Some-Group.is, group) (search bare-group)
