-- `dossier_file::begin_empty`: zeros are the empty store.
use Rattle.dossier_file.proofs.Zeros.{zeros-empty}
use Rattle.dossier_file.proofs.begin_empty.Goals as goal

pub begin-requires : goal.begin-requires
begin-requires c = (c.requires, zeros-empty)
