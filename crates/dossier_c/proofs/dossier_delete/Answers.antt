-- `dossier_c::dossier_delete`: what the call promises.
use borrow.Author.Rules.{rules}
use Rattle.dossier_c.proofs.dossier_delete.Goals as goal

pub returns : goal.returns
returns c = rw c.from.ensures c.delete.ensures
