-- `dossier_c::dossier_update`: what the call promises.
use borrow.Author.Rules.{rules}
use Rattle.dossier_c.proofs.dossier_update.Goals as goal

pub returns : goal.returns
returns c = rw c.from.ensures c.update.ensures
