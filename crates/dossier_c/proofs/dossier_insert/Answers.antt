-- `dossier_c::dossier_insert`: what the call promises.
use borrow.Author.Rules.{rules}
use Rattle.dossier_c.proofs.dossier_insert.Goals as goal

pub returns : goal.returns
returns c = rw c.from.ensures c.insert.ensures
