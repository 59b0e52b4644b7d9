-- `dossier_c::dossier_migrate`: what the call promises.
use borrow.Author.Rules.{rules}
use Rattle.dossier_c.proofs.dossier_migrate.Goals as goal

pub returns : goal.returns
returns c = rw c.from.ensures c.migrate.ensures
