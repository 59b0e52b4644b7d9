-- `dossier_c::dossier_view`: what the call promises.
use borrow.Author.Rules.{rules}
use Rattle.dossier_c.proofs.dossier_view.Goals as goal

pub returns : goal.returns
returns c = rw c.from.ensures c.view.ensures
