-- `dossier_c::dossier_grade`: what the call promises.
use borrow.Author.Rules.{rules}
use Rattle.dossier_c.proofs.dossier_grade.Goals as goal

pub returns : goal.returns
returns c = rw c.from.ensures c.grade.ensures
