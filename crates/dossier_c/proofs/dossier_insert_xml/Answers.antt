-- `dossier_c::dossier_insert_xml`: what the call promises.
use borrow.Author.Rules.{rules}
use Rattle.dossier_c.proofs.dossier_insert_xml.Goals as goal

pub returns : goal.returns
returns c = rw c.from.ensures c.insert_xml.ensures
