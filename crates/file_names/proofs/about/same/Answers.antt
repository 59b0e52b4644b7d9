-- `file_names::about::same`: the derived equality.
use Rattle.std.proofs.lemmas.Bool.Decides.{Decides-at}
use Rattle.file_names.proofs.Alike.{maybe-alike}
use Rattle.file_names.proofs.about.same.Goals as goal

pub returns : goal.returns
returns c = Decides-at c.eq.result _ c.eq.ensures (maybe-alike c.args.a c.args.b)
