-- `Ordered::start_behind`: no such slot, one that does not come before the path, or one that does.
use Rattle.std.proofs.lemmas.Bool.{not-false}
use native.Mathlib.Omega.{arith}
use Rattle.partition.proofs.Finding.{behind-start}
use Rattle.partition.proofs.Ordered.start_behind.Goals as goal

pub returns : goal.returns
returns c = behind-start c.args.self.in_order _ (omega (arith, c.if-count-near.false, c.count.ensures.0)) c.path.ensures c.compare_path-m.ensures (not-false _ c.if-not-m.false)
