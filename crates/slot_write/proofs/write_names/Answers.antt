-- `slot::write_names`: the names of the first i steps are written.
use borrow.Author.Rules.{rules}
use mathlib.Core.Path.{refl}
use Prim.Native.Nat.{◌*◌}
use native.Mathlib.Omega.{arith}
use lib.ListN.{length-set}
use mir.Facts.{Fits-lt-pow}
use Rattle.model.specs.Lists.{gather}
use Rattle.model.specs.Slot.{name_bytes}
use Rattle.slot_write.proofs.Filling.{laid-start, names-next, laid_end}
use Rattle.slot_write.proofs.write_names.Goals as goal

pub loop-i-init : goal.loop-i-init
loop-i-init c = laid-start 12 (gather name_bytes) _ c.args.names.now refl c.requires.0 (c.fill.ensures.after (λ y e. e))

pub bounds-names-i-in-loop-i : goal.bounds-names-i-in-loop-i
bounds-names-i-in-loop-i c = simp length-set (omega arith)

pub loop-i-preserved : goal.loop-i-preserved
loop-i-preserved c = names-next c.loop-i.invariant (search rules) (search rules) (Fits-lt-pow (c.type_inv.path (3 * c.loop-i.i)))

pub returns : goal.returns
returns c = laid_end c.loop-i.invariant (search rules)
