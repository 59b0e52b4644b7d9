-- `slot::write_labels`: the labels of the first i steps are written.
use borrow.Author.Rules.{rules}
use mathlib.Core.Path.{refl}
use Rattle.slot_write.proofs.Filling.{labels, laid-start, labels_next, laid_end}
use Rattle.slot_write.proofs.write_labels.Goals as goal

pub loop-i-init : goal.loop-i-init
loop-i-init c = laid-start 6 labels _ c.args.labels.now refl c.requires.0 (c.fill.ensures.after (λ y e. e))

pub loop-i-preserved : goal.loop-i-preserved
loop-i-preserved c = labels_next c.loop-i.invariant (search rules) (search rules)

pub returns : goal.returns
returns c = laid_end c.loop-i.invariant (search rules)
