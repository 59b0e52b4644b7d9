-- `reach::shared_at`: no slot, or one that is compared with the path.
use Rattle.reach.proofs.Shared.{slot-none, slot-shared}
use Rattle.reach.proofs.shared_at.Goals as goal

pub returns-then-count-i : goal.returns-then-count-i
returns-then-count-i c = slot-none c.args.part.bytes.now _ c.count.ensures c.if-count-i.true

pub returns : goal.returns
returns c = slot-shared c.args.part.bytes.now _ c.count.ensures c.if-count-i.false c.path.ensures c.compare_path-m.ensures
