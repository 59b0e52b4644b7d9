-- `listing::put_element`: the lines of the prefixes with up to d steps are written.
use Rattle.std.proofs.Common.{◌≡◌, ◌+◌, ◌-◌, ◌*◌, ◌≤◌, ◌<◌}
use Rattle.text.proofs.Overlays.{Going}
use Rattle.model.specs.Slot.{depth}
use Rattle.listing.specs.Used.{lines_from}
use Rattle.listing.proofs.lines.put_element.Given as goal

abbrev pub invariant-loop-d : goal.invariant-loop-d
invariant-loop-d l = (l.d < depth l.slot.bytes.now) × (l.from ≤ l.d) × (l.out.at ≤ l.initial.out.at + 64 * (l.d - l.from))
    × (l.out.bytes.ghost_name ≡ l.initial.out.bytes.ghost_name)
    × Going l.initial.out.bytes.now l.initial.out.at (lines_from l.from l.slot.bytes.now) l.out.bytes.now l.out.at (lines_from l.d l.slot.bytes.now)
