-- `xml_view::is_inside`: an element whose step tells, or none there.
use Rattle.xml_view.proofs.Places.{opens-none, opens-here}
use Rattle.xml_view.proofs.is_inside.Goals as goal

pub returns-then-p-seen : goal.returns-then-p-seen
returns-then-p-seen c = opens-here _ c.requires c.if-p-seen.true

pub returns-else-p-seen : goal.returns-else-p-seen
returns-else-p-seen c = opens-none _ c.requires c.if-p-seen.false
