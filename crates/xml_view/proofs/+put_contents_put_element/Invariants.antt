-- `xml_view::put_contents` and `xml_view::put_element`, which call each other. With n listed elements left the element takes 2 n, the
-- contents 2 n + 1: an element hands on n - 1, contents hand on n.
use mathlib.Core.Path.{◌≡◌}
use Prim.Native.Nat.{◌+◌, ◌*◌}
use lib.ListN.{length}
use Rattle.xml_view.specs.Places.{left, Place}
use Rattle.xml_view.proofs.Nesting.{Writing}
use Rattle.xml_view.proofs.+put_contents_put_element.Given as goal

abbrev pub decreases-put_contents : goal.decreases-put_contents
decreases-put_contents l = 2 * length (left l.seen.now.reader.store.now l.seen.now.refs.now l.p.row l.p.step) + 1

abbrev pub decreases-put_element : goal.decreases-put_element
decreases-put_element l = 2 * length (left l.seen.now.reader.store.now l.seen.now.refs.now l.p.row l.p.step)

abbrev pub invariant-put_contents-loop-out : goal.invariant-put_contents-loop-out
invariant-put_contents-loop-out l =
    (l.out.bytes.ghost_name ≡ l.initial.out.bytes.ghost_name)
    × Writing l.depth (left l.seen.reader.store.now l.seen.refs.now l.fn.p.row l.fn.p.step) l.initial.out.bytes.now l.initial.out.at
    (left l.seen.reader.store.now l.seen.refs.now l.spot.row l.spot.step) l.out.bytes.now l.out.at
    × Place l.seen.reader.store.now l.seen.refs.now l.spot.row l.spot.step

abbrev pub decreases-put_contents-loop-out : goal.decreases-put_contents-loop-out
decreases-put_contents-loop-out l = length (left l.seen.reader.store.now l.seen.refs.now l.spot.row l.spot.step)
