-- `xml_view::put_all`: the outer tag, the contents from the first element on, and the outer end tag.
use borrow.Author.Rules.{rules}
use mathlib.Core.Path.{◌∙◌}
use Rattle.model.specs.Path.{steps_of}
use Rattle.xml_view.proofs.Whole.{start-place, start-room, foot-room, whole-wrote}
use Rattle.xml_view.proofs.put_all.Goals as goal

pub put_contents-requires-clause-place : goal.put_contents-requires-clause-place
put_contents-requires-clause-place c =
    let seen = c.args.seen.now in
    start-place (steps_of seen.path.now) seen.reader.opened seen.refers c.steps_above-above.ensures

pub put_contents-requires-clause-room : goal.put_contents-requires-clause-room
put_contents-requires-clause-room c =
    let seen = c.args.seen.now in
    start-room (steps_of seen.path.now) seen.reader.opened seen.refers c.steps_above-above.ensures seen.few c.from.ensures c.head.ensures.1

pub put_bytes-requires : goal.put_bytes-requires
put_bytes-requires c =
    let seen = c.args.seen.now in
    foot-room (steps_of seen.path.now) seen.reader.opened seen.refers c.steps_above-above.ensures c.put_contents.ensures c.from.ensures c.head.ensures.1 seen.few

pub returns : goal.returns
returns c =
    let seen = c.args.seen.now in
    let body = c.put_contents.ensures in
    let same = c.put_bytes.ensures.0 ∙ body.wrote.0 ∙ c.head.ensures.0 in
    search (rules, same, whole-wrote (steps_of seen.path.now) seen.reader.opened seen.refers c.steps_above-above.ensures body c.from.ensures c.head.ensures.1 c.put_bytes.ensures.1)
