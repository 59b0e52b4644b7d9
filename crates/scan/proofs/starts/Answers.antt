-- `starts`: past the end, or the library's test.
use Rattle.std.proofs.Common.{◌∙◌}
use Rattle.scan.proofs.Fronts.{bytes_past, front-there}
use Rattle.scan.proofs.starts.Goals as goal

pub returns-then-text-at : goal.returns-then-text-at
returns-then-text-at c = c.is_empty.ensures ∙ bytes_past _ _ _ c.if-text-at.true

pub returns : goal.returns
returns c = c.starts_with.ensures.value ∙ front-there c.args.bytes.now c.args.text.now c.args.at
