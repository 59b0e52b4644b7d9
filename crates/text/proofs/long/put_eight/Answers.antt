-- `text::long::put_eight`: the ten thousands, then the rest.
use borrow.Author.Rules.{rules}
use Rattle.text.specs.Digits.{pair, four, eight}
use Rattle.text.proofs.Overlays.{then}
use Rattle.text.proofs.long.put_eight.Goals as goal

pub put_four-last-requires : goal.put_four-last-requires
unfolding pair four eight
put_four-last-requires c = search rules

pub put_four-requires : goal.put_four-requires
unfolding pair four eight
put_four-requires c = search rules

pub returns : goal.returns
unfolding pair four eight
returns c = then c.put_four-last.ensures c.put_four.ensures
