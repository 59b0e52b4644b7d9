-- `text::digits::put_four`: the hundreds, then the rest.
use borrow.Author.Rules.{rules}
use Rattle.text.specs.Digits.{pair, four}
use Rattle.text.proofs.Overlays.{then}
use Rattle.text.proofs.digits.put_four.Goals as goal

pub put_pair-last-requires : goal.put_pair-last-requires
unfolding pair four
put_pair-last-requires c = search rules

pub put_pair-requires : goal.put_pair-requires
unfolding pair four
put_pair-requires c = search rules

pub returns : goal.returns
unfolding pair four
returns c = then c.put_pair-last.ensures c.put_pair.ensures
