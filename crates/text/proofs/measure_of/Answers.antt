-- `text::measure_of`: the word of its four bytes.
use native.Mathlib.Omega.{arith}
use borrow.Author.Rules.{rules}
use Rattle.model.specs.Text.{measure_of}
use Rattle.text.proofs.measure_of.Goals as goal

pub word-requires : goal.word-requires
unfolding measure_of
word-requires c = search rules

pub returns : goal.returns
unfolding measure_of
returns c = omega (arith, c.word.ensures)
