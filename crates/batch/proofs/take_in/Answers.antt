-- `batch::take_in`: a piece without a line end, and one with it.
use Rattle.std.proofs.Common.{◌≡◌, ◌<◌, length, refl, arith, rules}
use Rattle.batch.proofs.Cuts.{end-none, end-some}
use Rattle.batch.proofs.Keeping.{taken-whole, taken-line}
use Rattle.batch.specs.Pieces.{end_at}
use Rattle.batch.proofs.take_in.Goals as goal

pub returns-in_default : goal.returns-in_default
returns-in_default c =
    let none : length c.args.input.now ≡ end_at c.args.input.now = end-none c.args.input.now (search rules) in
    taken-whole c.keep.ensures c.requires.n_le_kept_size.0 c.requires.n_le_kept_size.1 _ _ none refl

pub returns : goal.returns
returns c =
    let inside : c.in-Some.end < length c.args.input.now = search rules in
    let first : c.in-Some.end ≡ end_at c.args.input.now = end-some c.args.input.now c.in-Some.end inside (search rules) (search rules) in
    taken-line _ first (omega arith) refl c.end_line-wrote.ensures
