-- `values::is_printable`: the library's test of every byte.
use mathlib.Core.Path.{◌∙◌}
use lib.ListN.{drop}
use Rattle.std.proofs.Common.{rules, tests}
use Rattle.std.proofs.lemmas.Iterator.{YieldsList-from_slice}
use Rattle.std.proofs.lemmas.Iterator.Search.{all_from_yields_List}
use Rattle.model.specs.Value.{is_printable}
use Rattle.script.proofs.Showings.{all-printable, line-rest}
use Rattle.script.proofs.values.is_printable.Goals as goal

pub returns : goal.returns
unfolding is_printable
returns c =
    let rest = drop c.args.at c.args.line.now in
    let yields = YieldsList-from_slice rest (c.iter.ensures.rest ∙ line-rest c.args.line.now c.args.at) in
    all_from_yields_List is_printable _ _ c.all.result c.all.ensures.ran yields (λ x b q k. search (rules, tests)) ∙ all-printable rest
