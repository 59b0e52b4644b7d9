-- `kind::in_range`: the library's test of every byte.
use mathlib.Core.Path.{◌∙◌}
use Rattle.std.proofs.Common.{rules, tests}
use Rattle.std.proofs.lemmas.Iterator.{YieldsList-from_slice}
use Rattle.std.proofs.lemmas.Iterator.Search.{all_from_yields_List}
use Rattle.octets.proofs.Tests.{all_same}
use Rattle.kind.specs.Rule.{within}
use Rattle.kind.proofs.in_range.Goals as goal

pub returns : goal.returns
returns c =
    let test = within c.args.low c.args.high in
    all_from_yields_List test _ _ c.all.result c.all.ensures.ran (YieldsList-from_slice c.args.s.now cc) (λ x b q k. search (rules, tests))
    ∙ all_same test c.args.s.now
