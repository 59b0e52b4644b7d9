-- `store::some_raw`: over the labels up to the subject's.
use mathlib.Core.Path.{refl, ◌∙◌}
use Rattle.std.proofs.Common.{arith, rules, tests}
use Rattle.std.proofs.lemmas.Iterator.{YieldsList-from_range}
use Rattle.std.proofs.lemmas.Iterator.Search.{any_from_yields_List}
use Rattle.store.proofs.Parts.{raw_at, raw-start, any-start}
use Rattle.store.proofs.some_raw.Goals as goal

pub returns : goal.returns
returns c =
    any_from_yields_List (raw_at c.args.subject c.args.store.now) _ _ _ c.any.ensures.ran (YieldsList-from_range 0 c.labels_end.result c.labels_end.result refl (omega arith)) (λ x b q k. search (rules, tests))
    ∙ any-start _ (raw-start _ c.args.store.now c.labels_end.ensures)
