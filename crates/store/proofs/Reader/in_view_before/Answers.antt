-- `Reader::in_view_before`: the path's last label, then over the labels before the end.
use mathlib.Core.Path.{refl, ◌∙◌}
use Rattle.std.proofs.Common.{arith, rules, tests}
use Rattle.model.specs.Path.{steps_of}
use Rattle.std.proofs.lemmas.Iterator.{YieldsList-from_range}
use Rattle.std.proofs.lemmas.Iterator.Search.{any_from_yields_List}
use Rattle.store.specs.Opened.{below_at}
use Rattle.store.proofs.Parts.{any-start}
use Rattle.store.proofs.Viewing.{view-root, view-at, view-start}
use Rattle.store.proofs.Reader.in_view_before.Goals as goal

pub returns-then-path-lt3 : goal.returns-then-path-lt3
returns-then-path-lt3 c = view-root _ _ c.args.path.now c.if-path-lt3.true

pub returns-then-holds_below : goal.returns-then-holds_below
returns-then-holds_below c = view-at _ _ c.args.path.now c.if-path-lt3.false _ c.holds_below.ensures c.if-holds_below.true

pub returns : goal.returns
returns c =
    let me = c.args.self.now in
    any_from_yields_List (below_at me.subject me.store.now (steps_of c.args.path.now)) _ _ _ c.any.ensures.ran (YieldsList-from_range 0 c.args.end c.args.end refl (omega arith)) (λ x b q k. search (rules, tests))
    ∙ any-start _ (view-start _ _ c.args.path.now c.if-path-lt3.false c.requires)
