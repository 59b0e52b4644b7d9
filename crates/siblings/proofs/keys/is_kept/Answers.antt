-- `keys::is_kept`: the pass over the keys finds it.
use Rattle.std.proofs.Common.{ℕ, Bool, false, ◌||◌, eqb, ◌∙◌, rules, tests}
use Rattle.std.proofs.lemmas.Iterator.{YieldsList-from_slice}
use Rattle.std.proofs.lemmas.Iterator.Consumers.{fold_from_yields_List}
use Rattle.siblings.proofs.Reading.{kept-fold}
use Rattle.siblings.proofs.keys.is_kept.Goals as goal

pub returns : goal.returns
returns c =
    fold_from_yields_List _ (λ (b : Bool) (x : ℕ). b || eqb c.args.key x) false _ c.fold.ensures.ran (YieldsList-from_slice c.args.keys.now (cc)) (λ a x b q e. search (rules, tests))
    ∙ kept-fold c.args.key false c.args.keys.now
