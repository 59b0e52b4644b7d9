-- `path::may_follow`: a name that is not 0, and dominance.
use borrow.Author.Rules.{rules}
use Rattle.path.proofs.Steps.{no_name, some-name}
use Rattle.path.proofs.may_follow.Goals as goal

pub returns-then-hi-eq0 : goal.returns-then-hi-eq0
returns-then-hi-eq0 c = no_name _ _ _ _ c.if-lo-eq0.true c.if-hi-eq0.true

pub returns-then-lo-eq0 : goal.returns-then-lo-eq0
returns-then-lo-eq0 c = some-name _ _ _ _ c.dominates.ensures (search rules) (search rules) (search rules)

pub returns : goal.returns
returns c = some-name _ _ _ _ c.dominates-2.ensures (search rules) (search rules) (search rules)
