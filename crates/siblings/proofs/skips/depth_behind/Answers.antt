-- `skips::depth_behind`: another byte, < of a start tag, or that of an end tag.
use Rattle.siblings.proofs.Passing.{depth_same, depth-more, depth-less}
use Rattle.siblings.proofs.skips.depth_behind.Goals as goal

pub returns-then-text-at-ne60 : goal.returns-then-text-at-ne60
returns-then-text-at-ne60 c = search depth_same

pub returns-then-not-holds : goal.returns-then-not-holds
returns-then-not-holds c = search depth-more

pub returns : goal.returns
returns c = rw c.saturating_sub.ensures (search depth-less)
