-- `blocks::block_at`: the keys kept are those of the elements passed.
use Rattle.siblings.proofs.Groups.{Filled}
use Rattle.siblings.proofs.blocks.block_at.Given as goal

abbrev pub invariant-loop-n : goal.invariant-loop-n
invariant-loop-n l = Filled l.text l.at l.keys l.i l.n
