-- `runner::main`: a store of zeros is the empty one.
use Rattle.runner.proofs.Zeros.{zeros-empty}
use Rattle.runner.proofs.main.Goals as goal

pub start-requires : goal.start-requires
start-requires c = zeros-empty
