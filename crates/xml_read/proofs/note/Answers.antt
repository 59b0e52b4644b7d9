-- `note`: before 32 it is kept, behind them nothing is.
use native.Mathlib.Omega.{arith}
use Rattle.xml_read.proofs.Marking.{marked-full, marked-one}
use Rattle.xml_read.proofs.note.Goals as goal

pub returns-then-k-lt32 : goal.returns-then-k-lt32
returns-then-k-lt32 c = marked-one _ _ _ (omega arith) (omega arith)

pub returns-else-k-lt32 : goal.returns-else-k-lt32
returns-else-k-lt32 c = marked-full _ _ _ (omega arith)
