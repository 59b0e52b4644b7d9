-- `sorting::place_of`: back, and forth where the search back did not move.
use native.Mathlib.Omega.{arith}
use Rattle.sorting.proofs.place_of.Goals as goal

pub returns-then-j-near : goal.returns-then-j-near
returns-then-j-near c = omega (arith, c.back_from-j.ensures)

pub forth_from-requires : goal.forth_from-requires
forth_from-requires c = (c.requires.0, omega (arith, c.back_from-j.ensures, c.requires.1), omega (arith, c.back_from-j.ensures))
