-- `path::ends_in`: the last byte is the last label.
use native.Mathlib.Omega.{arith}
use Rattle.path.proofs.Steps.{good-path, last-label}
use Rattle.path.proofs.ends_in.Goals as goal

pub overflow_sub-result : goal.overflow_sub-result
overflow_sub-result c = omega (arith, (good-path _ c.requires).some)

pub bounds-path-path : goal.bounds-path-path
bounds-path-path c = omega (arith, (good-path _ c.requires).some)

pub returns : goal.returns
returns c = last-label _ _ (good-path _ c.requires)
