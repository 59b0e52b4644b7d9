-- `paths::path_at`: steps, or a lone /.
use Rattle.script.proofs.Trails.{path-open, path-root}
use Rattle.script.proofs.paths.path_at.Goals as goal

pub returns-then-not-is_closed : goal.returns-then-not-is_closed
returns-then-not-is_closed c = search path-open

pub returns : goal.returns
returns c = search path-root
