-- `file_names::ended`: the name is copied over zeros, which stand behind it then.
use Rattle.std.proofs.Common.{ap, ◌++◌, List, ℕ, length, drop, replicate}
use Rattle.file_names.proofs.Naming.{for-c}
use Rattle.file_names.proofs.ended.Goals as goal

pub returns : goal.returns
returns c = for-c c.args.name.now _ c.requires (ap (λ (l : List ℕ). l ++ drop (length c.args.name.now) (replicate {A = ℕ} 4096 0)) c.copy_from_slice.ensures.after)
