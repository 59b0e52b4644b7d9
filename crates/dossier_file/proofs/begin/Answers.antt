-- `dossier_file::begin`: the empty store has a store's length, and carrying out a script keeps it.
use Rattle.std.proofs.Common.{◌∙◌}
use Rattle.dossier_file.proofs.Zeros.{empty-size}
use Rattle.dossier_file.proofs.begin.Goals as goal

pub save_new-requires-clause-name_len_bound : goal.save_new-requires-clause-name_len_bound
save_new-requires-clause-name_len_bound c = (c.requires.0, c.carry_out.auto.bytes ∙ empty-size c.args.store.now c.requires.1)
