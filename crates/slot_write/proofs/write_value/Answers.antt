-- `slot::write_value`: the value copied over zeros.
use mathlib.Core.Path.{ap}
use mathlib.Core.List.{List, ◌++◌}
use Prim.Native.Nat.{ℕ}
use lib.ListN.{length, drop}
use Rattle.slot_write.proofs.Filling.{value-padded}
use Rattle.slot_write.proofs.write_value.Goals as goal

pub returns : goal.returns
returns c =
    let v = c.args.value.now in
    value-padded 16 3 c.args.s.now v c.requires.0 c.requires.1 (c.fill.ensures.after (λ y e. e)) (ap (λ (x : List ℕ). x ++ drop (length v) c.fill.new.self) c.copy_from_slice.ensures.after)
