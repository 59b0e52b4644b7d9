-- `add`: known for more than 32, asked of the text at 32; below, its key is among those kept or is put to them.
use native.Mathlib.Omega.{arith}
use Rattle.model.proofs.Paths.{step-ranges}
use Rattle.siblings.proofs.Adding.{added-clash, added-kept}
use Rattle.siblings.proofs.add.Goals as goal

pub key_of-key-requires : goal.key_of-key-requires
key_of-key-requires c = let r = step-ranges (record { name = c.args.name; label = c.args.label }) c.requires.1 in (r.1, r.2)

pub returns-then-is_kept : goal.returns-then-is_kept
returns-then-is_kept c = added-clash _ _ _ _ (record { name = _; label = _ }) c.requires.1 (omega arith) c.key_of-key.ensures c.is_kept.ensures c.if-is_kept.true

pub returns : goal.returns
returns c =
    added-kept _ _ _ _ (record { name = _; label = _ }) c.requires.1 (omega arith) c.key_of-key.ensures c.is_kept.ensures c.if-is_kept.false
    (omega arith)
