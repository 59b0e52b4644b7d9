-- `slot::is_valid`: path, content, the bytes behind the value.
use mathlib.Core.Path.{refl}
use Rattle.slot.proofs.Reading.{short-value}
use Rattle.slot_valid.proofs.Validity.{no-path, path-good, no-content, by-rest}
use Rattle.slot_valid.proofs.is_valid.Goals as goal

pub returns-then-not-path_valid : goal.returns-then-not-path_valid
returns-then-not-path_valid c = no-path _ _ c.path_valid.ensures c.if-not-path_valid.true

pub returns-then-not-content_valid : goal.returns-then-not-content_valid
returns-then-not-content_valid c = no-content _ _ c.path_valid.ensures c.if-not-path_valid.false c.content_valid.ensures c.if-not-content_valid.true

pub rest_zero-requires : goal.rest_zero-requires
rest_zero-requires c =
    let path = path-good _ _ c.path_valid.ensures c.if-not-path_valid.false in
    short-value _ _ path refl c.content_valid.ensures c.if-not-content_valid.false c.args.slot.whole

pub returns : goal.returns
returns c = by-rest _ _ c.path_valid.ensures c.if-not-path_valid.false c.content_valid.ensures c.if-not-content_valid.false c.rest_zero.ensures
