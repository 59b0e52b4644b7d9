-- `text::put_value`: as the rule of the kind says.
use native.Mathlib.Omega.{arith}
use Rattle.model.proofs.Slots.{allowed-length}
use Rattle.kind.proofs.Rules.{shown-none}
use Rattle.text.proofs.Showing.{measure-length, as_number, as-text}
use Rattle.text.proofs.Overlays.{wrote_as}
use Rattle.text.proofs.put_value.Goals as goal

pub measure_of-requires : goal.measure_of-requires
measure_of-requires c = measure-length _ _ c.requires.t c.rule-rule.ensures c.if-rule.true

pub returns-then-rule : goal.returns-then-rule
returns-then-rule c =
    let shows = as_number _ _ c.requires.t c.rule-rule.ensures c.if-rule.true c.measure_of.ensures in
    wrote_as shows c.put_signed.ensures

pub returns-then-value-eq0 : goal.returns-then-value-eq0
returns-then-value-eq0 c = wrote_as (shown-none _ _ c.requires.t c.if-value-eq0.true) c.put_byte.ensures

pub put_bytes-requires : goal.put_bytes-requires
put_bytes-requires c = omega (arith, allowed-length)

pub returns : goal.returns
returns c =
    let shows = as-text _ _ c.requires.t c.rule-rule.ensures c.if-rule.false c.if-value-eq0.false in
    wrote_as shows c.put_bytes.ensures
