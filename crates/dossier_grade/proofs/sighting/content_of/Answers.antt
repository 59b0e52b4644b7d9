-- `dossier_grade::sighting::content_of`: as the rule of the kind says.
use mathlib.Core.Path.{◌∙◌}
use Rattle.std.proofs.lemmas.Bool.{not-false, not-true}
use Rattle.slot.proofs.Reading.{storable-short}
use Rattle.dossier_grade.proofs.Seeing.{kind-known, content-other, measure-four, content-measure}
use Rattle.dossier_grade.proofs.sighting.content_of.Goals as goal

pub returns-then-not-rule : goal.returns-then-not-rule
returns-then-not-rule c = content-other _ _ (c.numbered.ensures ∙ c.kind.ensures) c.rule-rule.ensures (not-true _ c.if-not-rule.true)

pub numbered-requires : goal.numbered-requires
numbered-requires c = kind-known _ c.kind.ensures c.requires

pub value-requires : goal.value-requires
value-requires c = storable-short _ c.requires c.args.slot.whole

pub measure_of-requires : goal.measure_of-requires
measure_of-requires c = measure-four _ _ (c.numbered.ensures ∙ c.kind.ensures) c.rule-rule.ensures (not-false _ c.if-not-rule.false) c.requires c.value.ensures

pub returns : goal.returns
returns c =
    content-measure _ _ (c.numbered.ensures ∙ c.kind.ensures) c.rule-rule.ensures (not-false _ c.if-not-rule.false)
    c.value.ensures c.measure_of.ensures
