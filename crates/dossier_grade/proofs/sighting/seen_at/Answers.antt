-- `dossier_grade::sighting::seen_at`: the root, a label that is not dominated, or what is in the label's partition.
use Rattle.dossier_grade.proofs.Seeing.{sees-root, other-good, sees-none, label-seen, path-partition}
use Rattle.dossier_grade.proofs.sighting.seen_at.Goals as goal

pub returns-then-path-lt3 : goal.returns-then-path-lt3
returns-then-path-lt3 c = sees-root _ _ c.args.path.now c.if-path-lt3.true

pub returns-then-not-dominates : goal.returns-then-not-dominates
returns-then-not-dominates c = sees-none c.args.reader.now.opened _ (other-good _ c.requires c.if-path-lt3.false) c.dominates.ensures c.if-not-dominates.true

pub partition_of-requires : goal.partition_of-requires
partition_of-requires c =
    let good = other-good _ c.requires c.if-path-lt3.false in
    label-seen c.args.reader.now.opened _ good c.dominates.ensures c.if-not-dominates.false

pub seen_in-requires : goal.seen_in-requires
seen_in-requires c =
    let good = other-good _ c.requires c.if-path-lt3.false in
    path-partition c.args.reader.now.opened _ good c.dominates.ensures c.if-not-dominates.false c.partition_of.ensures

pub returns : goal.returns
returns c = c.seen_in.ensures
