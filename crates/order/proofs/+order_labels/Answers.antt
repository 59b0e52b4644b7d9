-- `order::order_labels`: no label, one, or the two halves of the labels merged; their number falls.
use mathlib.Core.Path.{subst}
use mathlib.Core.List.{[]}
use Prim.Native.Nat.{ℕ, ◌-◌, ◌/◌, ◌<◌}
use lib.ListN.{length, take, drop}
use native.Mathlib.Omega.{arith}
use Rattle.model.specs.Path.{steps_of}
use Rattle.order.proofs.Labels.{rising-take, rising-drop, at-least-two, half-below, first-less, second-less, fewer, room-left, starts-within, second-room, second_fits}
use Rattle.order.proofs.Joining.{no_label, one-label-named, two_runs, runs-joined}
use Rattle.order.proofs.+order_labels.Goals as goal

pub returns-then-width-eq0-clause-refers : goal.returns-then-width-eq0-clause-refers
returns-then-width-eq0-clause-refers t c = no_label _ _ _ c.args.labels.now c.if-width-eq0.true []

pub returns-then-width-eq1-clause-refers : goal.returns-then-width-eq1-clause-refers
returns-then-width-eq1-clause-refers t c = one-label-named _ _ _ c.args.labels.now c.if-width-eq1.true c.collect.ensures.refers

pub order_labels-a-requires : goal.order_labels-a-requires
order_labels-a-requires t c =
    let labels = c.args.labels.now in
    let half = length labels / 2 in
    let less = first-less labels (at-least-two _ c.if-width-eq0.false c.if-width-eq1.false) in (
      subst (λ (n : ℕ). length (take (half - 0) labels) < n) c.decreases less,
      (
        (rising-take (half - 0) labels c.requires.labels.0, omega (arith, less, c.requires.labels.1)),
        (omega (arith, less, c.requires.labels_in_bounds.1), omega (arith, less, c.requires.labels_in_bounds.0)),
      ),
    )

pub order_labels-b-requires : goal.order_labels-b-requires
order_labels-b-requires t c =
    let labels = c.args.labels.now in
    let half = length labels / 2 in
    let less = second-less labels (at-least-two _ c.if-width-eq0.false c.if-width-eq1.false) in
    let one = c.order_labels-a in
    let room = room-left labels one.ensures.upper_bound c.requires.labels_in_bounds.1 one.auto.refs in
    let other = room-left labels one.ensures.upper_bound c.requires.labels_in_bounds.0 one.auto.spare in (
      subst (λ (n : ℕ). length (take (length labels - half) (drop half labels)) < n) c.decreases less,
      (
        (rising-take (length labels - half) (drop half labels) (rising-drop half labels c.requires.labels.0), fewer less c.requires.labels.1),
        (second-room labels one.new.refs one.result room, second-room labels one.new.spare one.result other),
      ),
    )

pub merge-requires-clause-runs : goal.merge-requires-clause-runs
merge-requires-clause-runs t c =
    let labels = c.args.labels.now in
    let half = length labels / 2 in
    let one = c.order_labels-a in
    let two = c.order_labels-b in
    let high = one.new.refs in
    let room = room-left labels one.ensures.upper_bound c.requires.labels_in_bounds.1 one.auto.refs in
    let fits = second_fits labels high one.result two.ensures.upper_bound room two.auto.refs in
    two_runs (steps_of c.args.path.now) labels half (half-below labels) c.requires.labels.0 high two.new.refs one.result two.result one.ensures.refers
    two.ensures.refers (starts-within one.result _ room) fits (length high - one.result)

pub returns-clause-refers : goal.returns-clause-refers
returns-clause-refers t c =
    let labels = c.args.labels.now in
    let half = length labels / 2 in
    let one = c.order_labels-a in
    let two = c.order_labels-b in
    let high = one.new.refs in
    let room = room-left labels one.ensures.upper_bound c.requires.labels_in_bounds.1 one.auto.refs in
    let fits = second_fits labels high one.result two.ensures.upper_bound room two.auto.refs in
    runs-joined (steps_of c.args.path.now) labels half (half-below labels) c.requires.labels.0 high two.new.refs one.result two.result one.ensures.refers
    two.ensures.refers (starts-within one.result _ room) fits (length high - one.result) c.merge.new.refs c.merge.ensures
