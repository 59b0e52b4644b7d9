-- `listing::put_listing`: put where so many lines of any length fit, else measured, and put where it fits.
use native.Mathlib.Omega.{arith}
use Rattle.model.specs.Path.{steps_of}
use Rattle.model.proofs.Dominance.{label-lt}
use Rattle.text.proofs.Overlays.{not-laid, all_laid}
use Rattle.listing.proofs.Visible.{listing-short}
use Rattle.listing.proofs.put_listing.Goals as goal

pub returns-then-lines-out-clause-out_after : goal.returns-then-lines-out-clause-out_after
returns-then-lines-out-clause-out_after c =
    let small = label-lt _ c.args.seen.now.reader.opened.label in
    let short = listing-short _ _ (steps_of c.args.seen.now.path.now) (omega (arith, small)) c.count_lines-lines.ensures.upper_bound c.count_lines-lines.ensures.value in
    all_laid _ _ (omega (arith, short, c.if-lines-out.true)) c.put_all.ensures

pub returns-then-out-total-clause-out_after : goal.returns-then-out-total-clause-out_after
returns-then-out-total-clause-out_after c = not-laid _ _ c.measure-total.ensures c.if-out-total.true

pub returns-clause-out_after : goal.returns-clause-out_after
returns-clause-out_after c = all_laid _ _ (omega (arith, c.measure-total.ensures, c.if-out-total.false)) c.put_all-2.ensures
