-- `xml_view::put_xml`: put where so many elements of any length fit, else measured, and put where it fits.
use native.Mathlib.Omega.{arith}
use Rattle.model.specs.Path.{steps_of}
use Rattle.text.proofs.Overlays.{not-laid, all_laid}
use Rattle.xml_view.proofs.Whole.{refs-short}
use Rattle.xml_view.proofs.put_xml.Goals as goal

pub returns-then-seen-out-clause-out_after : goal.returns-then-seen-out-clause-out_after
returns-then-seen-out-clause-out_after c =
    let short = refs-short (steps_of c.args.seen.now.path.now) c.args.seen.now.reader.opened c.args.seen.now.refers in
    all_laid _ _ (omega (arith, short, c.if-seen-out.true)) c.put_all.ensures

pub returns-then-out-total-clause-out_after : goal.returns-then-out-total-clause-out_after
returns-then-out-total-clause-out_after c = not-laid _ _ c.measure-total.ensures c.if-out-total.true

pub returns-clause-out_after : goal.returns-clause-out_after
returns-clause-out_after c = all_laid _ _ (omega (arith, c.measure-total.ensures, c.if-out-total.false)) c.put_all-2.ensures
