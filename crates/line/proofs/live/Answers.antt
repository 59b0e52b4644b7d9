-- `line::live`: depth, name and label, then the mark, kind and value.
use native.Mathlib.Omega.{arith}
use Rattle.line.proofs.Lines.{live-line}
use Rattle.line.proofs.Widths.{start-short}
use Rattle.text.proofs.Overlays.{puts, puts_as}
use Rattle.line.proofs.live.Goals as goal

pub put_bytes-requires : goal.put_bytes-requires
put_bytes-requires c = omega (arith, c.start.ensures.1, start-short c.ranges.depth c.args.step.fits)

pub content-requires : goal.content-requires
content-requires c =
    record {
      at_bound = omega (arith, c.start.ensures.1, c.put_bytes.ensures.1, start-short c.ranges.depth c.args.step.fits);
      t = c.requires.t;
    }

pub returns : goal.returns
returns c = puts_as (live-line _ _ _ _) (puts c.start.ensures (puts c.put_bytes.ensures c.content.ensures))
