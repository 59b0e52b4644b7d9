-- `calls::bring`: by the value.
use mathlib.Core.Path.{refl}
use Rattle.std.proofs.Common.{rules}
use Rattle.carry.proofs.Doings.{text-lent}
use Rattle.carry.proofs.calls.bring.Goals as goal

pub returns-in-Group : goal.returns-in-Group
returns-in-Group g c =
    rw c.in-Group.is (record { store = _; value = _; left = _; met = c.act.ensures; store_is = refl; value_is = refl; left_is = refl })

pub returns-in-Measure : goal.returns-in-Measure
returns-in-Measure g c =
    rw c.in-Measure.is
    (record { store = _; value = _; left = _; met = c.act-in-Measure.ensures; store_is = refl; value_is = search rules; left_is = refl })

pub returns-in-Text : goal.returns-in-Text
returns-in-Text g c =
    rw c.in-Text.is (record {
      store = _;
      value = _;
      left = _;
      met = c.act-in-Text.ensures;
      store_is = refl;
      value_is = text-lent c.args.line.now refl c.saturating_sub-at.ensures;
      left_is = refl;
    })
