-- `xml::character`: one of three escapes, or the character itself.
use native.Mathlib.Omega.{arith}
use Rattle.text.proofs.Overlays.{puts_as}
use Rattle.xml.proofs.Tags.{escaped-and, escaped-less, escaped-greater, escaped-other}
use Rattle.xml.proofs.character.Goals as goal

pub returns-in-38 : goal.returns-in-38
returns-in-38 c = puts_as (escaped-and _ c.in-38.is) c.put_bytes.ensures

pub returns-in-60 : goal.returns-in-60
returns-in-60 c = puts_as (escaped-less _ (λ e. absurd (omega (arith, e, c.in-60.is))) c.in-60.is) c.put_bytes-in-60.ensures

pub returns-in-62 : goal.returns-in-62
returns-in-62 c =
    puts_as (escaped-greater _ (λ e. absurd (omega (arith, e, c.in-62.is))) (λ e. absurd (omega (arith, e, c.in-62.is))) c.in-62.is) c.put_bytes-in-62.ensures

pub returns-in_default : goal.returns-in_default
returns-in_default c =
    puts_as (escaped-other _ (λ e. absurd (omega (arith, e))) (λ e. absurd (omega (arith, e))) (λ e. absurd (omega (arith, e)))) c.put_byte.ensures
