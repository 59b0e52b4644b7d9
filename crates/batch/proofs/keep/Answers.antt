-- `batch::keep`: as many bytes as there is room for.
use Rattle.std.proofs.Common.{◌≡◌, ◌∙◌, sym, ap, List, ℕ, ◌++◌, ◌+◌, length, take, drop, arith, rules}
use mathlib.Core.Path.{ap₂}
use mathlib.Core.List.{append_assoc}
use lib.Seq.{length-take-le}
use borrow.Rule.Slice.PartMut.{Post-is}
use Rattle.batch.proofs.Keeping.{keep_some}
use Rattle.batch.proofs.keep.Goals as goal

pub returns : goal.returns
returns c =
    let l : List ℕ = c.args.line.now in
    let n : ℕ = c.args.n in
    let more : List ℕ = c.args.more.now in
    let z : ℕ = c.min-m.result in
    let put : c.copy_from_slice.new.self ≡ take z more = search rules in
    let m : z ≡ length (take z more) = sym (length-take-le z more (omega (arith, c.min-m.ensures))) in
    keep_some l n more c.requires.0 c.requires.1 c.min-m.ensures
    (ap₂ (λ (y p : List ℕ). take n l ++ (y ++ p)) put (Post-is n (n + z) l (omega arith))
    ∙ sym (append_assoc (take n l) (take z more) (drop (n + z) l))
    ∙ ap (λ (k : ℕ). (take n l ++ take z more) ++ drop (n + k) l) m)
