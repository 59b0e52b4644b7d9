-- A value that was read is that of the element that stands there.
use mathlib.Core.Path.{◌≡◌, sym, ap, ◌∙◌}
use mathlib.Core.Option.{some}
use mathlib.Core.List.{List}
use Prim.Native.Nat.{ℕ}
use Rattle.model.specs.Value.{Content}
use Rattle.model.proofs.Tagging.{content-unique}
use Rattle.kind.specs.Code.{code}
use Rattle.kind.specs.declared.Kind.{Kind}
use Rattle.scan.specs.Shown.{content_in}
use Rattle.scan_value.specs.Values.{Valued}
use Rattle.std.specs.Prelude.{Some}
use Rattle.xml_read.proofs.Heads.{begins-opens}

-- a value of the element's kind that was read is the element's
pub value_read : {m : List ℕ} {c : Content} {u : List ℕ} → Valued m (some c) u → (k : Kind) {v r : List ℕ} → c.kind ≡ code k → Valued m (content_in (Some k) v) r
    → c ≡ record { kind = code k; value = v }
value_read {m} {c} {u} w k {v} {r} e s =
    let q = content-unique (some c) (content_in (Some k) v) u r w.shows s.shows (ap (λ (n : ℕ). some n) e) (begins-opens u w.ends) (begins-opens r s.ends) (sym w.same ∙ s.same) in
    let t : some c ≡ content_in (Some k) v = q.0 in
    cc
