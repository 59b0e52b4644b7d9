-- However an input is cut into pieces, what is printed and the store that is left are those of its lines.
use mathlib.Core.Path.{◌≡◌, refl, sym, ap, ◌∙◌}
use mathlib.Core.List.{List, [], ◌∷◌, ◌++◌, append-nil, append_assoc}
use Prim.Native.Nat.{ℕ, ◌<◌}
use native.Mathlib.Omega.{arith}
use lib.ListN.{length, take}
use lib.Seq.{length-take-le}
use Rattle.model.specs.Store.{empty_store}
use Rattle.model.specs.Script.{lines_of}
use Rattle.carry.specs.Lines.{Printed, Carried}
use Rattle.batch.specs.Pieces.{ended, begun, last, kept, TakenIn, Underway, Piece, Fed, used_bytes, wrote_bytes, PiecesAsLines, CutsAgree, PiecesPrint}
use Rattle.carry.proofs.Carrying.{printed-none, printed-append, printed-alike, printed-one, carried-one}
use Rattle.batch.proofs.Cuts.{lines-ended, ended-append, begun-append, end-span}
use Rattle.batch.proofs.Keeping.{kept-kept, begun-alike, ended-alike, last-alike}

-- ---- one piece

module _ {k s o i l' t o' : List ℕ} {used w n : ℕ} (a : TakenIn k s o i used w n l' t o') where
  -- of an input that is not empty something is used
  pub taken-some : 0 < length i → 0 < used
  taken-some h = omega (arith, a.used-is, (end-span i).1)

  -- no other numbers, kept bytes, store or output are possible
  pub taken-one : {l2 t2 o2 : List ℕ} {used2 w2 n2 : ℕ} → TakenIn k s o i used2 w2 n2 l2 t2 o2
      → (used ≡ used2) × (w ≡ w2) × (n ≡ n2) × (take n l' ≡ take n2 l2) × (t ≡ t2) × (o' ≡ o2)
  taken-one {l2} {t2} {o2} {used2} {w2} {n2} b =
      let u : used ≡ used2 = a.used-is ∙ sym b.used-is in
      let c : Carried (ended k (take used i)) s o w2 t2 o2 = rw u b.done in
      let d = carried-one a.done c in
      let e : take n l' ≡ take n2 l2 = a.kept-is ∙ ap (λ (j : ℕ). kept (begun k (take j i))) u ∙ sym b.kept-is in
      let m : n ≡ n2 = sym (length-take-le n l' a.within) ∙ ap length e ∙ length-take-le n2 l2 b.within in
      (u, d.0, m, e, d.1, d.2)

-- ---- one behind the other

pub underway-start : (s : List ℕ) → Underway [] s [] [] s
underway-start s = record { lines = printed-none s; begins = refl }

module _ {i s text k t : List ℕ} (so : Underway i s text k t) where
  -- one piece more
  pub underway-next : {o input l' u o' : List ℕ} {used w n : ℕ} → TakenIn k t o input used w n l' u o'
      → Underway (i ++ take used input) s (text ++ take w o') (take n l') u
  underway-next {o} {input} {l'} {u} {o'} {used} {w} {n} a =
      let b : List ℕ = take used input in
      let more : Printed (ended (begun [] i) b) t (take w o') u = printed-alike (λ rs. ended-alike b k (begun [] i) rs so.begins) a.done.lines in
      record {
        lines = rw (ended-append [] i b) (printed-append so.lines more);
        begins =
            ap kept a.kept-is ∙ kept-kept (begun k b) ∙ begun-alike b k (begun [] i) so.begins
            ∙ ap kept (sym (begun-append [] i b));
      }

  -- the end of the input
  pub underway-end : {o u o' : List ℕ} {w : ℕ} → Carried (last k) t o w u o' → Printed (lines_of i) s (text ++ take w o') u
  underway-end {o} {u} {o'} {w} c =
      let end : Printed (last (begun [] i)) t (take w o') u = printed-alike (λ rs. last-alike k (begun [] i) rs so.begins) c.lines in
      rw (lines-ended [] i) (printed-append so.lines end)

-- ---- all of them

pub fed-underway : {i s x k t : List ℕ} (ps : List Piece) (k' t' : List ℕ) → Underway i s x k t → Fed ps k t k' t'
    → Underway (i ++ used_bytes ps) s (x ++ wrote_bytes ps) k' t'
fed-underway {i} {s} {x} {k} {t} [] k' t' so f = rw (append-nil i, append-nil x, f.0, f.1) so
fed-underway {i} {s} {x} {k} {t} (p ∷ ps) k' t' so f =
    let e : (i ++ take p.used p.input) ++ used_bytes ps ≡ i ++ used_bytes (p ∷ ps) = append_assoc i (take p.used p.input) (used_bytes ps) in
    let g : (x ++ take p.wrote p.output') ++ wrote_bytes ps ≡ x ++ wrote_bytes (p ∷ ps) = append_assoc x (take p.wrote p.output') (wrote_bytes ps) in
    rw (← e, ← g) (fed-underway ps k' t' (underway-next so f.0) f.1)

pub pieces-as-lines : PiecesAsLines
pieces-as-lines ps s text t w =
    let so : Underway (used_bytes ps) s (wrote_bytes ps) w.k w.store' = fed-underway ps w.k w.store' (underway-start s) w.fed in
    rw w.text-is (underway-end so w.finished)

pub cuts-agree : CutsAgree
cuts-agree ps qs s x t y u e v w =
    let a : Printed (lines_of (used_bytes ps)) s x t = pieces-as-lines ps s x t v in
    let b : Printed (lines_of (used_bytes qs)) s y u = pieces-as-lines qs s y u w in
    let c : Printed (lines_of (used_bytes ps)) s y u = rw e b in
    printed-one a c

pub pieces-print : PiecesPrint
pieces-print ps text t w =
    let p : Printed (lines_of (used_bytes ps)) empty_store text t = pieces-as-lines ps empty_store text t w in
    record { readings = p.readings; read = p.read; printed = p.printed }
