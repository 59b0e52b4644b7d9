-- Lines carried out, one list behind another; each prints one text and leaves one store.
use mathlib.Core.Path.{◌≡◌, refl, sym, ap, ap₂, ◌∙◌}
use mathlib.Core.Option.{Option, none, some}
use mathlib.Core.List.{List, [], ◌∷◌, ◌++◌, map, append_assoc}
use Prim.Native.Nat.{ℕ}
use native.Mathlib.Omega.{arith}
use lib.ListN.{length, take, drop, take-append-drop}
use lib.Seq.{length-take-le}
use Rattle.model.specs.Run.{answer_of, store_after}
use Rattle.model.specs.Script.{ScriptCall, call_of, unread_line, answer_lines, output, Readings}
use Rattle.model.proofs.Script.{read_line, read_line-reads, reading-unique}
use Rattle.carry.specs.Lines.{lines_store, Printed, Carried}

-- ---- one list of lines behind another

pub readings-append : (ls ms : List (List ℕ)) (rs qs : List (Option ScriptCall)) → Readings ls rs → Readings ms qs → Readings (ls ++ ms) (rs ++ qs)
readings-append [] ms [] qs s t = t
readings-append [] ms (r ∷ rs) qs s t = absurd s
readings-append (l ∷ ls) ms [] qs s t = absurd s
readings-append (l ∷ ls) ms (r ∷ rs) qs s t = (s.0, readings-append ls ms rs qs s.1 t)

output-append : (rs qs : List (Option ScriptCall)) (s : List ℕ) → output (rs ++ qs) s ≡ output rs s ++ output qs (lines_store rs s)
output-append [] qs s = refl
output-append (none ∷ rs) qs s =
    ap (λ (x : List ℕ). unread_line ++ x) (output-append rs qs s) ∙ sym (append_assoc unread_line (output rs s) (output qs (lines_store rs s)))
output-append (some c ∷ rs) qs s =
    let a : List ℕ = answer_lines (answer_of (call_of c) s) in
    let u : List ℕ = store_after (call_of c) s in
    ap (λ (x : List ℕ). a ++ x) (output-append rs qs u) ∙ sym (append_assoc a (output rs u) (output qs (lines_store rs u)))

store-append : (rs qs : List (Option ScriptCall)) (s : List ℕ) → lines_store (rs ++ qs) s ≡ lines_store qs (lines_store rs s)
store-append [] qs s = refl
store-append (none ∷ rs) qs s = store-append rs qs s
store-append (some c ∷ rs) qs s = store-append rs qs (store_after (call_of c) s)

pub printed-append : {ls ms : List (List ℕ)} {s t u x y : List ℕ} → Printed ls s x t → Printed ms t y u → Printed (ls ++ ms) s (x ++ y) u
printed-append {ls} {ms} {s} {t} {u} {x} {y} a b =
    let rs : List (Option ScriptCall) = a.readings in
    let qs : List (Option ScriptCall) = b.readings in
    record {
      readings = rs ++ qs;
      read = readings-append ls ms rs qs a.read b.read;
      printed =
          ap₂ (λ (v w : List ℕ). v ++ w) a.printed (b.printed ∙ ap (output qs) a.left)
          ∙ sym (output-append rs qs s);
      left = b.left ∙ ap (lines_store qs) a.left ∙ sym (store-append rs qs s);
    }

-- no line
pub printed-none : (s : List ℕ) → Printed [] s [] s
printed-none s = record { readings = []; read = tt; printed = refl; left = refl }

pub carried_none : (s o : List ℕ) → Carried [] s o 0 s o
carried_none s o = record { lines = printed-none s; within = omega arith; rest = refl }

-- ---- other lines that read alike

module _ {ls ms : List (List ℕ)} (alike : (rs : List (Option ScriptCall)) → Readings ls rs → Readings ms rs) where
  pub printed-alike : {s x t : List ℕ} → Printed ls s x t → Printed ms s x t
  printed-alike a = record { readings = a.readings; read = alike a.readings a.read; printed = a.printed; left = a.left }

  pub carried-alike : {s o t o' : List ℕ} {w : ℕ} → Carried ls s o w t o' → Carried ms s o w t o'
  carried-alike a = record { lines = printed-alike a.lines; within = a.within; rest = a.rest }

-- ---- no other result is possible

readings-are : (ls : List (List ℕ)) (rs : List (Option ScriptCall)) → Readings ls rs → rs ≡ map read_line ls
readings-are [] [] h = refl
readings-are [] (r ∷ rs) h = absurd h
readings-are (l ∷ ls) [] h = absurd h
readings-are (l ∷ ls) (r ∷ rs) h =
    ap₂ (λ (q : Option ScriptCall) (qs : List (Option ScriptCall)). q ∷ qs)
    (reading-unique l r (read_line l) h.0 (read_line-reads l)) (readings-are ls rs h.1)

-- the text and the store are functions of the lines and the store before
pub printed-is : {ls : List (List ℕ)} {s x t : List ℕ} → Printed ls s x t → (x ≡ output (map read_line ls) s) × (t ≡ lines_store (map read_line ls) s)
printed-is {ls} {s} {x} {t} a =
    let e : a.readings ≡ map read_line ls = readings-are ls a.readings a.read in (
      a.printed ∙ ap (λ (rs : List (Option ScriptCall)). output rs s) e,
      a.left ∙ ap (λ (rs : List (Option ScriptCall)). lines_store rs s) e,
    )

pub printed-one : {ls : List (List ℕ)} {s x t y u : List ℕ} → Printed ls s x t → Printed ls s y u → (x ≡ y) × (t ≡ u)
printed-one a b = ((printed-is a).0 ∙ sym (printed-is b).0, (printed-is a).1 ∙ sym (printed-is b).1)

pub carried-one : {ls : List (List ℕ)} {s o t o' t2 o2 : List ℕ} {w w2 : ℕ} → Carried ls s o w t o' → Carried ls s o w2 t2 o2 → (w ≡ w2) × (t ≡ t2) × (o' ≡ o2)
carried-one {ls} {s} {o} {t} {o'} {t2} {o2} {w} {w2} a b =
    let x : take w o' ≡ take w2 o2 = (printed-one a.lines b.lines).0 in
    let n : w ≡ w2 = sym (length-take-le w o' a.within) ∙ ap length x ∙ length-take-le w2 o2 b.within in
    let r : drop w o' ≡ drop w2 o2 = a.rest ∙ ap (λ (k : ℕ). drop k o) n ∙ sym b.rest in
    let l : o' ≡ o2 = sym (take-append-drop w o') ∙ ap₂ (λ (v z : List ℕ). v ++ z) x r ∙ take-append-drop w2 o2 in
    (n, (printed-one a.lines b.lines).1, l)
