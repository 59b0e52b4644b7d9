-- The marks of trees, and buffers that keep the first of them.
use mathlib.Core.Path.{◌≡◌, refl, sym, ap, ap₂, subst, ◌∙◌}
use mathlib.Core.List.{List, [], ◌∷◌, ◌++◌, append_assoc, append-nil}
use mathlib.Core.Option as logic
use Rattle.std.specs.Prelude.{Option}
use Prim.Native.Nat.{ℕ, suc, ◌+◌, ◌≤◌, ◌<◌}
use native.Mathlib.Omega.{arith}
use lib.ListN.{length, take, drop, set, length-append, length-drop}
use lib.Seq.{take_all, take-append-le, take-suc-set}
use Rattle.model.specs.Path.{Step}
use Rattle.model.specs.Value.{Content}
use Rattle.model.specs.Tree.{Forest, empty, element}
use Rattle.model.specs.Xml.{start_tag, end_tag, content_xml, xml}
use Rattle.model.proofs.Sending.{onto}
use Rattle.scan.specs.Shown.{shows}
use Rattle.kind.specs.declared.Kind.{Kind}
use Rattle.xml_read.specs.Records.{marks, Noted, Marked}
use Rattle.xml_read.specs.declared.Mark.{Mark}
use Rattle.xml_read.specs.Trees.{size, one}

-- ---- places

-- the place behind a part of the text
pub behind-part : (l : List ℕ) (at next : ℕ) (x : List ℕ) → at ≤ length l → next ≤ length l → drop at l ≡ x ++ drop next l → next ≡ at + length x
behind-part l at next x h k e =
    let n : length (drop at l) ≡ length x + length (drop next l) = ap length e ∙ length-append x (drop next l) in
    omega (arith, length-drop at l, length-drop next l)

-- ---- the marks of trees

-- each element has one
pub length-marks : (d at : ℕ) (f : Forest) → length (marks d at f) ≡ size f
length-marks d at empty = refl
length-marks d at (element a c i b) =
    let value : ℕ = at + length (start_tag a c) in
    let first : ℕ = value + length (content_xml c) in
    let next : ℕ = first + length (xml i) + length (end_tag a.name) in
    ap suc (length-append (marks (suc d) first i) (marks d next b) ∙ ap₂ (λ (m n : ℕ). m + n) (length-marks (suc d) first i) (length-marks d next b))

-- the text of an element and those behind it is as long as its parts
length-element : (a : Step) (c : logic.Option Content) (i b : Forest)
    → length (xml (element a c i b)) ≡ length (start_tag a c) + (length (content_xml c) + (length (xml i) + (length (end_tag a.name) + length (xml b))))
length-element a c i b = simp length-append

-- trees put behind trees
pub marks-onto : (d at : ℕ) (f g : Forest) → marks d at (onto f g) ≡ marks d at f ++ marks d (at + length (xml f)) g
marks-onto d at empty g = ap (λ (n : ℕ). marks d n g) (omega arith)
marks-onto d at (element a c i b) g =
    let value : ℕ = at + length (start_tag a c) in
    let first : ℕ = value + length (content_xml c) in
    let next : ℕ = first + length (xml i) + length (end_tag a.name) in
    let m : Mark = record { steps = d; name = a.name; shown = shows c; place = value } in
    let n : next + length (xml b) ≡ at + length (xml (element a c i b)) = omega (arith, length-element a c i b) in
    ap (λ (ms : List Mark). m ∷ (marks (suc d) first i ++ ms)) (marks-onto d next b g ∙ ap (λ (k : ℕ). marks d next b ++ marks d k g) n)
    ∙ ap (λ (ms : List Mark). m ∷ ms) (sym (append_assoc (marks (suc d) first i) (marks d next b) (marks d (at + length (xml (element a c i b))) g)))

-- those of one tree: its own, of what was read of it, and those inside it
pub marks-one : (d at : ℕ) (a : Step) (c : logic.Option Content) (i : Forest) {k : Option Kind} {value first : ℕ} → shows c ≡ k → value ≡ at + length (start_tag a c) → first ≡ value + length (content_xml c)
    → record { steps = d; name = a.name; shown = k; place = value } ∷ marks (d + 1) first i ≡ marks d at (one a c i)
marks-one d at a c i {k} {value} {first} e p q =
    let z : ℕ = at + length (start_tag a c) in
    let y : ℕ = z + length (content_xml c) in
    let n : first ≡ y = omega arith in
    let own : ◌≡◌ {A = Mark} (record { steps = d; name = a.name; shown = k; place = value }) (record { steps = d; name = a.name; shown = shows c; place = z }) =
    ap₂ (λ (h : Option Kind) (v : ℕ). record { steps = d; name = a.name; shown = h; place = v }) (sym e) p in
    ap₂ (λ (m : Mark) (ms : List Mark). m ∷ ms) own (ap₂ (λ (h v : ℕ). marks h v i) (omega arith) n ∙ sym (append-nil (marks (suc d) y i)))

-- ---- buffers that keep marks

-- no mark more
pub marked-none : (b : List Mark) (k : ℕ) → Marked b k b []
marked-none b k = record { goes_on = λ done n x. subst (Noted b) (sym (append-nil done)) x }

-- marks behind marks
pub marked_more : {b b' b'' : List Mark} {k j : ℕ} {ms ns : List Mark} → Marked b k b' ms → length ms ≡ j → Marked b' (k + j) b'' ns → Marked b k b'' (ms ++ ns)
marked_more {b'' = b''} {ms = ms} {ns = ns} u e v =
    record {
      goes_on = λ done n x. subst (Noted b'') (append_assoc done ms ns) (v.goes_on (done ++ ms) (length-append done ms ∙ ap₂ (λ (i j : ℕ). i + j) n e) (u.goes_on done n x));
    }

-- from the first on
pub marked_all : {b b' : List Mark} {ms : List Mark} → Marked b 0 b' ms → Noted b' ms
marked_all u = u.goes_on [] refl (record { are = refl })

module _ (b : List Mark) (k : ℕ) (m : Mark) where
  -- behind 32 nothing is kept
  pub marked-full : 32 ≤ k → Marked b k b (m ∷ [])
  marked-full h =
      record {
        goes_on =
            λ done n x.
            let e : take 32 (done ++ (m ∷ [])) ≡ take 32 done = take-append-le 32 done (m ∷ []) (omega arith) in
            record { are = rw e x.are };
      }

  -- before, it is kept
  pub marked-one : k < 32 → length b ≡ 32 → Marked b k (set b k m) (m ∷ [])
  marked-one h s = record { goes_on = λ done n x. record { are = one_more done n x.are } }
    where
      one_more : (done : List Mark) → length done ≡ k → take (length (take 32 done)) b ≡ take 32 done
          → take (length (take 32 (done ++ (m ∷ [])))) (set b k m) ≡ take 32 (done ++ (m ∷ []))
      one_more done n x =
          let j : length (done ++ (m ∷ [])) ≡ suc k = length-append done (m ∷ []) ∙ omega arith in
          let was : take 32 done ≡ done = take_all 32 done (omega arith) in
          let is : take 32 (done ++ (m ∷ [])) ≡ done ++ (m ∷ []) = take_all 32 (done ++ (m ∷ [])) (omega arith) in
          let before : take k b ≡ done = ap (λ (i : ℕ). take i b) (sym n) ∙ ap (λ (ms : List Mark). take (length ms) b) (sym was) ∙ x ∙ was in
          ap (λ (ms : List Mark). take (length ms) (set b k m)) is ∙ ap (λ (i : ℕ). take i (set b k m)) j
          ∙ take-suc-set b k m (omega arith) ∙ ap (λ (y : List Mark). y ++ (m ∷ [])) before ∙ sym is
