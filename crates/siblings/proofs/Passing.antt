-- Passing over an element, with all that is inside it.
use mathlib.Core.Path.{◌≡◌, refl, sym, ap, ◌∙◌}
use mathlib.Core.Bool.{Bool, true, false, not}
use mathlib.Core.Option.{Option}
use mathlib.Core.List.{List, [], ◌∷◌, ◌++◌, append_assoc}
use Prim.Native.Nat.{ℕ, ◌+◌, ◌-◌, ◌≤◌, ◌<◌}
use native.Mathlib.Omega.{arith}
use lib.ListN.{length, drop, get_or, drop_of_length-le}
use lib.Dec.{T, eqb}
use mir.Facts.{eqb_no}
use borrow.Author.Tests.{eq-eqb, ne_eqb, not-true, not-false}
use Rattle.model.specs.Lists.{all}
use Rattle.model.specs.Path.{Step}
use Rattle.model.specs.Value.{Content}
use Rattle.model.specs.Text.{ascii, decimal}
use Rattle.model.specs.Tree.{Forest, empty, element}
use Rattle.model.specs.Xml.{attribute, preserve, kind_letter, start_tag, end_tag, content_xml, xml}
use Rattle.model.proofs.Bools.{and_l, and_r}
use Rattle.model.proofs.Balance.{untagged, content-untagged, decimal-plain, plain-untagged, attributes, attributes-untagged}
use Rattle.model.proofs.Sending.{xml-element, end-text}
use Rattle.scan.specs.Text.{begins}
use Rattle.scan.proofs.Goings.{drop_here}
use Rattle.siblings.specs.Skips.{deeper, Depth, ends, skipped, Skipped}

-- ---- one byte

-- > ends the element where none is open
ends-here : (x d : ℕ) → x ≡ 62 → eqb d 0 ≡ ends d x
unfolding ends
ends-here x d e = rw (eq-eqb x 62 e)

-- nothing else does
ends-not : (x d : ℕ) → (x ≡ 62 → ⊥) → false ≡ ends d x
unfolding ends
ends-not x d h = rw (ne_eqb x 62 h)

module _ (d x : ℕ) (l : List ℕ) where
  -- the element ends
  skipped-end : true ≡ ends d x → skipped d (x ∷ l) ≡ l
  unfolding skipped
  skipped-end e = rw (← e)

  -- it goes on
  skipped-on : false ≡ ends d x → skipped d (x ∷ l) ≡ skipped (deeper d x l) l
  unfolding skipped
  skipped-on e = rw (← e)

  -- a byte that is no <
  deeper-not : (x ≡ 60 → ⊥) → d ≡ deeper d x l
  unfolding deeper
  deeper-not h = rw (ne_eqb x 60 h)

  -- < that begins no end tag
  deeper-opens : x ≡ 60 → false ≡ begins 47 l → d + 1 ≡ deeper d x l
  unfolding deeper
  deeper-opens e h = rw (eq-eqb x 60 e, ← h)

  -- < that begins one
  deeper-closes : x ≡ 60 → true ≡ begins 47 l → d - 1 ≡ deeper d x l
  unfolding deeper
  deeper-closes e h = rw (eq-eqb x 60 e, ← h)

module _ (l : List ℕ) (i d : ℕ) (h : d ≤ i) where
  -- a byte that is no <
  pub depth_same : (get_or l i 0 ≡ 60 → ⊥) → Depth l i d d
  depth_same k = record { same = deeper-not d (get_or l i 0) (drop (i + 1) l) k; small = omega arith }

  module _ (k : get_or l i 0 ≡ 60) {t : Bool} (e : t ≡ begins 47 (drop (i + 1) l)) where
    -- < of a start tag
    pub depth-more : not t ≡ true → Depth l i d (d + 1)
    depth-more n = record { same = deeper-opens d (get_or l i 0) (drop (i + 1) l) k (sym (not-true t n) ∙ e); small = omega arith }

    -- < of an end tag
    pub depth-less : not t ≡ false → Depth l i d (d - 1)
    depth-less n = record { same = deeper-closes d (get_or l i 0) (drop (i + 1) l) k (sym (not-false t n) ∙ e); small = omega arith }

-- ---- tags and elements

-- bytes that belong to no tag's ends are passed over
over-untagged : (d : ℕ) (u r : List ℕ) → T (all untagged u) → skipped d (u ++ r) ≡ skipped d r
over-untagged d [] r t = refl
over-untagged d (x ∷ u) r t =
    let h : T (untagged x) = and_l (untagged x) (all untagged u) t in
    let o : x ≡ 60 → ⊥ = eqb_no (and_l (not (eqb x 60)) (not (eqb x 62)) h) in
    let e : x ≡ 62 → ⊥ = eqb_no (and_r (not (eqb x 60)) (not (eqb x 62)) h) in
    skipped-on d x (u ++ r) (ends-not x d e)
    ∙ ap (λ (n : ℕ). skipped n (u ++ r)) (sym (deeper-not d x (u ++ r) o))
    ∙ over-untagged d u r (and_r (untagged x) (all untagged u) t)

-- a number
over-decimal : (d n : ℕ) (r : List ℕ) → skipped d (decimal n ++ r) ≡ skipped d r
over-decimal d n r = over-untagged d (decimal n) r (plain-untagged (decimal n) (decimal-plain n))

-- < of a start tag, and its name
over-open : (d n : ℕ) (r : List ℕ) → skipped d (60 ∷ 101 ∷ (decimal n ++ r)) ≡ skipped (d + 1) r
over-open d n r =
    let l : List ℕ = 101 ∷ (decimal n ++ r) in
    skipped-on d 60 l (ends-not 60 d (λ e. omega arith))
    ∙ ap (λ (k : ℕ). skipped k l) (sym (deeper-opens d 60 l refl refl))
    ∙ over-untagged (d + 1) (101 ∷ []) (decimal n ++ r) tt
    ∙ over-decimal (d + 1) n r

-- > of a tag behind which one is open
over-close : (d : ℕ) (r : List ℕ) → skipped (d + 1) (62 ∷ r) ≡ skipped (d + 1) r
over-close d r =
    skipped-on (d + 1) 62 r (sym (ne_eqb (d + 1) 0 (λ e. omega arith)) ∙ ends-here 62 (d + 1) refl)
    ∙ ap (λ (k : ℕ). skipped k r) (sym (deeper-not (d + 1) 62 r (λ e. omega arith)))

-- a start tag opens an element
over-start : (d : ℕ) (a : Step) (c : Option Content) (r : List ℕ) → skipped d (start_tag a c ++ r) ≡ skipped (d + 1) r
unfolding start_tag
over-start d a c r =
    ap (λ (l : List ℕ). skipped d (60 ∷ 101 ∷ l))
    (flat (decimal a.name) (attribute "label" (decimal a.label)) (attribute "preserve" (preserve c)) (attribute "kind" (kind_letter c)) (62 ∷ []) r)
    ∙ over-open d a.name (attributes a c ++ (62 ∷ r))
    ∙ over-untagged (d + 1) (attributes a c) (62 ∷ r) (attributes-untagged a c)
    ∙ over-close d r
  where
    flat : (n u v w z s : List ℕ) → (n ++ (u ++ (v ++ (w ++ z)))) ++ s ≡ n ++ ((u ++ (v ++ w)) ++ (z ++ s))
    flat n u v w z s = simp append_assoc

-- an end tag up to its >
over-end : (d n : ℕ) (r : List ℕ) → skipped (d + 1) (end_tag n ++ r) ≡ skipped d (62 ∷ r)
over-end d n r =
    let l : List ℕ = ascii "/e" ++ (decimal n ++ (62 ∷ r)) in
    let e : d + 1 - 1 ≡ d = omega arith in
    ap (skipped (d + 1)) (end-text n r)
    ∙ skipped-on (d + 1) 60 l (ends-not 60 (d + 1) (λ h. omega arith))
    ∙ ap (λ (k : ℕ). skipped k l) (sym (deeper-closes (d + 1) 60 l refl refl) ∙ e)
    ∙ over-untagged d (ascii "/e") (decimal n ++ (62 ∷ r)) tt
    ∙ over-decimal d n (62 ∷ r)

-- what is inside an element, up to its end tag
over-inside : (d : ℕ) (a : Step) (c : Option Content) (i b : Forest) (r : List ℕ)
    → ((e : ℕ) (s : List ℕ) → skipped (e + 1) (xml i ++ s) ≡ skipped (e + 1) s) → skipped d (xml (element a c i b) ++ r) ≡ skipped d (62 ∷ (xml b ++ r))
over-inside d a c i b r f =
    ap (skipped d) (xml-element a c i b r)
    ∙ over-start d a c (content_xml c ++ (xml i ++ (end_tag a.name ++ (xml b ++ r))))
    ∙ over-untagged (d + 1) (content_xml c) (xml i ++ (end_tag a.name ++ (xml b ++ r))) (content-untagged c)
    ∙ f d (end_tag a.name ++ (xml b ++ r))
    ∙ over-end d a.name (xml b ++ r)

-- trees inside an element are passed over
over-trees : (f : Forest) (d : ℕ) (r : List ℕ) → skipped (d + 1) (xml f ++ r) ≡ skipped (d + 1) r
over-trees empty d r = refl
over-trees (element a c i b) d r = over-inside (d + 1) a c i b r (over-trees i) ∙ over-close d (xml b ++ r) ∙ over-trees b d r

-- an element is passed over to what follows it
pub over-element : (a : Step) (c : Option Content) (i b : Forest) (r : List ℕ) → skipped 0 (xml (element a c i b) ++ r) ≡ xml b ++ r
over-element a c i b r = over-inside 0 a c i b r (over-trees i) ∙ skipped-end 0 62 (xml b ++ r) (ends-here 62 0 refl)

-- ---- the bytes of a text, one at a time

-- those up to i are passed over, and d elements are open
pub record Passed (l : List ℕ) (at i d : ℕ) : Type 0 where
  pub start : at < length l
  pub from : at ≤ i
  pub within : i ≤ length l
  pub shallow : d ≤ i
  pub same : skipped 0 (drop at l) ≡ skipped d (drop i l)

-- none is
pub passed_start : (l : List ℕ) (at : ℕ) → at < length l → Passed l at at 0
passed_start l at h = record { start = h; from = omega arith; within = omega arith; shallow = omega arith; same = refl }

module _ {l : List ℕ} {at i d : ℕ} (inv : Passed l at i d) where
  -- all are
  pub passed-end : length l ≤ i → Skipped l at (length l)
  unfolding skipped
  passed-end h =
      record {
        from = inv.start;
        within = omega arith;
        same = drop_of_length-le l {i = length l} (omega arith) ∙ sym (inv.same ∙ ap (skipped d) (drop_of_length-le l {i = i} h));
      }

  module _ (h : i < length l) {t : Bool} (e : t ≡ ends d (get_or l i 0)) where
    -- the element ends
    pub passed_here : t ≡ true → Skipped l at (i + 1)
    passed_here k =
        record {
          from = omega (arith, inv.from);
          within = omega arith;
          same = sym (inv.same ∙ ap (skipped d) (drop_here l i h) ∙ skipped-end d (get_or l i 0) (drop (i + 1) l) (sym k ∙ e));
        }

    -- it goes on
    pub passed-next : t ≡ false → {n : ℕ} → Depth l i d n → Passed l at (i + 1) n
    passed-next k m =
        record {
          start = inv.start;
          from = omega (arith, inv.from);
          within = omega arith;
          shallow = m.small;
          same =
              inv.same
              ∙ ap (skipped d) (drop_here l i h)
              ∙ skipped-on d (get_or l i 0) (drop (i + 1) l) (sym k ∙ e)
              ∙ ap (λ (j : ℕ). skipped j (drop (i + 1) l)) (sym m.same);
        }
