-- Trees by the first of the entries, and the loop over an element's contents, wherever the entries are read from.
use mathlib.Core.Path.{◌≡◌, refl, sym, ap, ap₂, ◌∙◌}
use mathlib.Core.Bool.{Bool, true, false, not, cond}
use mathlib.Core.Option.{Option, none, some}
use mathlib.Core.List.{List, [], ◌∷◌, ◌++◌, append_assoc, append-nil}
use Prim.Native.Nat.{ℕ, zero, suc, ◌+◌, ◌*◌, ◌-◌, ◌≤◌, ◌<◌}
use native.Mathlib.Omega.{arith}
use lib.ListN.{length, drop, length-drop}
use lib.Seq.{drop-drop}
use lib.Dec.{T, ltb}
use mir.Facts.{ltb_yes, ltb_no, yes_ltb, no_ltb}
use borrow.Author.Tests.{ltb-true, ltb-false}
use Rattle.model.specs.Path.{Step, last_step}
use Rattle.model.specs.Value.{Content}
use Rattle.model.specs.Tree.{Forest, empty, grown, Entry}
use Rattle.model.specs.Xml.{start_tag, end_tag, content_xml, xml}
use Rattle.model.proofs.Bools.{decide, cond_yes, cond_no}
use Rattle.text.specs.Overlay.{Wrote}
use Rattle.text.proofs.Overlays.{then, wrote_as, Going, going_start, going_step, going_end}
use Rattle.xml_view.specs.Nested.{inner, contents_in, contents, tree, size}
use Rattle.xml_view.specs.Places.{opening, opens}

-- an entry's depth
abbrev pub steps : Entry → ℕ
steps e = length e.path

-- ---- how many entries lie inside

module _ (d : ℕ) (e : Entry) (es : List Entry) where
  pub inner-more : d < steps e → inner d (e ∷ es) ≡ suc (inner d es)
  unfolding inner
  inner-more h = cond_yes (ltb d (steps e)) (suc (inner d es)) 0 (yes_ltb h)

  pub inner-none : steps e ≤ d → inner d (e ∷ es) ≡ 0
  unfolding inner
  inner-none h = cond_no (ltb d (steps e)) (suc (inner d es)) 0 (no_ltb h)

pub inner-empty : (d : ℕ) → inner d [] ≡ 0
unfolding inner
inner-empty d = refl

pub inner-most : (d : ℕ) (es : List Entry) → inner d es ≤ length es
inner-most d [] = rw (inner-empty d) (omega arith)
inner-most d (e ∷ es) =
    decide (ltb d (steps e))
    (λ (t : T (ltb d (steps e))). omega (arith, inner-most d es, inner-more d e es (ltb_yes t)))
    (λ (t : T (not (ltb d (steps e)))). omega (arith, inner-none d e es (ltb_no t)))

-- what is deeper than x is deeper than d too
pub inner-split : (d x : ℕ) (es : List Entry) → d < x → inner d es ≡ inner x es + inner d (drop (inner x es) es)
inner-split d x [] h = rw (inner-empty x) (omega arith)
inner-split d x (e ∷ es) h =
    decide (ltb x (steps e))
    (λ (t : T (ltb x (steps e))).
    let l : x < steps e = ltb_yes t in
    let m : inner d (e ∷ es) ≡ suc (inner d es) = inner-more d e es (omega arith) in
    let k = inner-split d x es h in
    rw (inner-more x e es l) (omega arith))
    (λ (t : T (not (ltb x (steps e)))). rw (inner-none x e es (ltb_no t)) (omega arith))

-- ---- the trees

contents-fuel : (m n d : ℕ) (es : List Entry) → length es ≤ m → length es ≤ n → contents_in m d es ≡ contents_in n d es
unfolding contents_in
contents-fuel zero zero d es h k = refl
contents-fuel zero (suc n) d [] h k = refl
contents-fuel zero (suc n) d (e ∷ es) h k = absurd (omega arith)
contents-fuel (suc m) zero d [] h k = refl
contents-fuel (suc m) zero d (e ∷ es) h k = absurd (omega arith)
contents-fuel (suc m) (suc n) d [] h k = refl
contents-fuel (suc m) (suc n) d (e ∷ es) h k =
    let l : length (drop (inner (steps e) es) es) ≡ length es - inner (steps e) es = length-drop (inner (steps e) es) es in
    ap₂ (λ (x y : Forest). cond (ltb d (steps e)) (grown (last_step e.path) e.content x y) empty)
    (contents-fuel m n (steps e) es (omega arith) (omega arith))
    (contents-fuel m n d (drop (inner (steps e) es) es) (omega arith) (omega arith))

pub contents-empty : (d : ℕ) → contents d [] ≡ empty
unfolding contents contents_in
contents-empty d = refl

module _ (d : ℕ) (e : Entry) (es : List Entry) where
  pub contents-none : steps e ≤ d → contents d (e ∷ es) ≡ empty
  unfolding contents contents_in
  contents-none h = cond_no (ltb d (steps e)) _ empty (no_ltb h)

  pub contents-more : d < steps e
      → contents d (e ∷ es) ≡ grown (last_step e.path) e.content (contents (steps e) es) (contents d (drop (inner (steps e) es) es))
  unfolding contents contents_in
  contents-more h =
      let l : length (drop (inner (steps e) es) es) ≡ length es - inner (steps e) es = length-drop (inner (steps e) es) es in
      cond_yes (ltb d (steps e)) _ empty (yes_ltb h)
      ∙ ap (λ (x : Forest). grown (last_step e.path) e.content (contents_in (length es) (steps e) es) x)
      (contents-fuel (length es) (length (drop (inner (steps e) es) es)) d (drop (inner (steps e) es) es) (omega arith) (omega arith))

-- an element and what stands behind it
grown-xml : (o : Option Step) (c : Option Content) (f g : Forest) → xml (grown o c f g) ≡ xml (grown o c f empty) ++ xml g
grown-xml none c f g = refl
grown-xml (some a) c f g = simp append_assoc

-- the entries by the first of them
module _ {es : List Entry} {e : Entry} {more : List Entry} (q : es ≡ e ∷ more) where
  pub size-first : size es ≡ suc (inner (steps e) more)
  unfolding size
  size-first = rw q refl

  pub tree-first : {a : Step} → last_step e.path ≡ some a
      → xml (tree es) ≡ start_tag a e.content ++ (content_xml e.content ++ (xml (contents (steps e) more) ++ (end_tag a.name ++ [])))
  unfolding tree
  tree-first l = rw (q, l) refl

  pub contents-first : (d : ℕ) → d < steps e → xml (contents d es) ≡ xml (tree es) ++ xml (contents d (drop (size es) es))
  unfolding tree size
  contents-first d h =
      rw q
      (ap xml (contents-more d e more h)
      ∙ grown-xml (last_step e.path) e.content (contents (steps e) more) (contents d (drop (inner (steps e) more) more)))

  pub inner_first : (d : ℕ) → d < steps e → inner d es ≡ size es + inner d (drop (size es) es)
  unfolding size
  inner_first d h =
      rw q
      (let m : inner d (e ∷ more) ≡ suc (inner d more) = inner-more d e more h in
      let k : inner d more ≡ inner (steps e) more + inner d (drop (inner (steps e) more) more) = inner-split d (steps e) more h in
      omega arith)

-- ---- the loop over contents

-- of es₀ the entries es are left: with their trees, what is written gives the whole
pub record Writing (d : ℕ) (es₀ : List Entry) (o : List ℕ) (a : ℕ) (es : List Entry) (o' : List ℕ) (to : ℕ) : Type 0 where
  pub fewer : length es ≤ length es₀
  pub room : to + 160 * length es ≤ a + 160 * length es₀
  pub rest : drop (inner d es) es ≡ drop (inner d es₀) es₀
  pub going : Going o a (xml (contents d es₀)) o' to (xml (contents d es))

pub writing_start : (d : ℕ) (es : List Entry) (o : List ℕ) (a : ℕ) → Writing d es o a es o a
writing_start d es o a =
    record { fewer = omega arith; room = omega arith; rest = refl; going = going_start o a (xml (contents d es)) }

-- at an entry inside
first-inside : (d : ℕ) (es : List Entry) → opens d es ≡ true → (e : Entry) × (more : List Entry) × (es ≡ e ∷ more) × (d < steps e)
first-inside d [] t = let z : ◌≡◌ {A = ℕ} 0 1 = cc in absurd (omega arith)
first-inside d (e ∷ more) t = (e, more, refl, ltb-true d (steps e) t)

module _ {d : ℕ} {es₀ : List Entry} {o : List ℕ} {a : ℕ} {es : List Entry} {o' : List ℕ} {to : ℕ} (w : Writing d es₀ o a es o' to) where
  -- behind the tree of an entry inside, es' is left
  module _ {b : Bool} (t : b ≡ opens d es) (y : b ≡ true) {es' : List Entry} (n : es' ≡ drop (size es) es) where
    pub writing-less : length es' < length es
    writing-less =
        let q = (first-inside d es (sym t ∙ y)).2 in
        let l : length (drop (size es) es) ≡ length es - size es = length-drop (size es) es in
        omega (arith, ap length n, ap length q, size-first q)

    pub writing-next : {o'' : List ℕ} {to' : ℕ} → Wrote o' to (xml (tree es)) o'' to' → to' + 160 * length es' ≤ to + 160 * length es
        → Writing d es₀ o a es' o'' to'
    writing-next v k =
        let q = (first-inside d es (sym t ∙ y)).2 in
        let h = (first-inside d es (sym t ∙ y)).3 in
        record {
          fewer = omega (arith, writing-less, w.fewer);
          room = omega (arith, k, w.room);
          rest =
              ap (λ (l : List Entry). drop (inner d l) l) n
              ∙ drop-drop (inner d (drop (size es) es)) (size es) es
              ∙ ap (λ (j : ℕ). drop j es) (sym (inner_first q d h))
              ∙ w.rest;
          going =
              going_step (xml (contents d es'))
              (contents-first q d h ∙ ap (λ (l : List Entry). xml (tree es) ++ xml (contents d l)) (sym n))
              w.going v;
        }

-- behind the last
nothing : (d : ℕ) (es : List Entry) → opens d es ≡ false → (contents d es ≡ empty) × (inner d es ≡ 0)
nothing d [] t = (contents-empty d, inner-empty d)
nothing d (e ∷ es) t = (contents-none d e es (ltb-false d (steps e) t), inner-none d e es (ltb-false d (steps e) t))

pub writing-end : {d : ℕ} {es₀ : List Entry} {o : List ℕ} {a : ℕ} {es : List Entry} {o' : List ℕ} {to : ℕ}
    → Writing d es₀ o a es o' to → {b : Bool} → b ≡ opens d es → b ≡ false → Wrote o a (xml (contents d es₀)) o' to × (es ≡ drop (inner d es₀) es₀)
writing-end {d} {es₀} {o} {a} {es} w t y =
    let n = nothing d es (sym t ∙ y) in
    (going_end (ap xml n.0) w.going, sym (ap (λ (j : ℕ). drop j es) n.1) ∙ w.rest)

-- ---- an element: its tag and value, its contents and its end tag

module _ {es : List Entry} {e : Entry} {more : List Entry} (q : es ≡ e ∷ more) {a : Step} (l : last_step e.path ≡ some a)
    {o o' : List ℕ} {at m : ℕ} (s : Wrote o at (opening a e.content) o' m) where
  -- room for the contents
  pub inside-room : length (opening a e.content) ≤ 144 → at + 160 * length es < 4294967296 → m + 160 * length more < 4294967296
  inside-room w h = omega (arith, h, w, ap length q, s.ends)

  module _ {o'' : List ℕ} {k d : ℕ} (z : d ≡ steps e) (b : Wrote o' m (xml (contents d more)) o'' k)
      {rest : List Entry} (r : rest ≡ drop (inner d more) more) (u : k + 160 * length rest ≤ m + 160 * length more) where
    pub end-room : length (opening a e.content) ≤ 144 → at + 160 * length es < 4294967296 → k + 14 < 4294967296
    end-room w h = omega (arith, h, u, w, ap length q, s.ends)

    pub element-end : {n : ℕ} → n ≡ a.name → length (opening a e.content) + length (end_tag n) ≤ 160 → {o''' : List ℕ} {to : ℕ} → Wrote o'' k (end_tag n) o''' to
        → Wrote o at (xml (tree es)) o''' to × (rest ≡ drop (size es) es) × (to + 160 * length rest ≤ at + 160 * length es)
    element-end {n} i w f = (
      wrote_as
          (append_assoc (start_tag a e.content) (content_xml e.content) (xml (contents d more) ++ end_tag n)
          ∙ ap₂ (λ (x : ℕ) (y : List ℕ). start_tag a e.content ++ (content_xml e.content ++ (xml (contents x more) ++ y))) z
          (ap end_tag i ∙ sym (append-nil (end_tag a.name)))
          ∙ sym (tree-first q l))
          (then s (then b f)),
      r
          ∙ ap (λ (x : ℕ). drop (inner x more) more) z
          ∙ sym (ap (λ (t : List Entry). drop (suc (inner (steps e) more)) t) q)
          ∙ ap (λ (j : ℕ). drop j es) (sym (size-first q)),
      omega (arith, u, w, ap length q, s.ends, f.ends),
    )
