-- The elements of a tree one after another, as its text has them.
use mathlib.Core.Path.{◌≡◌, refl, sym, ap, ap₂, subst, ◌∙◌}
use mathlib.Core.Option.{none, some}
use mathlib.Core.List.{List, [], ◌∷◌, ◌++◌, map, append_assoc, map-append}
use Prim.Native.Nat.{ℕ, suc, ◌+◌, ◌-◌, ◌≤◌}
use native.Mathlib.Omega.{arith}
use lib.ListN.{length, drop, length-drop, length-append}
use lib.Seq.{drop-drop, drop-append_seam}
use lib.Dec.{T}
use Rattle.model.specs.Path.{Step, is_prefix}
use Rattle.model.specs.Element.{Element}
use Rattle.model.specs.Tree.{Forest, empty, element}
use Rattle.model.specs.Xml.{start_tag, end_tag, content_xml, xml}
use Rattle.model.specs.Intake.{in_form, own_live, elements_of}
use Rattle.model.proofs.Paths.{prefix_refl}
use Rattle.model.proofs.Trees.{longer, prefix-front}
use Rattle.model.proofs.Sending.{form-parts, xml-element, ends-opens, end-tag-ends, xml-opens}
use Rattle.model.proofs.Taking.{elements-none, elements-parts, own-parts}
use Rattle.xml_read.specs.Records.{marks}
use Rattle.scan.specs.Shown.{kind_at}
use Rattle.std.specs.Prelude.{Some}
use Rattle.xml_read.specs.declared.Mark.{Mark}
use Rattle.intake.specs.Progress.{Item, element_of, mark_of, Ready}
use Rattle.xml_read.proofs.Heads.{opens-begins}

-- those of trees of live elements below path r, whose text begins at a place
abbrev pub items_of : List Step → ℕ → Forest → List Item
items_of r at empty = []
items_of r at (element a none inside behind) = []
items_of r at (element a (some c) inside behind) =
    let value = at + length (start_tag a (some c)) in
    let first = value + length (content_xml (some c)) in
    record { over = r; step = a; content = c; place = value }
    ∷ (items_of (r ++ (a ∷ [])) first inside ++ items_of r (first + length (xml inside) + length (end_tag a.name)) behind)

module _ (s : ℕ) where
  -- they bring the elements of the trees
  pub items-elements : (r : List Step) (at : ℕ) (f : Forest) → T (own_live s f) → map element_of (items_of r at f) ≡ elements_of r f
  items-elements r at empty t = sym (elements-none r)
  items-elements r at (element a none i b) t = absurd t
  items-elements r at (element a (some c) i b) t =
      let p : List Step = r ++ (a ∷ []) in
      let value : ℕ = at + length (start_tag a (some c)) in
      let first : ℕ = value + length (content_xml (some c)) in
      let next : ℕ = first + length (xml i) + length (end_tag a.name) in
      let own = own-parts s a c i b t in
      ap (λ (xs : List Element). record { path = p; content = c } ∷ xs)
      (map-append element_of (items_of p first i) (items_of r next b)
      ∙ ap₂ (λ (xs ys : List Element). xs ++ ys) (items-elements p first i own.1) (items-elements r next b own.2))
      ∙ sym (elements-parts r a (some c) i b)

  -- their marks are those of the trees
  pub items-marks : (r : List Step) (d at : ℕ) (f : Forest) → length r ≡ d → T (own_live s f) → map mark_of (items_of r at f) ≡ marks d at f
  items-marks r d at empty e t = refl
  items-marks r d at (element a none i b) e t = absurd t
  items-marks r d at (element a (some c) i b) e t =
      let p : List Step = r ++ (a ∷ []) in
      let value : ℕ = at + length (start_tag a (some c)) in
      let first : ℕ = value + length (content_xml (some c)) in
      let next : ℕ = first + length (xml i) + length (end_tag a.name) in
      let own = own-parts s a c i b t in
      ap₂ (λ (k : ℕ) (xs : List Mark). record { steps = k; name = a.name; shown = Some (kind_at c.kind); place = value } ∷ xs) e
      (map-append mark_of (items_of p first i) (items_of r next b)
      ∙ ap₂ (λ (xs ys : List Mark). xs ++ ys) (items-marks p (suc d) first i (longer r a ∙ ap suc e) own.1) (items-marks r d next b e own.2))

-- what follows a part of a text, and it is within it
past-part : (l : List ℕ) (at : ℕ) (t r : List ℕ) → at ≤ length l → drop at l ≡ t ++ r → (at + length t ≤ length l) × (drop (at + length t) l ≡ r)
past-part l at t r h e =
    let n : length (drop at l) ≡ length l - at = length-drop at l in
    let m : length (drop at l) ≡ length t + length r = ap length e ∙ length-append t r in
    (omega arith, sym (drop-drop (length t) at l) ∙ ap (drop (length t)) e ∙ drop-append_seam t r)

module _ (s : ℕ) (l : List ℕ) where
  -- they are in form and stand in the text, if what comes behind them does
  pub items-ready : (r p : List Step) (d at : ℕ) (f : Forest) (u : List ℕ) (others : List Item) → length r ≡ d → T (is_prefix r p) → T (in_form d f) → T (own_live s f)
      → at ≤ length l → drop at l ≡ xml f ++ u → ((q : List Step) → T (is_prefix r q) → Ready s l q others) → Ready s l p (items_of r at f ++ others)
  items-ready r p d at empty u others n t form own h e k = k p t
  items-ready r p d at (element a none i b) u others n t form own h e k = absurd own
  items-ready r p d at (element a (some c) i b) u others n t form own h e k =
      let q : List Step = r ++ (a ∷ []) in
      let ends : List ℕ = end_tag a.name ++ (xml b ++ u) in
      let f = form-parts d a (some c) i b form in
      let o = own-parts s a c i b own in
      let v : ℕ = at + length (start_tag a (some c)) in
      let x : ℕ = v + length (content_xml (some c)) in
      let y : ℕ = x + length (xml i) + length (end_tag a.name) in
      let value = past-part l at (start_tag a (some c)) (content_xml (some c) ++ (xml i ++ ends)) h (e ∙ xml-element a (some c) i b u) in
      let first = past-part l v (content_xml (some c)) (xml i ++ ends) value.0 value.1 in
      let last = past-part l x (xml i) ends first.0 first.1 in
      let next = past-part l (x + length (xml i)) (end_tag a.name) (xml b ++ u) last.0 last.1 in
      let back : (q' : List Step) → T (is_prefix q q') → Ready s l q' (items_of r y b ++ others) =
      λ q' w. items-ready r q' d y b u others n (prefix-front r a q' w) f.next o.2 next.0 next.1 k in (
        t,
        record {
          shallow = rw n f.shallow;
          step = f.step;
          own = o.0;
          within = value.0;
          rest = xml i ++ ends;
          value =
              record {
                shows = f.shows;
                ends = opens-begins (xml i ++ ends) (xml-opens i ends (ends-opens ends (end-tag-ends a.name (xml b ++ u))));
                same = value.1;
              };
        },
        subst (Ready s l q) (sym (append_assoc (items_of q x i) (items_of r y b) others))
            (items-ready q q (suc d) x i ends (items_of r y b ++ others) (longer r a ∙ ap suc n) (prefix_refl q) f.within o.1 first.0 first.1 back),
      )
