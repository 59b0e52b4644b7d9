-- The tag and the value of the first steps of a slot's path, and how long they are.
use mathlib.Core.Path.{◌≡◌, sym, ap, subst, ◌∙◌}
use mathlib.Core.Bool.{Bool, true, false, cond, ◌&&◌}
use mathlib.Core.Option.{Option, none, some}
use mathlib.Core.List.{List, [], ◌∷◌, ◌++◌, append-nil}
use Prim.Native.Nat.{ℕ, suc, ◌+◌, ◌≤◌, ◌<◌}
use native.Mathlib.Omega.{arith}
use lib.ListN.{length, take, length-append}
use lib.Seq.{length-take-le, take_all}
use lib.Dec.{T}
use Rattle.model.specs.Lists.{all}
use Rattle.model.specs.Path.{Step, same_path, valid_step, valid_path, ends_in}
use Rattle.model.specs.Value.{Content, allowed, storable}
use Rattle.model.specs.Element.{Element, valid_element}
use Rattle.model.specs.Slot.{depth, step_at, read_path, read_content, read_slot}
use Rattle.model.specs.View.{content_at}
use Rattle.model.specs.Text.{decimal}
use Rattle.model.specs.Xml.{start_tag, end_tag, value_xml, content_xml}
use Rattle.model.proofs.Bools.{and_l, and_r}
use Rattle.slot.proofs.Reading.{length-path}
use Rattle.text.proofs.Widths.{decimal-width}
use Rattle.xml.proofs.Widths.{tag-length, end-length, value-short}
use Rattle.listing.specs.Used.{Used}
use Rattle.listing.proofs.Drawing.{last_step_lem, last-valid, content-shorter, content-own}
use Rattle.xml_view.specs.Places.{opening}

-- what the first d + 1 steps of a slot's path show
abbrev pub content_of : List ℕ → ℕ → Option Content
content_of b d = content_at (read_slot b ∷ []) (take (suc d) (read_path b))

module _ {b : List ℕ} (used : Used b) (d : ℕ) where
  module _ {a : Step} (ea : a ≡ step_at b d) {w : ℕ} (e : (w ≡ depth b) × (w < 256)) where
    -- an element above the slot's own is removed
    pub opening-removed : d + 1 < w → start_tag a none ≡ opening (step_at b d) (content_of b d)
    unfolding read_slot
    opening-removed h =
        let k : length (take (suc d) (read_path b)) ≡ suc d = length-take-le (suc d) (read_path b) (omega (arith, length-path b, e.0)) in
        let c : content_of b d ≡ none = content-shorter (read_slot b) (take (suc d) (read_path b)) (omega (arith, length-path b, e.0)) in
        ap (λ (x : Step). start_tag x none) ea
        ∙ sym (append-nil (start_tag (step_at b d) none))
        ∙ ap (opening (step_at b d)) (sym c)

    -- the slot's own is live
    pub opening-live : d < depth b → w ≤ d + 1 → {k : ℕ} {v : List ℕ} → k ≡ (read_content b).kind → v ≡ (read_content b).value
        → start_tag a (some (record { kind = k; value = v })) ++ value_xml k v ≡ opening (step_at b d) (content_of b d)
    unfolding read_slot
    opening-live g h {k} {v} ek ev =
        let whole : take (suc d) (read_path b) ≡ read_path b = take_all (suc d) (read_path b) (omega (arith, length-path b, e.0)) in
        let c : content_of b d ≡ some (read_content b) = ap (content_at (read_slot b ∷ [])) whole ∙ content-own (read_slot b) in
        let r : ◌≡◌ {A = Content} (record { kind = k; value = v }) (read_content b) = λ i. record { kind = ek i; value = ev i } in
        ap (λ (x : Step). opening x (some (record { kind = k; value = v }))) ea
        ∙ ap (λ (x : Content). opening (step_at b d) (some x)) r
        ∙ ap (opening (step_at b d)) (sym c)

-- ---- widths

-- a step with a name of 16 bits and a label: the tag has at most 47 bytes, the end tag nine
pub narrow-tags : (a : Step) (c : Option Content) → a.name ≤ 65535 → a.label < 32 → (length (start_tag a c) ≤ 47) × (length (end_tag a.name) ≤ 9)
narrow-tags a c h k =
    let n : length (decimal a.name) ≤ 5 = decimal-width a.name 4 (omega arith) in
    let l : length (decimal a.label) ≤ 2 = decimal-width a.label 1 (omega arith) in
    (omega (arith, tag-length a c), omega (arith, end-length a.name))

-- a content among one valid element has a value of at most 80 bytes
pub content-short : (n : ℕ) (e : Element) (p : List Step) → T (valid_element n e) → length (content_xml (content_at (e ∷ []) p)) ≤ 80
unfolding valid_element storable
content-short n e p v = go (same_path p e.path)
  where
    go : (t : Bool) → length (content_xml (cond t (some e.content) none)) ≤ 80
    go true = value-short e.content.kind e.content.value (and_r (valid_path e.path && ends_in n e.path) (allowed e.content.kind e.content.value) v)
    go false = omega arith

module _ {b : List ℕ} (used : Used b) (d : ℕ) (h : d < depth b) where
  valid-steps : T (all valid_step (read_path b))
  unfolding valid_element valid_path read_slot
  valid-steps = let v : T (valid_element used.label (read_slot b)) = used.valid in search (and_l, and_r)

  step-valid : ((step_at b d).name ≤ 65535) × ((step_at b d).label < 32)
  step-valid =
      let v = last-valid (read_path b) d (omega (arith, length-path b)) valid-steps in
      let e : some (step_at b d) ≡ some v.0 = sym (last_step_lem b d h) ∙ v.1 in
      let f : step_at b d ≡ v.0 = cc in
      (subst (λ (a : Step). a.name ≤ 65535) (sym f) v.2, subst (λ (a : Step). a.label < 32) (sym f) v.3)

  pub opening-short : length (opening (step_at b d) (content_of b d)) ≤ 127
  opening-short =
      let c : Option Content = content_of b d in
      omega (
        arith,
        length-append (start_tag (step_at b d) c) (content_xml c),
        (narrow-tags (step_at b d) c step-valid.0 step-valid.1).0,
        content-short used.label (read_slot b) (take (suc d) (read_path b)) used.valid,
      )

  pub end_short : length (end_tag (step_at b d).name) ≤ 9
  end_short = (narrow-tags (step_at b d) none step-valid.0 step-valid.1).1
