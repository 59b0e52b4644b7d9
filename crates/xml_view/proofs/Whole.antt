-- The whole XML: the place where the walk begins, and the outer tag around the trees.
use mathlib.Core.Path.{◌≡◌, refl, sym, ap, ap₂, ◌∙◌}
use mathlib.Core.List.Memᴰ
use mathlib.Core.List.{List, [], ◌∷◌, ◌++◌}
use Prim.Native.Nat.{ℕ, ◌+◌, ◌*◌, ◌/◌, ◌≤◌}
use native.Mathlib.Omega.{arith}
use lib.ListN.{length, get_or, length-append, length-map}
use lib.Dec.{T}
use Rattle.model.specs.Lists.{gather}
use Rattle.model.specs.Label.{is_label}
use Rattle.model.specs.Path.{Step, parent}
use Rattle.model.specs.Element.{Element}
use Rattle.model.specs.Model.{open_model}
use Rattle.model.specs.View.{visible, seen_below}
use Rattle.model.specs.Tree.{Forest, forest}
use Rattle.model.specs.Xml.{xml, outer_tag, outer_end, document, xml_of, xml_view}
use Rattle.model.proofs.Lists.{all_get_d}
use Rattle.model.proofs.Dominance.{label-lt}
use Rattle.model.proofs.Prefixes.{parent_shorter}
use Rattle.text.specs.declared.output.Output.{Output}
use Rattle.text.specs.Overlay.{Wrote}
use Rattle.text.proofs.Overlays.{then, wrote_as}
use Rattle.text.proofs.Widths.{decimal-width}
use Rattle.xml.proofs.Widths.{outer-length}
use Rattle.store.specs.Opened.{Opened}
use Rattle.order.specs.Refs.{element_of, refers, Refers}
use Rattle.order.proofs.Naming.{ref-valid}
use Rattle.listing.specs.Walk.{newer, walk, walk_of}
use Rattle.listing.proofs.Newer.{parent-common}
use Rattle.listing.proofs.Walks.{Rest, rest-start}
use Rattle.listing.proofs.Walking.{here-below, few-lines}
use Rattle.listing.proofs.Visible.{visible-distinct, valid-some}
use Rattle.xml_view.specs.Nested.{inner, contents}
use Rattle.xml_view.specs.Places.{shown, left_of, left, Place, Room, Put}
use Rattle.xml_view.proofs.Places.{walk-left}
use Rattle.xml_view.proofs.Spreading.{contents-forest}
use Rattle.xml_view.proofs.Lengths.{xml-short}

gather-length : (v : List Element) (l : List (List Step)) → length (gather (shown v) l) ≡ length l
gather-length v [] = refl
gather-length v (q ∷ l) = omega (arith, gather-length v l)

walk-length : (r : List Step) (es : List Element) → length (walk_of shown r es) ≡ length (walk r es)
walk-length r [] = refl
walk-length r (e ∷ es) =
    rw (length-append (gather (shown (e ∷ [])) (newer r e.path)), length-append (newer r e.path))
    (omega (arith, gather-length (e ∷ []) (newer r e.path), walk-length e.path es))

head-end : {k s : ℕ} → k ≡ s → T (is_label s) → {x y : List ℕ} {a : ℕ} → Wrote x 0 (outer_tag k) y a → a ≤ 30
head-end {k} {s} e t head = omega (arith, head.ends, outer-length k, decimal-width k 2 (omega (arith, e, label-lt s t)))

-- the walk after the parent of p begins behind its steps
begun : (v : List Element) (p : List Step) (es : List Element) → Rest v p (parent p) es → left_of es (length (parent p)) ≡ walk_of shown (parent p) es
begun v p [] f = refl
begun v p (e ∷ es) f =
    sym (walk-left (parent p) e es ∙ ap (left_of (e ∷ es)) (parent-common p e.path (f.below e (Memᴰ.head refl))))

module _ {s : ℕ} {b : List ℕ} (p : List Step) {rs : List ℕ} (o : Opened b s) (r : Refers s b rs (seen_below s (open_model b) p)) {d : ℕ} (z : d ≡ length (parent p)) where
  seen : List Element
  seen = seen_below s (open_model b) p

  rest : Rest (visible s (open_model b)) p (parent p) (seen_below s (open_model b) p)
  rest = rest-start p (visible-distinct s b)

  pub start-place : Place b rs 0 d
  start-place =
      record {
        within = omega arith;
        step = λ h.
            let t : T (refers s b (get_or rs 0 0)) = all_get_d (refers s b) rs 0 0 h r.valid in
            let some = valid-some (get_or rs 0 0 / 32) (element_of b (get_or rs 0 0)) (ref-valid s b (get_or rs 0 0) t o) in
            omega (arith, z, parent_shorter p (element_of b (get_or rs 0 0)).path (here-below p r 0 h) some);
      }

  start_left : left b rs 0 d ≡ walk_of shown (parent p) (seen_below s (open_model b) p)
  unfolding left
  start_left =
      ap₂ left_of r.named z ∙ begun (visible s (open_model b)) p (seen_below s (open_model b) p) rest

  few-left : length rs ≤ 1024 → length (left b rs 0 d) ≤ 6144
  few-left h = omega (arith, ap length start_left, walk-length (parent p) (seen_below s (open_model b) p), few-lines p r)

  pub start-room : length rs ≤ 1024 → {k : ℕ} → k ≡ s → {x y : List ℕ} {a : ℕ} → Wrote x 0 (outer_tag k) y a → Room b rs 0 d a
  start-room h e head = record { fits = omega (arith, few-left h, head-end e o.label head) }

  -- the outer tag, the trees and the outer end tag
  module _ {t u : Output} {row step : ℕ} (body : Put (contents d) (inner d) b rs 0 d t u row step) {k : ℕ} (e : k ≡ s)
      {x : List ℕ} (head : Wrote x 0 (outer_tag k) t.bytes.now t.at) where
    pub foot-room : length rs ≤ 1024 → u.at + 10 ≤ 4294967296
    foot-room h = omega (arith, few-left h, head-end e o.label head, body.room)

    pub whole-wrote : {o : List ℕ} {c : ℕ} → Wrote u.bytes.now u.at outer_end o c → Wrote x 0 (xml_view s (open_model b) p) o c
    unfolding xml_view xml_of document
    whole-wrote foot =
        let f : contents d (left b rs 0 d) ≡ forest (visible s (open_model b)) p =
        ap₂ contents z start_left ∙ contents-forest (visible s (open_model b)) p (visible-distinct s b) in
        wrote_as (ap₂ (λ (n : ℕ) (g : Forest). outer_tag n ++ (xml g ++ outer_end)) e f) (then head (then body.wrote.1 foot))

-- the XML's length by the references
pub refs-short : {s : ℕ} {b : List ℕ} (p : List Step) {rs : List ℕ} → Opened b s → Refers s b rs (seen_below s (open_model b) p)
    → length (xml_view s (open_model b) p) ≤ 416 * length rs + 32
refs-short {s} {b} p {rs} o r =
    omega (arith, xml-short s b p (label-lt s o.label), ap length r.named, length-map rs (element_of b))
