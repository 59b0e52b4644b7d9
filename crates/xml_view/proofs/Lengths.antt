-- How long the XML of a view is: at most 416 bytes for a live element, with the removed ones above it.
use mathlib.Core.Path.{◌≡◌, refl, sym, ap, subst, ◌∙◌}
use mathlib.Core.Option.{Option, none, some}
use mathlib.Core.List.Memᴰ
use mathlib.Core.List.{List, [], ◌∷◌, ◌++◌}
use Prim.Native.Nat.{ℕ, zero, suc, ◌+◌, ◌-◌, ◌*◌, ◌≤◌, ◌<◌}
use native.Mathlib.Omega.{arith}
use lib.ListN.{length, take, drop, length-append, drop_of_length-le}
use lib.Seq.{length-take-le}
use lib.Dec.{T}
use Rattle.model.specs.Lists.{all, gather, ◌∈◌}
use Rattle.model.specs.Path.{Step, prefixes, parent, last_step, valid_step, valid_path}
use Rattle.model.specs.Value.{Content}
use Rattle.model.specs.Element.{Element, valid_element}
use Rattle.model.specs.Model.{open_model}
use Rattle.model.specs.Text.{decimal}
use Rattle.model.specs.View.{visible, content_at, below, seen_below}
use Rattle.model.specs.Tree.{Forest, empty, element, grown, Entry, entries, forest}
use Rattle.model.specs.Xml.{start_tag, end_tag, content_xml, xml, outer_tag, document, xml_of, xml_view}
use Rattle.model.proofs.Prefixes.{length-prefixes, prefix-at}
use Rattle.model.proofs.Bools.{and_l, and_r}
use Rattle.model.proofs.Slots.{valid-fits}
use Rattle.model.proofs.Trees.{last-longer, forest-listed}
use Rattle.path.specs.Common.{common}
use Rattle.text.proofs.Widths.{decimal-width}
use Rattle.xml.proofs.Widths.{outer-length}
use Rattle.listing.specs.Walk.{walk_of}
use Rattle.listing.proofs.Drawing.{last-valid, content-shorter}
use Rattle.listing.proofs.Walks.{Rest, rest-start, rest-new, rest-next}
use Rattle.listing.proofs.Visible.{visible-valid, visible-distinct}
use Rattle.xml_view.specs.Places.{entry_at, shown}
use Rattle.xml_view.proofs.Opening.{narrow-tags, content-short}
use Rattle.xml_view.proofs.Places.{walk-left}
use Rattle.xml_view.proofs.Spreading.{walk-entries}

-- ---- the XML of trees is as long as the elements in them, each by itself

weight : Entry → ℕ
weight e = length (xml (grown (last_step e.path) e.content empty empty))

abbrev total : List Entry → ℕ
total [] = 0
total (e ∷ es) = weight e + total es

total-append : (x y : List Entry) → total (x ++ y) ≡ total x + total y
total-append [] y = omega arith
total-append (e ∷ x) y = omega (arith, total-append x y)

-- tags and value of an element by itself
weight_is : (e : Entry) {a : Step} → last_step e.path ≡ some a
    → weight e ≡ length (start_tag a e.content) + length (content_xml e.content) + length (end_tag a.name)
unfolding weight
weight_is e {a} l =
    rw l
    (rw (length-append (start_tag a e.content), length-append (content_xml e.content), length-append (end_tag a.name)) (omega arith))

xml-total : (r : List Step) (f : Forest) → length (xml f) ≡ total (entries r f)
xml-total r empty = refl
xml-total r (element a c inside behind) =
    let q : List Step = r ++ (a ∷ []) in
    let own = weight_is (record { path = q; content = c }) (last-longer r a) in
    rw (length-append (start_tag a c), length-append (content_xml c), length-append (xml inside), length-append (end_tag a.name), total-append)
    (omega (arith, own, xml-total q inside, xml-total r behind))

-- ---- the entries of one element

module _ (n : ℕ) (e : Element) (valid : T (valid_element n e)) where
  all_valid : T (all valid_step e.path)
  unfolding valid_element valid_path
  all_valid = search (and_l, and_r)

  -- the first d + 1 steps: the two tags, and the value if it is the whole path
  step-weight : (d : ℕ) → d < length e.path
      → weight (entry_at (e ∷ []) (take (suc d) e.path)) ≤ 56 + length (content_xml (content_at (e ∷ []) (take (suc d) e.path)))
  step-weight d h =
      let a = last-valid e.path d h all_valid in
      let c : Option Content = content_at (e ∷ []) (take (suc d) e.path) in
      let tags = narrow-tags a.0 c a.2 a.3 in
      omega (arith, weight_is (entry_at (e ∷ []) (take (suc d) e.path)) a.1, tags.0, tags.1)

  -- k removed ones from the first d + 1 steps on, and the live one
  from-total : (k d : ℕ) → suc d + k ≡ length e.path → total (gather (shown (e ∷ [])) (drop d (prefixes e.path))) ≤ 56 * suc k + 80
  from-total zero d l =
      let few : length (prefixes e.path) ≤ suc d = omega (arith, length-prefixes e.path) in
      rw (prefix-at d e.path (omega arith), drop_of_length-le (prefixes e.path) few)
      (omega (arith, step-weight d (omega arith), content-short n e (take (suc d) e.path) valid))
  from-total (suc k) d l =
      let s : length (take (suc d) e.path) ≡ suc d = length-take-le (suc d) e.path (omega arith) in
      let z : content_at (e ∷ []) (take (suc d) e.path) ≡ none = content-shorter e (take (suc d) e.path) (omega arith) in
      let y : length (content_xml (content_at (e ∷ []) (take (suc d) e.path))) ≡ 0 = ap (λ (c : Option Content). length (content_xml c)) z in
      rw (prefix-at d e.path (omega arith)) (omega (arith, step-weight d (omega arith), y, from-total k (suc d) (omega arith)))

walk-total : {v : List Element} {p : List Step} (r : List Step) (es : List Element) → Rest v p r es → ((e : Element) → e ∈ es → (n : ℕ) × T (valid_element n e))
    → total (walk_of shown r es) ≤ 416 * length es
walk-total r [] f h = omega arith
walk-total r (e ∷ es) f h =
    let q : List Step = e.path in
    let own = h e (Memᴰ.head refl) in
    let new : common r q < length q = rest-new f in
    let k : ℕ = length q - suc (common r q) in
    let one = from-total own.0 e own.1 k (common r q) (omega arith) in
    let rest = walk-total q es (rest-next f) (λ d m. h d (Memᴰ.tail m)) in
    rw (walk-left r e es, total-append) (omega (arith, one, rest, new, (valid-fits own.0 e own.1).steps))

-- ---- the whole document

pub xml-short : (s : ℕ) (b : List ℕ) (p : List Step) → s < 32
    → length (xml_view s (open_model b) p) ≤ 416 * length (seen_below s (open_model b) p) + 32
unfolding xml_view xml_of document
xml-short s b p h =
    let v : List Element = visible s (open_model b) in
    let f : Forest = forest v p in
    let digits : length (decimal s) ≤ 2 = decimal-width s 1 (omega arith) in
    let rest = rest-start p (visible-distinct s b) in
    let inner : total (entries (parent p) f) ≤ 416 * length (below p v) =
    subst (λ (es : List Entry). total es ≤ 416 * length (below p v)) (walk-entries v p (visible-distinct s b) ∙ sym (forest-listed v p))
    (walk-total (parent p) (below p v) rest (λ e m. visible-valid s b (rest.inside e m))) in
    rw (length-append (outer_tag s), length-append (xml f)) (omega (arith, outer-length s, digits, xml-total (parent p) f, inner))
