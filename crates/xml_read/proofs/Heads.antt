-- An element's tag and value at a place of a text.
use mathlib.Core.Path.{◌≡◌, refl, sym, ap, ◌∙◌}
use mathlib.Core.Bool.{◌&&◌, and-true}
use Rattle.std.specs.Prelude.{Option, Some, None}
use mathlib.Core.Option.{none, some}
use mathlib.Core.Option as logic
use mathlib.Core.List.{List, [], ◌∷◌, ◌++◌}
use Prim.Native.Nat.{ℕ}
use native.Mathlib.Omega.{arith}
use lib.ListN.{take, drop}
use lib.Dec.{T, eqb}
use Rattle.model.specs.Lists.{is_byte}
use Rattle.model.specs.Path.{Step}
use Rattle.model.specs.Value.{Content, is_printable, allowed, bringable}
use Rattle.model.specs.Xml.{start_tag, content_xml}
use Rattle.model.specs.Tree.{Forest}
use Rattle.model.specs.Intake.{may_show, own_live}
use Rattle.model.proofs.Tagging.{kind_of, opens_tag, tag-unique, content-unique}
use Rattle.scan.specs.Text.{begins}
use Rattle.kind.specs.declared.Kind.{Kind}
use Rattle.kind.specs.declared.Kind.TheVariants.{Group, Measure, Text}
use Rattle.scan.specs.Shown.{content_in, kind_at, shows}
use Rattle.scan.proofs.Showing.{live-code, shows-in}
use Rattle.scan_tag.specs.Tags.{TagAt}
use Rattle.scan_value.specs.Values.{ValueAt}
use Rattle.xml_read.specs.Trees.{one, own_shown, Headed, HeadAt}
use Rattle.xml_read.proofs.Marking.{behind-part}
use Rattle.scan_tag.specs.declared.Tag.{Tag}

-- ---- what a tag shows

-- only the kind matters to a tag
same_tag : (a : Step) (k : Option Kind) (v w : List ℕ) → start_tag a (content_in k v) ≡ start_tag a (content_in k w)
unfolding start_tag
same_tag a None v w = refl
same_tag a (Some k) v w = refl

-- so a content's tag is that of what shows it
pub shown-tag : (a : Step) (c : logic.Option Content) → T (may_show c) → start_tag a c ≡ start_tag a (content_in (shows c) [])
shown-tag a none t = refl
shown-tag a (some c) t =
    ap (λ (n : ℕ). start_tag a (some (record { kind = n; value = c.value }))) (sym (live-code c t)) ∙ same_tag a (Some (kind_at c.kind)) c.value []

-- a value that each kind may have
abbrev sample : Option Kind → List ℕ
sample None = []
sample (Some Group) = []
sample (Some Measure) = 0 ∷ 0 ∷ 0 ∷ 0 ∷ []
sample (Some Text) = 32 ∷ []

sample-shows : (k : Option Kind) → T (may_show (content_in k (sample k)))
unfolding bringable allowed is_byte is_printable
sample-shows None = tt
sample-shows (Some Group) = tt
sample-shows (Some Measure) = tt
sample-shows (Some Text) = tt

-- contents of one kind show the same
same-shown : (c e : logic.Option Content) → kind_of c ≡ kind_of e → shows c ≡ shows e
same-shown none none h = refl
same-shown none (some e) h = let z : ◌≡◌ {A = ℕ} 0 1 = cc in absurd (omega arith)
same-shown (some c) none h = let z : ◌≡◌ {A = ℕ} 0 1 = cc in absurd (omega arith)
same-shown (some c) (some e) h = let z : c.kind ≡ e.kind = cc in ap (λ (n : ℕ). Some (kind_at n)) z

-- a text that goes on with < opens a tag
pub begins-opens : (r : List ℕ) → T (begins 60 r) → T (opens_tag r)
begins-opens [] t = absurd t
begins-opens (x ∷ r) t = t

pub opens-begins : (r : List ℕ) → T (opens_tag r) → T (begins 60 r)
opens-begins [] t = absurd t
opens-begins (x ∷ r) t = t

-- ---- live elements of a label

-- whether one tree is live and of the label
pub live-shown : (s : ℕ) (a : Step) (c : logic.Option Content) (i : Forest) → own_shown (shows c) a.label s (own_live s i) ≡ own_live s (one a c i)
live-shown s a none i = refl
live-shown s a (some c) i = sym (and-true (eqb a.label s && own_live s i))

-- ---- a tag and a value

-- they are determined by the text
pub headed-unique : {l : List ℕ} {a b : Step} {c e : logic.Option Content} {r q : List ℕ} → Headed l a c r → Headed l b e q → (a ≡ b) × (c ≡ e) × (r ≡ q)
headed-unique {l} {a} {b} {c} {e} {r} {q} s t =
    let u = tag-unique a b c e (content_xml c ++ r) (content_xml e ++ q) s.shows t.shows (sym s.same ∙ t.same) in
    let v = content-unique c e r q s.shows t.shows u.1 (begins-opens r s.ends) (begins-opens q t.ends) u.2 in
    (u.0, v.0, v.1)

module _ (l : List ℕ) (at : ℕ) where
  -- no tag there
  pub head-untagged : TagAt l at None → HeadAt l at None
  head-untagged f a c r s =
      f a (shows c) (content_xml c ++ r)
      (record { valid = s.valid; same = s.same ∙ ap (λ (y : List ℕ). y ++ (content_xml c ++ r)) (shown-tag a c s.shows) })

  module _ {t : Tag} (tag_read : TagAt l at (Some t)) where
    module _ (b : List ℕ) where
      -- no value behind it
      pub head-unvalued : ValueAt l t.next t.shown b None → HeadAt l at None
      head-unvalued f a c r s =
          let k : Option Kind = t.shown in
          let z : Step = record { name = t.name; label = t.label } in
          let u = tag-unique z a (content_in k (sample k)) c (drop t.next l) (content_xml c ++ r) (sample-shows k) s.shows
          (ap (λ (w : List ℕ). w ++ drop t.next l) (same_tag z k (sample k) []) ∙ sym tag_read.2.same ∙ s.same) in
          f c r (sym (same-shown (content_in k (sample k)) c u.1) ∙ shows-in k (sample k))
          (record { shows = s.shows; ends = s.ends; same = u.2 })

      -- a tag and a value
      pub head-found : {n next : ℕ} → ValueAt l t.next t.shown b (Some (n, next))
          → HeadAt l at (Some (record { name = t.name; label = t.label; shown = t.shown; value = t.next; next = next }))
      head-found {n} {next} v =
          let k : Option Kind = t.shown in
          let z : Step = record { name = t.name; label = t.label } in
          let c : logic.Option Content = content_in k (take n b) in
          let tagged : drop at l ≡ start_tag z c ++ drop t.next l = tag_read.2.same ∙ ap (λ (w : List ℕ). w ++ drop t.next l) (same_tag z k [] (take n b)) in (
            omega (arith, tag_read.0, v.0),
            v.1,
            (
              c,
              shows-in k (take n b),
              record {
                valid = tag_read.2.valid;
                shows = v.3.shows;
                ends = v.3.ends;
                same = tagged ∙ ap (λ (w : List ℕ). start_tag z c ++ w) v.3.same;
              },
              behind-part l at t.next (start_tag z c) (omega (arith, tag_read.0, tag_read.1)) tag_read.1 tagged,
            ),
          )
