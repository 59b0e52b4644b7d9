-- Start tags at a place of a text.
use mathlib.Core.Path.{◌≡◌, refl, sym, ap, ◌∙◌}
use mathlib.Core.List.{List, [], ◌++◌, append_assoc}
use Prim.Native.Nat.{ℕ, ◌≤◌, ◌<◌}
use native.Mathlib.Omega.{arith}
use lib.ListN.{drop}
use lib.Dec.{T, leb, ltb}
use mir.Facts.{yes_leb, yes_ltb}
use Rattle.model.specs.Label.{is_label}
use Rattle.model.specs.Path.{Step, valid_step}
use Rattle.model.specs.Text.{ascii, decimal, is_digit}
use Rattle.model.specs.Xml.{attribute, preserve, kind_letter, start_tag}
use Rattle.model.proofs.Bools.{both}
use Rattle.model.proofs.Paths.{step-ranges}
use Rattle.std.specs.Prelude.{Option, Some, None}
use Rattle.scan.specs.Shown.{content_in}
use Rattle.kind.specs.declared.Kind.{Kind}
use Rattle.scan_tag.specs.Tags.{mark_text, MarkAt, Behind, BehindAt, Tagged, TagAt}
use Rattle.scan_tag.proofs.Leading.{behind-unique}

-- ---- the parts of a start tag

-- what follows the name's digits
abbrev behind_name : Step → Option Kind → List ℕ → List ℕ
behind_name a k r = ascii " label=\"" ++ (decimal a.label ++ (mark_text k ++ r))

-- the name, the label, the attributes and what follows the tag, one behind the other
start-parts : (a : Step) (k : Option Kind) (r : List ℕ) → start_tag a (content_in k []) ++ r ≡ ascii "<e" ++ (decimal a.name ++ behind_name a k r)
unfolding start_tag
start-parts a k r =
    flat (ascii "<e") (decimal a.name) (ascii " label=\"") (decimal a.label) (ascii "\"")
    (attribute "preserve" (preserve (content_in k [])) ++ (attribute "kind" (kind_letter (content_in k [])) ++ ascii ">"))
    r
  where
    flat : (s n t l q p r : List ℕ) → (s ++ (n ++ ((t ++ (l ++ q)) ++ p))) ++ r ≡ s ++ (n ++ (t ++ (l ++ ((q ++ p) ++ r))))
    flat s n t l q p r = simp append_assoc

-- a step of such numbers is valid
ranges-step : (n l : ℕ) → 1 ≤ n → n ≤ 65535 → l ≤ 31 → T (valid_step (record { name = n; label = l }))
unfolding valid_step is_label
ranges-step n l h j k =
    let p : T (leb 1 n) = yes_leb h in
    let q : T (leb n 65535) = yes_leb j in
    let s : l < 32 = omega arith in
    let r : T (ltb l 32) = yes_ltb s in
    search both

module _ {l r : List ℕ} {a : Step} {k : Option Kind} (s : Tagged l a k r) where
  -- its name
  tagged-name : Behind (ascii "<e") 65535 l a.name (behind_name a k r)
  unfolding is_digit
  tagged-name = record { small = (step-ranges a s.valid).1; ends = tt; same = s.same ∙ start-parts a k r }

  -- and its label
  tagged-label : Behind (ascii " label=\"") 31 (behind_name a k r) a.label (mark_text k ++ r)
  unfolding is_digit
  tagged-label = record { small = (step-ranges a s.valid).2; ends = tt; same = refl }

-- ---- a start tag at a place

module _ (l : List ℕ) (at : ℕ) where
  -- no name there
  pub tag-nameless : BehindAt (ascii "<e") 65535 l at None → TagAt l at None
  tag-nameless f a k r s = f a.name (behind_name a k r) (tagged-name s)

  module _ {n gap : ℕ} (name-read : BehindAt (ascii "<e") 65535 l at (Some (n, gap))) where
    -- the name of a tag there, and what follows it
    the-name : {a : Step} {k : Option Kind} {r : List ℕ} → Tagged (drop at l) a k r → (n ≡ a.name) × (drop gap l ≡ behind_name a k r)
    the-name s = behind-unique (ascii "<e") name-read.2 (tagged-name s)

    -- the label of a tag there
    the-label : {a : Step} {k : Option Kind} {r : List ℕ} → Tagged (drop at l) a k r → Behind (ascii " label=\"") 31 (drop gap l) a.label (mark_text k ++ r)
    the-label s = rw (the-name s).1 (tagged-label s)

    -- no name is 0
    pub tag-zero : n ≡ 0 → TagAt l at None
    tag-zero e a k r s = omega (arith, (the-name s).0, (step-ranges a s.valid).0)

    -- no label behind the name
    pub tag-unlabelled : BehindAt (ascii " label=\"") 31 l gap None → TagAt l at None
    tag-unlabelled f a k r s = f a.label (mark_text k ++ r) (the-label s)

    module _ {m quote : ℕ} (label-read : BehindAt (ascii " label=\"") 31 l gap (Some (m, quote))) where
      -- neither attribute behind the label
      pub tag-unmarked : MarkAt l quote None → TagAt l at None
      tag-unmarked f a k r s = f k r (behind-unique (ascii " label=\"") label-read.2 (the-label s)).1

      -- a name, a label and the attributes
      pub tag-found : (n ≡ 0 → ⊥) → (k : Option Kind) {next : ℕ} → MarkAt l quote (Some (k, next)) → TagAt l at (Some (record { name = n; label = m; shown = k; next = next }))
      tag-found h k {next} f = (
        omega (arith, name-read.0, label-read.0, f.0),
        f.1,
        record {
          valid = ranges-step n m (omega arith) name-read.2.small label-read.2.small;
          same =
              name-read.2.same
              ∙ ap (λ (r : List ℕ). ascii "<e" ++ (decimal n ++ r)) (label-read.2.same ∙ ap (λ (r : List ℕ). ascii " label=\"" ++ (decimal m ++ r)) f.2)
              ∙ sym (start-parts (record { name = n; label = m }) k (drop next l));
        },
      )
