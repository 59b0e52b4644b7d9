-- The key of the element at a place of a text, and a key looked for among others.
use mathlib.Core.Path.{◌≡◌, sym, ap, ◌∙◌}
use mathlib.Core.Bool.{Bool, ◌||◌, or-false, or_assoc}
use mathlib.Core.List.{List, [], ◌∷◌, ◌++◌}
use Prim.Native.Nat.{ℕ, ◌+◌, ◌-◌, ◌*◌, ◌≤◌, ◌<◌}
use native.Mathlib.Omega.{arith}
use lib.ListN.{length, drop, length-drop}
use lib.Seq.{drop-drop}
use lib.Dec.{eqb}
use Rattle.model.specs.Lists.{any}
use Rattle.model.specs.Path.{Step}
use Rattle.model.specs.Text.{ascii, decimal, is_digit}
use Rattle.model.specs.Xml.{end_tag}
use Rattle.model.proofs.Paths.{step-ranges}
use Rattle.model.proofs.Tagging.{start-text}
use Rattle.model.proofs.Sending.{xml-element, end-text}
use Rattle.scan.specs.Text.{begins}
use Rattle.scan.specs.Numbers.{Numbered, NumberAt}
use Rattle.std.specs.Prelude.{Some, None, fold}
use Rattle.scan.proofs.Numerals.{numbered-unique, decimal-begins}
use Rattle.siblings.specs.Keys.{Opens, KeyAt}

-- ---- a key among others

-- what a pass over them finds
pub kept-fold : (k : ℕ) (t : Bool) (ks : List ℕ) → fold (λ (b : Bool) (x : ℕ). b || eqb k x) t ks ≡ (t || any (eqb k) ks)
kept-fold k t [] = sym (or-false t)
kept-fold k t (x ∷ ks) = kept-fold k (t || eqb k x) ks ∙ or_assoc t (eqb k x) (any (eqb k) ks)

-- ---- an element's key

-- a start tag behind its name
abbrev labelled : Step → List ℕ → List ℕ
labelled a r = ascii " label=\"" ++ (decimal a.label ++ (34 ∷ r))

-- an element's text begins with its start tag
opens-tag : (l : List ℕ) (a : Step) → Opens l a → (r : List ℕ) × (l ≡ ascii "<e" ++ (decimal a.name ++ labelled a r))
opens-tag l a o = (_, o.same ∙ xml-element a o.content o.inside o.behind o.rest ∙ start-text a o.content _)

-- there is room for k bytes at a place where no fewer stand
long-there : (l : List ℕ) (at k : ℕ) (r : List ℕ) → k ≤ length r → drop at l ≡ r → k ≤ length l - at
long-there l at k r h e = let n : length l - at ≡ length r = sym (length-drop at l) ∙ ap length e in omega arith

module _ (l : List ℕ) (at : ℕ) where
  -- its name stands behind <e
  name-there : (a : Step) → Opens (drop at l) a → (r : List ℕ) × (2 ≤ length l - at) × Numbered 65535 (drop (at + 2) l) a.name (labelled a r)
  unfolding is_digit
  name-there a o =
      let t = opens-tag (drop at l) a o in (
        t.0,
        long-there l at 2 (ascii "<e" ++ (decimal a.name ++ labelled a t.0)) (omega arith) t.1,
        record { small = (step-ranges a o.valid).1; ends = tt; same = sym (drop-drop 2 at l) ∙ ap (drop 2) t.1 },
      )

  -- there is no room for <e
  pub key-short : length l - at < 2 → KeyAt l at None
  key-short h a o = let t = name-there a o in omega (arith, t.1)

  -- no name follows
  pub key-nameless : NumberAt 65535 l (at + 2) None → KeyAt l at None
  key-nameless f a o = let t = name-there a o in f a.name (labelled a t.0) t.2

  module _ {name gap : ℕ} (name-known : NumberAt 65535 l (at + 2) (Some (name, gap))) where
    -- the name is the element's, and its label stands behind eight bytes
    label-there : (a : Step) → Opens (drop at l) a → (r : List ℕ) × (name ≡ a.name) × (8 ≤ length l - gap) × Numbered 31 (drop (gap + 8) l) a.label (34 ∷ r)
    unfolding is_digit
    label-there a o =
        let t = name-there a o in
        let u = numbered-unique name-known.2 t.2 in (
          t.0,
          u.0,
          long-there l gap 8 (labelled a t.0) (omega arith) u.1,
          record { small = (step-ranges a o.valid).2; ends = tt; same = sym (drop-drop 8 gap l) ∙ ap (drop 8) u.1 },
        )

    -- there is no room for a label
    pub key-cut : length l - gap < 8 → KeyAt l at None
    key-cut h a o = let t = label-there a o in omega (arith, t.2)

    -- an end tag has no number there
    no_end : (n : ℕ) (r : List ℕ) → drop at l ≡ end_tag n ++ r → ⊥
    unfolding is_digit
    no_end n r e =
        let d : drop (at + 2) l ≡ 101 ∷ (decimal n ++ (ascii ">" ++ r)) = sym (drop-drop 2 at l) ∙ ap (drop 2) (e ∙ end-text n r) in
        decimal-begins 101 tt name (drop gap l) (ap (begins 101) (sym name-known.2.same ∙ d))

    -- no label follows
    pub key-unlabelled : NumberAt 31 l (gap + 8) None → KeyAt l at None
    key-unlabelled f a o = let t = label-there a o in f a.label (34 ∷ t.0) t.3

    module _ {label next : ℕ} (label-known : NumberAt 31 l (gap + 8) (Some (label, next))) where
      -- so both make a key
      pub key_fits : (name ≤ 65535) × (label ≤ 31)
      key_fits = (name-known.2.small, label-known.2.small)

      -- which is the element's
      pub key-found : {k : ℕ} → k ≡ 32 * name + label → KeyAt l at (Some k)
      key-found {k} e = (omega (arith, name-known.0, name-known.1), no_end, is)
        where
          is : (a : Step) → Opens (drop at l) a → k ≡ 32 * a.name + a.label
          is a o =
              let t = label-there a o in
              let u = numbered-unique label-known.2 t.3 in
              omega (arith, t.1, u.0)
