-- Tags by their parts, values by their kinds, and the loop over a text.
use mathlib.Core.Path.{◌≡◌, refl, sym, ap, ◌∙◌}
use mathlib.Core.Bool.{Bool, true, false, not, cond}
use mathlib.Core.Option.{none, some}
use mathlib.Core.List.{List, [], ◌∷◌, ◌++◌, append_assoc}
use Prim.Native.Nat.{ℕ, suc, ◌+◌, ◌*◌, ◌≤◌, ◌<◌}
use native.Mathlib.Omega.{arith}
use native.Mathlib.Numerals.{add-one}
use lib.ListN.{length, drop, get_or, drop_of_length-le}
use lib.Seq.{drop-cons}
use lib.Dec.{T, eqb}
use mir.Facts.{eqb_yes, eqb_no, yes_eqb, no_eqb}
use Rattle.model.specs.Lists.{gather}
use Rattle.model.specs.Path.{Step}
use Rattle.model.specs.Value.{allowed}
use Rattle.model.specs.Text.{ascii, decimal, measure_of, signed}
use Rattle.model.specs.View.{letter}
use Rattle.model.specs.Xml.{escaped, value_xml, start_tag, end_tag, outer_tag}
use Rattle.model.proofs.Bools.{decide, cond_yes, cond_no}
use Rattle.kind.specs.declared.Kind.{Kind}
use Rattle.kind.specs.declared.Kind.TheVariants.{Group, Measure, Text}
use Rattle.kind.specs.declared.Rule.{Rule}
use Rattle.kind.specs.Code.{code}
use Rattle.kind.specs.Rule.{rule_of}
use Rattle.kind.proofs.Rules.{never}
use Rattle.text.specs.Overlay.{Wrote}
use Rattle.text.proofs.Overlays.{Going, going_start, going_step, going_end}
use Rattle.xml.specs.Pieces.{tag_start}

pub removed-tag : (a : Step) → tag_start a ++ ascii "\" preserve=\"REMOVED\" kind=\"-\">" ≡ start_tag a none
unfolding start_tag
removed-tag a = simp append_assoc

-- a live element's, by its letter
pub present-tag : (a : Step) (k : ℕ) {x : ℕ} → x ∷ [] ≡ letter k
    → tag_start a ++ (ascii "\" preserve=\"PRESENT\" kind=\"" ++ ((x ∷ []) ++ ascii "\">")) ≡ start_tag a (some (record { kind = k; value = [] }))
unfolding start_tag
present-tag a k e =
    ap (λ (l : List ℕ). tag_start a ++ (ascii "\" preserve=\"PRESENT\" kind=\"" ++ (l ++ ascii "\">"))) e
    ∙ simp append_assoc

pub start-parts : (a : Step) → ascii "<e" ++ (decimal a.name ++ (ascii " label=\"" ++ decimal a.label)) ≡ tag_start a
start-parts a = refl

pub end-parts : (n : ℕ) → ascii "</e" ++ (decimal n ++ ascii ">") ≡ end_tag n
unfolding end_tag
end-parts n = refl

pub outer-parts : (s : ℕ) → ascii "<dossier subject=\"" ++ (decimal s ++ ascii "\">") ≡ outer_tag s
unfolding outer_tag
outer-parts s = simp append_assoc

-- the value does not show in the tag
pub same_tag : (a : Step) (k : ℕ) (v w : List ℕ) → start_tag a (some (record { kind = k; value = v })) ≡ start_tag a (some (record { kind = k; value = w }))
unfolding start_tag
same_tag a k v w = refl

-- ---- values

-- the rule of a number is a measure's
pub xml-number : (k : Kind) (v : List ℕ) → (rule_of k).number ≡ true → signed (measure_of v) ≡ value_xml (code k) v
unfolding value_xml rule_of
xml-number Group v e = never e
xml-number Measure v e = refl
xml-number Text v e = never e

-- of the others a group has no characters
pub xml-text : (k : Kind) (v : List ℕ) → T (allowed (code k) v) → (rule_of k).number ≡ false → gather escaped v ≡ value_xml (code k) v
unfolding value_xml allowed rule_of
xml-text Group [] t e = refl
xml-text Group (x ∷ v) t e = let l : length (x ∷ v) ≡ 0 = eqb_yes t in absurd (omega arith)
xml-text Measure v t e = never (sym e)
xml-text Text v t e = refl

module _ (k : Kind) (v : List ℕ) (t : T (allowed (code k) v)) {r : Rule} (e : r ≡ rule_of k) where
  number_is : {b : Bool} → r.number ≡ b → (rule_of k).number ≡ b
  number_is h = ap (λ (x : Rule). x.number) (sym e) ∙ h

  pub xml-as-number : r.number ≡ true → {m : ℕ} → m ≡ measure_of v → signed m ≡ value_xml (code k) v
  xml-as-number h g = ap signed g ∙ xml-number k v (number_is h)

  pub xml-as-text : r.number ≡ false → gather escaped v ≡ value_xml (code k) v
  xml-as-text h = xml-text k v t (number_is h)

-- ---- characters

module _ (x : ℕ) where
  abbrev not-and : List ℕ
  not-and = cond (eqb x 60) (ascii "&lt;") (cond (eqb x 62) (ascii "&gt;") (x ∷ []))

  pub escaped-and : x ≡ 38 → ascii "&amp;" ≡ escaped x
  unfolding escaped
  escaped-and e = sym (cond_yes (eqb x 38) (ascii "&amp;") not-and (yes_eqb e))

  module _ (a : x ≡ 38 → ⊥) where
    pub escaped-less : x ≡ 60 → ascii "&lt;" ≡ escaped x
    unfolding escaped
    escaped-less e =
        sym (cond_no (eqb x 38) (ascii "&amp;") not-and (no_eqb a) ∙ cond_yes (eqb x 60) (ascii "&lt;") (cond (eqb x 62) (ascii "&gt;") (x ∷ [])) (yes_eqb e))

    module _ (b : x ≡ 60 → ⊥) where
      neither : escaped x ≡ cond (eqb x 62) (ascii "&gt;") (x ∷ [])
      unfolding escaped
      neither = cond_no (eqb x 38) (ascii "&amp;") not-and (no_eqb a) ∙ cond_no (eqb x 60) (ascii "&lt;") (cond (eqb x 62) (ascii "&gt;") (x ∷ [])) (no_eqb b)

      pub escaped-greater : x ≡ 62 → ascii "&gt;" ≡ escaped x
      escaped-greater e = sym (neither ∙ cond_yes (eqb x 62) (ascii "&gt;") (x ∷ []) (yes_eqb e))

      pub escaped-other : (x ≡ 62 → ⊥) → x ∷ [] ≡ escaped x
      escaped-other d = sym (neither ∙ cond_no (eqb x 62) (ascii "&gt;") (x ∷ []) (no_eqb d))

-- a character is at most five
pub escaped-short : (x : ℕ) → length (escaped x) ≤ 5
escaped-short x =
    decide (eqb x 38)
    (λ (t : T (eqb x 38)). rw (← (escaped-and x (eqb_yes t))) (omega arith))
    (λ (t : T (not (eqb x 38))). decide (eqb x 60)
    (λ (u : T (eqb x 60)). rw (← (escaped-less x (eqb_no t) (eqb_yes u))) (omega arith))
    (λ (u : T (not (eqb x 60))). decide (eqb x 62)
    (λ (w : T (eqb x 62)). rw (← (escaped-greater x (eqb_no t) (eqb_no u) (eqb_yes w))) (omega arith))
    (λ (w : T (not (eqb x 62))). rw (← (escaped-other x (eqb_no t) (eqb_no u) (eqb_no w))) (omega arith))))

-- the loop over a text: what is left, laid over what was written, gives the whole
pub record Escaping (s out₀ : List ℕ) (at : ℕ) (out : List ℕ) (to i : ℕ) : Type 0 where
  pub within : i ≤ length s
  pub room : to ≤ at + 5 * i
  pub size : length out ≡ length out₀
  pub going : Going out₀ at (gather escaped s) out to (gather escaped (drop i s))

pub escaping-start : (s out : List ℕ) (at : ℕ) → Escaping s out at out at 0
escaping-start s out at = record { within = omega arith; room = omega arith; size = refl; going = going_start out at (gather escaped s) }

module _ {s out₀ : List ℕ} {at : ℕ} {out : List ℕ} {to i : ℕ} (inv : Escaping s out₀ at out to i) where
  pub escaping-next : i < length s → {out' : List ℕ} {to' : ℕ} → Wrote out to (escaped (get_or s i 0)) out' to' → length out' ≡ length out
      → Escaping s out₀ at out' to' (i + 1)
  escaping-next h w l =
      record {
        within = omega arith;
        room = omega (arith, w.ends, inv.room, escaped-short (get_or s i 0));
        size = l ∙ inv.size;
        going = rw (add-one i) (going_step (gather escaped (drop (suc i) s)) (ap (gather escaped) (drop-cons s i 0 h)) inv.going w);
      }

  pub escaping-end : length s ≤ i → Wrote out₀ at (gather escaped s) out to
  escaping-end h = going_end (ap (gather escaped) (drop_of_length-le s h)) inv.going
