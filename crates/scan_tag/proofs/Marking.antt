-- What stands in a start tag behind the digits of its label.
use mathlib.Core.Path.{◌≡◌, refl, sym, ap, ◌∙◌}
use mathlib.Core.Bool.{Bool, true, false, not}
use mathlib.Core.List.{List, [], ◌∷◌, ◌++◌}
use Prim.Native.Nat.{ℕ, ◌+◌, ◌≤◌, ◌<◌}
use native.Mathlib.Omega.{arith}
use lib.ListN.{length, drop, get_or}
use lib.Seq.{drop-drop}
use Rattle.model.specs.Text.{ascii}
use Rattle.model.specs.View.{letter}
use Rattle.scan.specs.Text.{begins, is_front}
use Rattle.scan.proofs.Goings.{neither, drop_here, drop-within}
use Rattle.scan.proofs.Fronts.{front-yes, front-no}
use Rattle.scan_tag.specs.Tags.{letter_text, mark_text, LetterAt, MarkAt}
use Rattle.std.specs.Prelude.{Option, Some, None}
use Rattle.kind.specs.declared.Kind.{Kind}
use Rattle.kind.specs.declared.Kind.TheVariants.{Group, Measure, Text}

-- what all live elements show before the letter, and all that a removed one shows
abbrev present : List ℕ
present = ascii "\" preserve=\"PRESENT\" kind=\""

abbrev removed : List ℕ
removed = ascii "\" preserve=\"REMOVED\" kind=\"-\">"

-- ---- the letter

-- the byte of a kind's letter
abbrev letter_byte : Kind → ℕ
letter_byte Group = 71
letter_byte Measure = 77
letter_byte Text = 84

letter-text : (k : Kind) → letter_text k ≡ letter_byte k ∷ ascii "\">"
unfolding letter
letter-text Group = refl
letter-text Measure = refl
letter-text Text = refl

module _ (l : List ℕ) (at : ℕ) {t : Bool} (e : t ≡ is_front (ascii "\">") (drop (at + 1) l)) where
  -- what stands there if it is a letter and the end of a tag
  letter-rest : (k : Kind) (r : List ℕ) → drop at l ≡ letter_text k ++ r → (at < length l) × (drop (at + 1) l ≡ ascii "\">" ++ r)
  letter-rest k r q = drop-within l at (letter_byte k) (ascii "\">" ++ r) (q ∙ ap (λ (x : List ℕ). x ++ r) (letter-text k))

  -- the tag does not end behind one byte
  pub letter-open : not t ≡ true → LetterAt l at None
  letter-open h k r q = front-no (ascii "\">") l (at + 1) e h r (letter-rest k r q).1

  module _ (h : not t ≡ false) where
    -- it does, within the text
    letter-within : at + 3 ≤ length l
    letter-within = omega (arith, (front-yes 34 (62 ∷ []) l (at + 1) e h).1)

    -- so a byte stands there
    pub letter-inside : at < length l
    letter-inside = omega (arith, letter-within)

    -- the letter of a kind
    pub letter-is : (k : Kind) → get_or l at 0 ≡ letter_byte k → LetterAt l at (Some (k, at + 3))
    letter-is k q =
        let w : at + 1 + 2 ≡ at + 3 = omega arith in (
          omega arith,
          letter-within,
          drop_here l at letter-inside
              ∙ ap (λ (r : List ℕ). get_or l at 0 ∷ r) ((front-yes 34 (62 ∷ []) l (at + 1) e h).0 ∙ ap (λ (n : ℕ). ascii "\">" ++ drop n l) w)
              ∙ ap (λ (x : ℕ). x ∷ (ascii "\">" ++ drop (at + 3) l)) q
              ∙ ap (λ (x : List ℕ). x ++ drop (at + 3) l) (sym (letter-text k)),
        )

    -- no kind's letter
    pub letter-other : (get_or l at 0 ≡ 71 → ⊥) → (get_or l at 0 ≡ 77 → ⊥) → (get_or l at 0 ≡ 84 → ⊥) → LetterAt l at None
    letter-other f g i k r q = go k (byte k r q)
      where
        byte : (k : Kind) (r : List ℕ) → drop at l ≡ letter_text k ++ r → get_or l at 0 ≡ letter_byte k
        byte k r q =
            let u : drop at l ≡ letter_byte k ∷ (ascii "\">" ++ r) = q ∙ ap (λ (x : List ℕ). x ++ r) (letter-text k) in
            let d : drop at l ≡ get_or l at 0 ∷ drop (at + 1) l = drop_here l at letter-inside in
            cc (sym d ∙ u)

        go : (k : Kind) → get_or l at 0 ≡ letter_byte k → ⊥
        go Group p = f p
        go Measure p = g p
        go Text p = i p

-- ---- the attributes

live-text : (k : Kind) → mark_text (Some k) ≡ present ++ letter_text k
unfolding letter
live-text Group = refl
live-text Measure = refl
live-text Text = refl

-- a removed element shows something else before the letter
removed-not-present : (x y : List ℕ) → removed ++ x ≡ present ++ y → ⊥
removed-not-present x y q = let z : ◌≡◌ {A = ℕ} 82 80 = cc q in omega arith

-- what is shown is that of a live element, or of a removed one
live-or-removed : (k : Option Kind) (l r : List ℕ) → l ≡ mark_text k ++ r → ((k : Kind) → l ≡ present ++ (letter_text k ++ r) → ⊥) → (l ≡ removed ++ r → ⊥) → ⊥
live-or-removed None l r q f g = g q
live-or-removed (Some k) l r q f g = f k (q ∙ ap (λ (x : List ℕ). x ++ r) (live-text k))

module _ (l : List ℕ) (at : ℕ) {v : Bool} (w : v ≡ begins 82 (drop (at + 12) l)) where
  -- byte 12 of what stands there
  twelfth : (x : List ℕ) → drop at l ≡ x → drop (at + 12) l ≡ drop 12 x
  twelfth x q = sym (drop-drop 12 at l) ∙ ap (drop 12) q

  module _ {u : Bool} (f : u ≡ is_front removed (drop at l)) where
    -- a removed element
    pub mark-removed : not u ≡ false → MarkAt l at (Some (None, at + 30))
    mark-removed k =
        let p = front-yes 34 (ascii " preserve=\"REMOVED\" kind=\"-\">") l at f k in
        (omega arith, p.1, p.0)

    -- neither: byte 12 is not a live element's
    pub mark-unremoved : v ≡ true → not u ≡ true → MarkAt l at None
    mark-unremoved h g k r q =
        live-or-removed k (drop at l) r q
        (λ i p. neither (w ∙ ap (begins 82) (twelfth (present ++ (letter_text i ++ r)) p)) h)
        (λ p. front-no removed l at f g r p)

  module _ (h : v ≡ false) {t : Bool} (e : t ≡ is_front present (drop at l)) where
    -- neither: byte 12 is not a removed element's
    pub mark-none : not t ≡ true → MarkAt l at None
    mark-none g k r q =
        live-or-removed k (drop at l) r q (λ i p. front-no present l at e g (letter_text i ++ r) p)
        (λ p. neither h (w ∙ ap (begins 82) (twelfth (removed ++ r) p)))

    module _ (g : not t ≡ false) where
      -- the letter's place is within the text
      pub present-within : at + 27 ≤ length l
      present-within = omega (arith, (front-yes 34 (ascii " preserve=\"PRESENT\" kind=\"") l at e g).1)

      there : drop at l ≡ present ++ drop (at + 27) l
      there = (front-yes 34 (ascii " preserve=\"PRESENT\" kind=\"") l at e g).0

      -- a live element: what is read of its letter
      pub mark-present : (k : Kind) {next : ℕ} → LetterAt l (at + 27) (Some (k, next)) → MarkAt l at (Some (Some k, next))
      mark-present k {next} s = (
        omega (arith, s.0),
        s.1,
        there ∙ ap (λ (r : List ℕ). present ++ r) s.2 ∙ ap (λ (x : List ℕ). x ++ drop next l) (sym (live-text k)),
      )

      -- no letter
      pub mark-letterless : LetterAt l (at + 27) None → MarkAt l at None
      mark-letterless s k r q =
          live-or-removed k (drop at l) r q (λ i p. s i r (ap (drop 27) (sym there ∙ p))) (λ p. removed-not-present r (drop (at + 27) l) (sym p ∙ there))
