-- Tags in a text.
use Rattle.std.specs.Prelude.{◌≡◌, List, [], ◌++◌, ℕ, ◌≤◌, ◌<◌, length, drop, T, Option, Some, None}
use Rattle.model.specs.Path.{Step, valid_step}
use Rattle.model.specs.Text.{ascii, decimal}
use Rattle.model.specs.Xml.{attribute, preserve, kind_letter, start_tag, end_tag}
use Rattle.scan.specs.Text.{no_digit}
use Rattle.scan.specs.Shown.{content_in}
use Rattle.kind.specs.declared.Kind.{Kind}
use Rattle.scan_tag.specs.declared.Tag.{Tag}

-- ---- behind the digits of the label

-- the letter and the end of the tag
abbrev pub letter_text : Kind → List ℕ
letter_text k = kind_letter (content_in (Some k) []) ++ ascii "\">"

-- what a live element's letter read at a place says
abbrev pub LetterAt : List ℕ → ℕ → Option (Kind × ℕ) → Type 0
LetterAt l at (Some (k, next)) = (at < next) × (next ≤ length l) × (drop at l ≡ letter_text k ++ drop next l)
LetterAt l at None = (k : Kind) (r : List ℕ) → drop at l ≡ letter_text k ++ r → ⊥

-- the end of the label, the attributes behind it and the end of the tag
abbrev pub mark_text : Option Kind → List ℕ
mark_text k = ascii "\"" ++ (attribute "preserve" (preserve (content_in k [])) ++ (attribute "kind" (kind_letter (content_in k [])) ++ ascii ">"))

-- what they say, read at a place
abbrev pub MarkAt : List ℕ → ℕ → Option (Option Kind × ℕ) → Type 0
MarkAt l at (Some (k, next)) = (at < next) × (next ≤ length l) × (drop at l ≡ mark_text k ++ drop next l)
MarkAt l at None = (k : Option Kind) (r : List ℕ) → drop at l ≡ mark_text k ++ r → ⊥

-- ---- a number behind given bytes

-- l is the bytes b, the decimal of n, which is at most most, and r, which begins with no digit
pub record Behind (b : List ℕ) (most : ℕ) (l : List ℕ) (n : ℕ) (r : List ℕ) : Type 0 where
  pub small : n ≤ most
  pub ends : T (no_digit r)
  pub same : l ≡ b ++ (decimal n ++ r)

-- what a number read behind b at a place says
abbrev pub BehindAt : List ℕ → ℕ → List ℕ → ℕ → Option (ℕ × ℕ) → Type 0
BehindAt b most l at (Some (n, next)) = (at < next) × (next ≤ length l) × Behind b most (drop at l) n (drop next l)
BehindAt b most l at None = (n : ℕ) (r : List ℕ) → Behind b most (drop at l) n r → ⊥

-- ---- start tags

-- l is a start tag of the step a, which shows k, and r
pub record Tagged (l : List ℕ) (a : Step) (k : Option Kind) (r : List ℕ) : Type 0 where
  pub valid : T (valid_step a)
  pub same : l ≡ start_tag a (content_in k []) ++ r

-- what a start tag read at a place says
abbrev pub TagAt : List ℕ → ℕ → Option Tag → Type 0
TagAt l at (Some t) = (at < t.next) × (t.next ≤ length l) × Tagged (drop at l) (record { name = t.name; label = t.label }) t.shown (drop t.next l)
TagAt l at None = (a : Step) (k : Option Kind) (r : List ℕ) → Tagged (drop at l) a k r → ⊥

-- ---- end tags

-- what an end tag of the name n read at a place says
abbrev pub EndAt : List ℕ → ℕ → ℕ → Option ℕ → Type 0
EndAt l at n (Some next) = (at < next) × (next ≤ length l) × (drop at l ≡ end_tag n ++ drop next l)
EndAt l at n None = (r : List ℕ) → drop at l ≡ end_tag n ++ r → ⊥
