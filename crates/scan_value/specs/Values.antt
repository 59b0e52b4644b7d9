-- Values in a text.
use Rattle.std.specs.Prelude.{◌≡◌, Bool, not, ◌&&◌, List, ◌++◌, ℕ, ◌≤◌, ◌<◌, length, take, drop, T, eqb, Option, Some, None}
use Rattle.std.proofs.Math.Option as logic
use Rattle.model.specs.Value.{Content, is_printable}
use Rattle.model.specs.Xml.{escaped, content_xml}
use Rattle.model.specs.Intake.{may_show}
use Rattle.scan.specs.Text.{begins}
use Rattle.scan.specs.Shown.{content_in, shows}
use Rattle.kind.specs.declared.Kind.{Kind}

-- ---- characters

-- l is the character x, escaped where it must be, and r
pub record Shown (l : List ℕ) (x : ℕ) (r : List ℕ) : Type 0 where
  pub printable : T (is_printable x)
  pub same : l ≡ escaped x ++ r

-- what a character read at a place says
abbrev pub CharAt : List ℕ → ℕ → Option (ℕ × ℕ) → Type 0
CharAt l at (Some (x, next)) = (at < next) × (next ≤ length l) × Shown (drop at l) x (drop next l)
CharAt l at None = (x : ℕ) (r : List ℕ) → Shown (drop at l) x r → ⊥

-- a byte that stands for itself, if it is no ampersand: printable, and neither < nor >
unfoldable pub is_plain : ℕ → Bool
is_plain x = is_printable x && (not (eqb x 60) && not (eqb x 62))

-- ---- values

-- l is what an element of content c shows between its start tag and the next tag, with which r begins
pub record Valued (l : List ℕ) (c : logic.Option Content) (r : List ℕ) : Type 0 where
  pub shows : T (may_show c)
  pub ends : T (begins 60 r)
  pub same : l ≡ content_xml c ++ r

-- what a value read at a place, behind a tag that shows k, says; its bytes are the first of the buffer b
abbrev pub ValueAt : List ℕ → ℕ → Option Kind → List ℕ → Option (ℕ × ℕ) → Type 0
ValueAt l at k b (Some (n, next)) = (at ≤ next) × (next ≤ length l) × (n ≤ 16) × Valued (drop at l) (content_in k (take n b)) (drop next l)
ValueAt l at k b None = (c : logic.Option Content) (r : List ℕ) → shows c ≡ k → Valued (drop at l) c r → ⊥

-- what no value says: a tag is next, or not
abbrev pub NothingAt : List ℕ → ℕ → Option (ℕ × ℕ) → Type 0
NothingAt l at (Some (n, next)) = (n ≡ 0) × (next ≡ at) × (at ≤ length l) × T (begins 60 (drop at l))
NothingAt l at None = T (begins 60 (drop at l)) → ⊥
