-- What is left of a text behind an element.
use Rattle.std.specs.Prelude.{◌≡◌, Bool, cond, ◌&&◌, List, [], ◌∷◌, ℕ, ◌+◌, ◌-◌, ◌≤◌, ◌<◌, length, drop, get_or, eqb}
use Rattle.scan.specs.Text.{begins}

-- the elements open behind a byte x, of those before it and what follows: < closes one before /, and opens one before anything else
unfoldable pub deeper : ℕ → ℕ → List ℕ → ℕ
deeper d x l = cond (eqb x 60) (cond (begins 47 l) (d - 1) (d + 1)) d

-- r elements are open behind the byte at a place, where d are before it; no more are open than bytes are passed
pub record Depth (l : List ℕ) (at d r : ℕ) : Type 0 where
  pub same : r ≡ deeper d (get_or l at 0) (drop (at + 1) l)
  pub small : r ≤ at + 1

-- > where none is open
unfoldable pub ends : ℕ → ℕ → Bool
ends d x = eqb x 62 && eqb d 0

-- what follows the tag behind which none is open
unfoldable pub skipped : ℕ → List ℕ → List ℕ
skipped d [] = []
skipped d (x ∷ l) = cond (ends d x) l (skipped (deeper d x l) l)

-- r is where the element that begins at a place ends
pub record Skipped (l : List ℕ) (at r : ℕ) : Type 0 where
  pub from : at < r
  pub within : r ≤ length l
  pub same : drop r l ≡ skipped 0 (drop at l)
