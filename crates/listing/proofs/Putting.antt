-- The listing by its head and the lines of the walk.
use mathlib.Core.Path.{◌≡◌, sym, ap₂, ◌∙◌}
use mathlib.Core.List.{List, ◌++◌}
use Prim.Native.Nat.{ℕ}
use lib.ListN.{length}
use Rattle.model.specs.Path.{Step, parent}
use Rattle.model.specs.Model.{open_model}
use Rattle.model.specs.View.{head_line, listing, seen_below}
use Rattle.listing.specs.Walk.{walk, walk_lines}
use Rattle.listing.proofs.Visible.{listing-walk}

module _ (s : ℕ) (b : List ℕ) (p : List Step) where
  -- the head and the lines
  pub head-lines : {n k : ℕ} → n ≡ length (walk (parent p) (seen_below s (open_model b) p)) → k ≡ s
      → head_line k n ++ walk_lines (parent p) (seen_below s (open_model b) p) ≡ listing s (open_model b) p
  head-lines c f =
      ap₂ (λ (i j : ℕ). head_line i j ++ walk_lines (parent p) (seen_below s (open_model b) p)) f c
      ∙ sym (listing-walk s b p)
