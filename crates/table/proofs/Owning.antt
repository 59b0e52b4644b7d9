-- What goes on behind rows 6 and 7 of an element that is there: the element's slot.
use mathlib.Core.Path.{◌≡◌, refl, ap, ◌∙◌}
use mathlib.Core.List.{List}
use Prim.Native.Nat.{ℕ, ◌<◌}
use lib.ListN.{length}
use Rattle.model.specs.Path.{Step}
use Rattle.model.specs.Value.{Content}
use Rattle.model.specs.Element.{Element, rank}
use Rattle.model.specs.Partition.{layout}
use Rattle.model.specs.Store.{replace}
use Rattle.model.specs.Model.{open_model, own_set}
use Rattle.model.specs.Rows.{row_code, own_live_rows}
use Rattle.model.specs.Call.{replaced}
use Rattle.model.proofs.Order.{ascending-sorted}
use Rattle.model.proofs.Rows.{rows_pass}
use Rattle.model.proofs.Keeps.{open-valid}
use Rattle.model.proofs.Operations.{rows-own-live}
use Rattle.partition.specs.Place.{place_of, replaced_at}
use Rattle.partition.proofs.Placing.{Stands, stands}

module _ (s : ℕ) (b : List ℕ) (p : List Step) {i : ℕ} (d : (0 ≡ row_code (own_live_rows s (open_model b) p)) × (i ≡ place_of p (own_set s (open_model b)))) where
  -- the rows pass, and the subject's set has the path at that place
  standing : Stands p (own_set s (open_model b))
  standing =
      stands p (own_set s (open_model b)) (ascending-sorted rank (own_set s (open_model b)) (open-valid b s).ascends)
      (rows-own-live s (open_model b) p (rows_pass (own_live_rows s (open_model b) p) tt d.0 refl)).1

  -- so there is its slot
  pub own-used : i < length (own_set s (open_model b))
  own-used = rw d.1 standing.within

  -- the store in which the slot has another content is the one in which the path has it
  pub own-replaced : (c : Content) {x : List ℕ} → x ≡ replace s (layout (replaced_at i c (own_set s (open_model b)))) b
      → x ≡ replace s (layout (replaced p c (own_set s (open_model b)))) b
  own-replaced c g =
      g
      ∙ ap (λ (k : ℕ). replace s (layout (replaced_at k c (own_set s (open_model b)))) b) d.1
      ∙ ap (λ (es : List Element). replace s (layout es) b) (standing.is c)
