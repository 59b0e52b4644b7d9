-- A list that is sorted by one rank, sorted by another: its members and their number stay.
use mathlib.Core.Path.{◌≡◌, refl, ap, subst, ◌∙◌}
use mathlib.Core.List.{List, [], ◌∷◌}
use Prim.Native.Nat.{ℕ, suc}
use lib.ListN.{length}
use lib.Dec.{T}
use Rattle.model.specs.Sets.{precedes, is_before, ahead, sorted, sort}
use Rattle.model.proofs.Bools.{and_l, and_r}
use Rattle.model.proofs.Members.{all_in}
use Rattle.model.proofs.Alike.{Alike}
use Rattle.model.proofs.Order.{precedes-irrefl, length-put, Fresh, sort-in, in-sort-members, sorted-one}

-- r and s are the ranks; what has one rank by s has one by r
module _ {A : Type 0} (r s : A → List ℕ) (same : (x y : A) → s x ≡ s y → r x ≡ r y) where
  -- no member that stands behind x by r has x's rank by s
  pub resort-fresh : (x : A) (l : List A) → T (ahead r x l) → Fresh s x (sort s l)
  resort-fresh x l t y m e =
      precedes-irrefl (r y) (subst (λ k. T (precedes k (r y))) (same x y e) (all_in (is_before r x) l t (sort-in s l m)))

  pub resort-length : (l : List A) → T (sorted r l) → length (sort s l) ≡ length l
  resort-length [] t = refl
  resort-length (x ∷ l) t =
      length-put s x (sort s l) (resort-fresh x l (and_l (ahead r x l) (sorted r l) t))
      ∙ ap suc (resort-length l (and_r (ahead r x l) (sorted r l) t))

  pub resort-alike : (l : List A) → T (sorted r l) → Alike (sort s l) l
  resort-alike l t =
      record {
        to = λ z m. sort-in s l m;
        from = λ z m. in-sort-members s l (λ x y h k e. sorted-one r l t x y h k (same x y e)) m;
      }
