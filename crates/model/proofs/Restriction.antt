-- What a call reads of a model depends only on the partitions that its subject dominates.
use mathlib.Core.Path.{◌≡◌, refl, sym, ap, ◌∙◌}
use mathlib.Core.Bool.{Bool, true, false, not, cond, ◌&&◌}
use mathlib.Core.Option.{Option, none, some}
use mathlib.Core.List.{List, [], ◌∷◌}
use Prim.Native.Nat.{ℕ}
use lib.Dec.{T}
use mir.Facts.{eqb_yes}
use Rattle.model.specs.Lists.{any, gather}
use Rattle.model.specs.Label.{labels, is_label, dominates}
use Rattle.model.specs.Path.{Step, last_step, bears, ends_in}
use Rattle.model.specs.Element.{Element, contains}
use Rattle.model.specs.Model.{Cell, held, is_held, elements, Model, own_set, live_by, live}
use Rattle.model.specs.View.{visible, reaches, in_view}
use Rattle.model.specs.Rows.{row, some_raw, refusal, own_live_rows, place_rows}
use Rattle.model.proofs.Bools.{cond_yes, cond_same, not-not}
use Rattle.model.proofs.Dominance.{dominates-refl}
use Rattle.model.proofs.Rows.{refusal-behind}

-- the model with the partitions that s does not dominate emptied
unfoldable pub restrict : ℕ → Model → Model
restrict s m = record { size = m.size; cell = λ n. cond (dominates s n) (m.cell n) (held []) }

-- what is visible are the sets of the labels that s dominates
pub same-visible : (s : ℕ) (a b : Model) → ((n : ℕ) → T (dominates s n) → own_set n a ≡ own_set n b) → visible s a ≡ visible s b
unfolding visible
same-visible s a b h =
    ap (λ (f : ℕ → List Element). gather f labels) (λ i n. cond_same (dominates s n) (own_set n a) (own_set n b) [] (h n) i)

-- ---- the three things of a model that calls read

module _ (s : ℕ) (m : Model) where
  pub raw-restrict : some_raw s (restrict s m) ≡ some_raw s m
  unfolding some_raw restrict is_held
  raw-restrict = ap (λ (f : ℕ → Bool). any f labels) (λ i n. one (dominates s n) (m.cell n) i)
    where
      one : (d : Bool) (c : Cell) → (d && not (is_held (cond d c (held [])))) ≡ (d && not (is_held c))
      one true c = refl
      one false c = refl

  -- the sets of the labels that s dominates
  set-restrict : (n : ℕ) → T (dominates s n) → own_set n (restrict s m) ≡ own_set n m
  unfolding own_set restrict
  set-restrict n d = ap elements (cond_yes (dominates s n) (m.cell n) (held []) d)

  pub visible-restrict : visible s (restrict s m) ≡ visible s m
  visible-restrict = same-visible s (restrict s m) m set-restrict

  pub own-restrict : T (is_label s) → own_set s (restrict s m) ≡ own_set s m
  own-restrict t = set-restrict s (dominates-refl s t)

-- models that are alike in the partitions that s dominates are alike restricted
pub same-restrict : (s : ℕ) (a b : Model) → a.size ≡ b.size → ((n : ℕ) → T (dominates s n) → a.cell n ≡ b.cell n) → restrict s a ≡ restrict s b
unfolding restrict
same-restrict s a b e h = λ i. record { size = e i; cell = λ n. cond_same (dominates s n) (a.cell n) (b.cell n) (held []) (h n) i }

-- an element of the own label is live if the own set has it
pub live_own : (s : ℕ) (m : Model) (p : List Step) → T (ends_in s p) → live m p ≡ contains (own_set s m) p
unfolding live
live_own s m p t = go (last_step p) t
  where
    go : (a : Option Step) → T (bears s a) → live_by m p a ≡ contains (own_set s m) p
    go none h = absurd h
    go (some a) h = ap (λ (n : ℕ). contains (own_set n m) p) (eqb_yes h)

-- ---- the groups of rows that read a model

module _ (s : ℕ) (m : Model) (t : T (is_label s)) where
  pub same-own : own_set s m ≡ own_set s (restrict s m)
  same-own = sym (own-restrict s m t)

  same_seen : visible s m ≡ visible s (restrict s m)
  same_seen = sym (visible-restrict s m)

  pub same_view : (p : List Step) → in_view s m p ≡ in_view s (restrict s m) p
  unfolding in_view
  same_view p = ap (λ (v : List Element). reaches v p) same_seen

  pub same_live : (p : List Step) → T (ends_in s p) → live m p ≡ live (restrict s m) p
  same_live p h = live_own s m p h ∙ ap (λ (es : List Element). contains es p) same-own ∙ sym (live_own s (restrict s m) p h)

  pub same-own-live : (p : List Step) → refusal (own_live_rows s m p) ≡ refusal (own_live_rows s (restrict s m) p)
  same-own-live p = refusal-behind (row 6 _ ∷ []) _ _ (λ h. rw (same_live p (not-not (ends_in s p) h.0)))

  pub same_place : (p : List Step) → refusal (place_rows s m p) ≡ refusal (place_rows s (restrict s m) p)
  same_place p = refusal-behind (row 6 _ ∷ []) _ _ (λ h. rw (same_seen, same_live p (not-not (ends_in s p) h.0), same-own))
