-- A set that a subject does not dominate may be another one: his calls come to the same. So an element that he does not see is to him
-- as a missing one.
use mathlib.Core.Path.{◌≡◌, refl, sym, ap, subst, ◌∙◌}
use mathlib.Core.Bool.{not}
use mathlib.Core.Option.{Option, none, some}
use mathlib.Core.List.{List}
use Prim.Native.Nat.{ℕ}
use lib.Dec.{T, eqb}
use mir.Facts.{not_T, T_not, eqb_yes}
use Rattle.model.specs.Label.{dominates}
use Rattle.model.specs.Path.{Step}
use Rattle.model.specs.Value.{Content}
use Rattle.model.specs.Element.{Element, remove}
use Rattle.model.specs.Model.{held, Model, own_set, with_set}
use Rattle.model.specs.View.{visible}
use Rattle.model.specs.Call.{Call, call_subject, added, outcome, after}
use Rattle.model.proofs.Bools.{cond_no}
use Rattle.model.proofs.Restriction.{restrict, visible-restrict, same-restrict}
use Rattle.model.proofs.Operations.{outcome-restrict}

-- restricted to a subject, a model does not show the set of a label that he does not dominate
hidden-restrict : (s : ℕ) (m : Model) (l : ℕ) → T (not (dominates s l)) → (es : List Element) → restrict s (with_set l (some es) m) ≡ restrict s m
hidden-restrict s m l hidden es =
    same-restrict s (with_set l (some es) m) m refl
    (λ n d. cond_no (eqb n l) (held es) (m.cell n) (not_T (eqb n l) (λ t. T_not (dominates s l) (subst (λ (k : ℕ). T (dominates s k)) (eqb_yes t) d) hidden)))

-- so he does not see what another's call does, whom he does not dominate
pub unseen-call : (s : ℕ) (c : Call) (m : Model) → T (not (dominates s (call_subject c))) → visible s (after c m) ≡ visible s m
unfolding after
unseen-call s c m hidden = go (outcome c m).change
  where
    go : (change : Option (List Element)) → visible s (with_set (call_subject c) change m) ≡ visible s m
    go none = refl
    go (some es) =
        sym (visible-restrict s (with_set (call_subject c) (some es) m))
        ∙ ap (visible s) (hidden-restrict s m (call_subject c) hidden es)
        ∙ visible-restrict s m

-- the outcome of each call is the same
pub hidden-set : (c : Call) (m : Model) (l : ℕ) → T (not (dominates (call_subject c) l)) → (es : List Element)
    → outcome c (with_set l (some es) m) ≡ outcome c m
hidden-set c m l hidden es =
    outcome-restrict c (with_set l (some es) m)
    ∙ ap (outcome c) (hidden-restrict (call_subject c) m l hidden es)
    ∙ sym (outcome-restrict c m)

-- ---- an element that is not seen

-- the model with an element of label l at the path
abbrev pub present : ℕ → List Step → Content → Model → Model
present l p c m = with_set l (some (added p c (own_set l m))) m

-- the model in which it is missing, with what is below it of the label
abbrev pub missing : ℕ → List Step → Model → Model
missing l p m = with_set l (some (remove p (own_set l m))) m

pub unseen-missing : (k : Call) (m : Model) (l : ℕ) → T (not (dominates (call_subject k) l)) → (p : List Step) (c : Content)
    → outcome k (present l p c m) ≡ outcome k (missing l p m)
unseen-missing k m l hidden p c =
    hidden-set k m l hidden (added p c (own_set l m)) ∙ sym (hidden-set k m l hidden (remove p (own_set l m)))
