-- The lines of a view are those of its elements, each after the one before.
use mathlib.Core.Path.{◌≡◌, refl, sym, ap, ap₂, subst, ◌∙◌}
use mathlib.Core.Logic.{◌⊎◌, inl, inr}
use mathlib.Core.Bool.{not}
use mathlib.Core.Option.{Option, none, some}
use mathlib.Core.List.Memᴰ
use mathlib.Core.List.{List, [], ◌∷◌, ◌++◌}
use lib.ListN.{length}
use lib.Dec.{T}
use mir.Facts.{T_not, not_T}
use Rattle.model.specs.Lists.{gather, ◌∈◌}
use Rattle.model.specs.Path.{Step, same_path, parent, last_step}
use Rattle.model.specs.Value.{Content}
use Rattle.model.specs.Element.{Element, contains}
use Rattle.model.specs.Text.{decimal, line}
use Rattle.model.specs.View.{listed, content_at, content_fields, step_fields, path_line, below}
use Rattle.model.proofs.Bools.{decide, cond_yes, cond_no}
use Rattle.model.proofs.Members.{gather_append, gather_ext}
use Rattle.model.proofs.Paths.{same-eq, same_refl}
use Rattle.model.proofs.Sets.{contains-in}
use Rattle.model.proofs.Marks.{content-none}
use Rattle.listing.specs.Walk.{newer, walk, walk_of, walk_lines}
use Rattle.listing.proofs.Walks.{Distinct, Rest, rest-start, rest-next, new-only, walk-listed}

-- ---- the content at a path that no element has but e

module _ (x : List Step) (e : Element) where
  content-here : (v : List Element) → e ∈ v → T (same_path x e.path) → ((d : Element) → d ∈ v → x ≡ d.path → d ≡ e)
      → content_at v x ≡ some e.content
  content-here [] m t f = absurd (Memᴰ.not-nil m)
  content-here (c ∷ v) m t f =
      decide (same_path x c.path)
      (λ (h : T (same_path x c.path)).
      cond_yes (same_path x c.path) (some c.content) (content_at v x) h
      ∙ ap (λ (d : Element). some d.content) (f c (Memᴰ.head refl) (same-eq x c.path h)))
      (λ (h : T (not (same_path x c.path))).
      cond_no (same_path x c.path) (some c.content) (content_at v x) h
      ∙ go h (Memᴰ.cases_cons m) (λ k. content-here v k t (λ d i. f d (Memᴰ.tail i))))
    where
      go : T (not (same_path x c.path)) → (e ≡ c) ⊎ (e ∈ v) → (e ∈ v → content_at v x ≡ some e.content) → content_at v x ≡ some e.content
      go h (inl q) g = absurd (T_not (same_path x c.path) (subst (λ (d : Element). T (same_path x d.path)) q t) h)
      go h (inr k) g = g k

  content-one : (v : List Element) → e ∈ v → ((d : Element) → d ∈ v → x ≡ d.path → d ≡ e) → content_at v x ≡ content_at (e ∷ []) x
  content-one v m f =
      decide (same_path x e.path)
      (λ (t : T (same_path x e.path)). content-here v m t f ∙ sym (cond_yes (same_path x e.path) (some e.content) none t))
      (λ (t : T (not (same_path x e.path))).
      content-none v x (not_T (contains v x) (λ h. lacks t h)) ∙ sym (cond_no (same_path x e.path) (some e.content) none t))
    where
      lacks : T (not (same_path x e.path)) → T (contains v x) → ⊥
      lacks t h =
          let r : (d : Element) × (d ∈ v) × (x ≡ d.path) = contains-in v x h in
          let q : x ≡ e.path = r.2 ∙ ap (λ (d : Element). d.path) (f r.0 r.1 r.2) in
          T_not (same_path x e.path) (rw q (same_refl e.path)) t

-- ---- the lines of a walk

module _ {v : List Element} {p : List Step} where
  -- of what is left: whatever is given for a path by the content that stands there
  rest-shown : {A : Type 0} (g : List Element → List Step → List A)
      → ((x : List Step) (u w : List Element) → content_at u x ≡ content_at w x → g u x ≡ g w x)
      → (r : List Step) (es : List Element) → Rest v p r es → gather (g v) (walk r es) ≡ walk_of g r es
  rest-shown g by r [] f = refl
  rest-shown {A} g by r (e ∷ es) f =
      gather_append (g v) (newer r e.path) (walk e.path es)
      ∙ ap₂ (λ (a b : List A). a ++ b)
      (gather_ext (g v) (g (e ∷ [])) (newer r e.path)
      (λ x m. by x v (e ∷ []) (content-one x e v (f.inside e (Memᴰ.head refl)) (λ d k q. new-only f m d k q))))
      (rest-shown g by e.path es (rest-next f))

-- and so of the view at p
pub walk-shown : {A : Type 0} (g : List Element → List Step → List A)
    → ((x : List Step) (u w : List Element) → content_at u x ≡ content_at w x → g u x ≡ g w x)
    → (v : List Element) (p : List Step) → Distinct v → gather (g v) (listed v p) ≡ walk_of g (parent p) (below p v)
walk-shown g by v p d = ap (gather (g v)) (walk-listed v p d) ∙ rest-shown g by (parent p) (below p v) (rest-start p d)

-- the lines of the view at p
pub walk-printed : (v : List Element) (p : List Step) → Distinct v
    → gather (path_line v) (listed v p) ≡ walk_lines (parent p) (below p v)
unfolding path_line
walk-printed =
    walk-shown path_line (λ x u w e. ap (λ (c : Option Content). line (decimal (length x) ∷ (step_fields (last_step x) ++ content_fields c))) e)
