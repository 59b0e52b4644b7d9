-- A set whose elements have the paths of another's: what speaks of paths alone is the same of both, so with valid elements it is
-- valid too. A set with another content for one path is such a set.
use mathlib.Core.Path.{◌≡◌, refl, sym, ap, ap₂, ◌∙◌, subst}
use mathlib.Core.Logic.{◌⊎◌, inl, inr}
use mathlib.Core.Bool.{Bool, not, cond, ◌&&◌, ◌||◌}
use mathlib.Core.List.{List, [], ◌∷◌, ◌++◌, map}
use Prim.Native.Nat.{ℕ, ◌≤◌}
use native.Mathlib.Omega.{arith}
use lib.ListN.{length, length-map}
use lib.Dec.{T}
use Rattle.model.specs.Lists.{all, any, gather, ◌∈◌}
use Rattle.model.specs.Sets.{precedes, ascending}
use Rattle.model.specs.Path.{Step, same_path, prefixes, ends_in, key, keys}
use Rattle.model.specs.Value.{Content}
use Rattle.model.specs.Element.{Element, valid_element, contains, closed}
use Rattle.model.specs.Call.{replaced}
use Rattle.model.proofs.Bools.{decide, cond_yes, cond_no}
use Rattle.model.proofs.Members.{all_in, in_all, map-in, in_map}
use Rattle.model.proofs.Paths.{same-eq, same_refl}
use Rattle.model.proofs.Partitions.{ValidSet}
use Rattle.model.proofs.Sets.{contains-in}

-- ---- what speaks of paths alone

-- the paths of elements, in their order
abbrev pub paths_of : List Element → List (List Step)
paths_of es = map (λ e. e.path) es

pub any-paths : (f : List Step → Bool) (es : List Element) → any (λ e. f e.path) es ≡ any f (paths_of es)
any-paths f [] = refl
any-paths f (e ∷ es) = ap (λ (t : Bool). f e.path || t) (any-paths f es)

all-paths : (f : List Step → Bool) (es : List Element) → all (λ e. f e.path) es ≡ all f (paths_of es)
all-paths f [] = refl
all-paths f (e ∷ es) = ap (λ (t : Bool). f e.path && t) (all-paths f es)

ascending-paths : (r : List Step → List ℕ) (es : List Element) → ascending (λ e. r e.path) es ≡ ascending r (paths_of es)
ascending-paths r [] = refl
ascending-paths r (e ∷ []) = refl
ascending-paths r (e ∷ d ∷ es) = ap (λ (t : Bool). precedes (r e.path) (r d.path) && t) (ascending-paths r (d ∷ es))

pub gather-paths : {A : Type 0} (f : List Step → List A) (es : List Element) → gather (λ e. f e.path) es ≡ gather f (paths_of es)
gather-paths f [] = refl
gather-paths {A} f (e ∷ es) = ap (λ (l : List A). f e.path ++ l) (gather-paths f es)

pub contains-paths : (es : List Element) (p : List Step) → contains es p ≡ any (same_path p) (paths_of es)
unfolding contains
contains-paths es p = any-paths (same_path p) es

-- each prefix that ends in label n is one of the paths
abbrev closed_paths : ℕ → List (List Step) → Bool
closed_paths n ps = all (λ q. all (λ p. not (ends_in n p) || any (same_path p) ps) (prefixes q)) ps

closed-paths : (n : ℕ) (es : List Element) → closed n es ≡ closed_paths n (paths_of es)
unfolding closed
closed-paths n es =
    all-paths (λ q. all (λ p. not (ends_in n p) || contains es p) (prefixes q)) es
    ∙ (λ i. all (λ q. all (λ p. not (ends_in n p) || contains-paths es p i) (prefixes q)) (paths_of es))

-- so a set with the paths of a valid one, of elements that may stand there, is valid
pub paths-valid : (n : ℕ) (ds es : List Element) → paths_of ds ≡ paths_of es → T (all (valid_element n) ds) → ValidSet key n es → ValidSet key n ds
paths-valid n ds es h v f =
    let same : length ds ≡ length es = sym (length-map ds (λ e. e.path)) ∙ ap length h ∙ length-map es (λ e. e.path) in
    let most : length es ≤ 32 = f.few in
    record {
      few = omega arith;
      valid = v;
      ascends = subst T (sym (ascending-paths (keys key) ds ∙ ap (ascending (keys key)) h ∙ sym (ascending-paths (keys key) es))) f.ascends;
      closes = subst T (sym (closed-paths n ds ∙ ap (closed_paths n) h ∙ sym (closed-paths n es))) f.closes;
    }

-- ---- another content for a path

module _ (p : List Step) (c : Content) where
  -- the element with the content, and what an element becomes
  abbrev pub given : Element
  given = record { path = p; content = c }

  become : Element → Element
  become e = cond (same_path p e.path) given e

  become-here : (e : Element) → T (same_path p e.path) → become e ≡ given
  unfolding become
  become-here e t = cond_yes (same_path p e.path) given e t

  become-other : (e : Element) → T (not (same_path p e.path)) → become e ≡ e
  unfolding become
  become-other e t = cond_no (same_path p e.path) given e t

  become-path : (e : Element) → (become e).path ≡ e.path
  become-path e =
      decide (same_path p e.path)
      (λ (t : T (same_path p e.path)). ap (λ (d : Element). d.path) (become-here e t) ∙ same-eq p e.path t)
      (λ (t : T (not (same_path p e.path))). ap (λ (d : Element). d.path) (become-other e t))

  -- the paths stay
  pub replaced-paths : (es : List Element) → paths_of (replaced p c es) ≡ paths_of es
  unfolding replaced become
  replaced-paths [] = refl
  replaced-paths (e ∷ es) = ap₂ (λ (q : List Step) (ps : List (List Step)). q ∷ ps) (become-path e) (replaced-paths es)

  -- an element of another path stays
  pub replaced-others : (es : List Element) {e : Element} → T (not (same_path p e.path)) → e ∈ es → e ∈ replaced p c es
  unfolding replaced become
  replaced-others es {e} t m = subst (λ (d : Element). d ∈ map become es) (become-other e t) (in_map become es m)

  -- what is there is the element with the content, or it was there and has another path
  pub replaced-in : (es : List Element) {e : Element} → e ∈ replaced p c es → (e ≡ given) ⊎ (e ∈ es) × T (not (same_path p e.path))
  unfolding replaced become
  replaced-in es {e} m =
      let r : (d : Element) × (d ∈ es) × (e ≡ become d) = map-in become es m in
      let d : Element = r.0 in
      decide (same_path p d.path)
      (λ (t : T (same_path p d.path)). inl (r.2 ∙ become-here d t))
      (λ (t : T (not (same_path p d.path))).
      let q : e ≡ d = r.2 ∙ become-other d t in
      inr (rw q (r.1, t)))

  -- where the path was, the content is
  pub replaced-here : (es : List Element) → T (contains es p) → given ∈ replaced p c es
  unfolding replaced become
  replaced-here es t =
      let r : (d : Element) × (d ∈ es) × (p ≡ d.path) = contains-in es p t in
      let s : T (same_path p r.0.path) = rw (← r.2) (same_refl p) in
      subst (λ (d : Element). d ∈ map become es) (become-here r.0 s) (in_map become es r.1)

-- the set stays valid
pub replaced-valid : (n : ℕ) (p : List Step) (c : Content) (es : List Element) → T (valid_element n (given p c)) → ValidSet key n es
    → ValidSet key n (replaced p c es)
replaced-valid n p c es v f =
    paths-valid n (replaced p c es) es (replaced-paths p c es) (in_all (valid_element n) (replaced p c es) (λ e m. good e (replaced-in p c es m))) f
  where
    good : (e : Element) → (e ≡ given p c) ⊎ (e ∈ es) × T (not (same_path p e.path)) → T (valid_element n e)
    good e (inl h) = rw h v
    good e (inr h) = all_in (valid_element n) es f.valid h.0
