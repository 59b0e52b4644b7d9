-- A set cut where a path stands: an element put in goes there, what is removed stands there without a gap, and the element there is
-- the one that gets another content.
use mathlib.Core.Path.{◌≡◌, refl, sym, ap, ap₂, ◌∙◌}
use mathlib.Core.Logic.{◌⊎◌, inl, inr}
use mathlib.Core.Bool.{Bool, true, false, not, cond, ◌||◌}
use mathlib.Core.List.Memᴰ
use mathlib.Core.List.{List, [], ◌∷◌, ◌++◌}
use Prim.Native.Nat.{ℕ, suc, ◌+◌, ◌≤◌, ◌<◌}
use native.Mathlib.Omega.{arith}
use lib.ListN.{length, take, drop}
use lib.Seq.{length-take-le, drop-drop}
use lib.Dec.{T}
use mir.Facts.{or_no, not_T, T_not}
use Rattle.model.specs.Lists.{any, keep, ◌∈◌}
use Rattle.model.specs.Sets.{put, sorted, ahead}
use Rattle.model.specs.Path.{Step, same_path, is_prefix, key, path_rank}
use Rattle.model.specs.Value.{Content}
use Rattle.model.specs.Element.{Element, rank, contains, remove}
use Rattle.model.specs.Call.{extending, replaced}
use Rattle.model.proofs.Bools.{and_l, and_r, decide, cond_yes, cond_no, is_true, is_false}
use Rattle.model.proofs.Members.{all_in}
use Rattle.model.proofs.Order.{precedes-irrefl, precedes-trans, precedes-asym}
use Rattle.model.proofs.Sets.{contains-in}
use Rattle.model.proofs.Paths.{same-eq, same_refl, prefix-first, between-extends, order-total, key-keyed}
use Rattle.path.specs.Common.{is_before}
use Rattle.partition.specs.Place.{place_of, replaced_at}

-- ---- the place

-- a count of elements at the front, with one more or ended, is at most their number
count-within : (t : Bool) (n m : ℕ) → n ≤ m → cond t (suc n) 0 ≤ suc m
count-within true n m h = omega arith
count-within false n m h = omega arith

-- a path's place is at most the number of elements
pub place-within : (p : List Step) (es : List Element) → place_of p es ≤ length es
place-within p [] = omega arith
place-within p (e ∷ es) = count-within (is_before e.path p) (place_of p es) (length es) (place-within p es)

-- an extension of a path does not come before it
extends-after : (p q : List Step) → T (is_prefix p q) → T (not (is_before q p))
extends-after p q t =
    decide (same_path p q)
    (λ (s : T (same_path p q)). rw (same-eq p q s) (not_T (is_before q q) (precedes-irrefl (path_rank q))))
    (λ (s : T (not (same_path p q))).
    precedes-asym (path_rank p) (path_rank q) (prefix-first key key-keyed p q t (λ e. T_not (same_path p q) (rw e (same_refl q)) s)))

-- ---- putting in

-- an element whose path no other has goes to its path's place
pub put-place : (e : Element) (es : List Element) → T (not (contains es e.path))
    → put rank e es ≡ take (place_of e.path es) es ++ (e ∷ drop (place_of e.path es) es)
unfolding contains
put-place e [] t = refl
put-place e (y ∷ es) t =
    let n = or_no (same_path e.path y.path) (any (λ d. same_path e.path d.path) es) t in
    decide (is_before y.path e.path)
    (λ (b : T (is_before y.path e.path)).
    rw (is_true (is_before y.path e.path) b) (ap (λ (l : List Element). y ∷ l) (put-place e es n.1)))
    (λ (b : T (not (is_before y.path e.path))).
    let f : T (is_before e.path y.path) =
    decide (is_before e.path y.path) (λ (k : T (is_before e.path y.path)). k)
    (λ (k : T (not (is_before e.path y.path))).
    absurd (T_not (same_path e.path y.path) (rw (order-total key key-keyed e.path y.path k b) (same_refl y.path)) n.0)) in
    rw (is_false (is_before y.path e.path) b, is_true (is_before e.path y.path) f))

-- where the first does not come before a path, none does
none_before : (p : List Step) (e : Element) (es : List Element) → T (sorted rank (e ∷ es)) → T (not (is_before e.path p))
    → (d : Element) → d ∈ e ∷ es → T (not (is_before d.path p))
none_before p e es s b d m = go (Memᴰ.cases_cons m)
  where
    go : (d ≡ e) ⊎ (d ∈ es) → T (not (is_before d.path p))
    go (inl h) = rw h b
    go (inr h) =
        not_T (is_before d.path p)
        (λ u. T_not (is_before e.path p)
        (precedes-trans (path_rank e.path) (path_rank d.path) (path_rank p)
        (all_in (λ x. is_before e.path x.path) es (and_l (ahead rank e es) (sorted rank es) s) h) u) b)

-- ---- removing

-- how many elements at the front have the path or extend it
abbrev pub leading : List Step → List Element → ℕ
leading p [] = 0
leading p (e ∷ es) = cond (is_prefix p e.path) (suc (leading p es)) 0

-- they are at most all
pub leading-within : (p : List Step) (es : List Element) → leading p es ≤ length es
leading-within p [] = omega arith
leading-within p (e ∷ es) = count-within (is_prefix p e.path) (leading p es) (length es) (leading-within p es)

module _ (p : List Step) where
  -- the elements that have the path or extend it
  abbrev at_path : List Element → List Element
  at_path es = keep (λ e. is_prefix p e.path) es

  none-extends : (es : List Element) → ((d : Element) → d ∈ es → T (not (is_prefix p d.path))) → (at_path es ≡ []) × (remove p es ≡ es)
  unfolding remove
  none-extends [] f = (refl, refl)
  none-extends (e ∷ es) f =
      let r : (at_path es ≡ []) × (remove p es ≡ es) = none-extends es (λ d m. f d (Memᴰ.tail m)) in
      rw (is_false (is_prefix p e.path) (f e (Memᴰ.head refl))) (r.0, ap (λ (l : List Element). e ∷ l) r.1)

  -- elements that do not come before the path: its extensions stand first
  extends-first : (es : List Element) → T (sorted rank es) → ((d : Element) → d ∈ es → T (not (is_before d.path p)))
      → (at_path es ≡ take (leading p es) es) × (remove p es ≡ drop (leading p es) es)
  unfolding remove
  extends-first [] s f = (refl, refl)
  extends-first (e ∷ es) s f =
      decide (is_prefix p e.path)
      (λ (h : T (is_prefix p e.path)).
      let r : (at_path es ≡ take (leading p es) es) × (remove p es ≡ drop (leading p es) es) =
      extends-first es (and_r (ahead rank e es) (sorted rank es) s) (λ d m. f d (Memᴰ.tail m)) in
      rw (is_true (is_prefix p e.path) h) (ap (λ (l : List Element). e ∷ l) r.0, r.1))
      (λ (h : T (not (is_prefix p e.path))).
      let r : (at_path es ≡ []) × (remove p es ≡ es) = none-extends es (later h) in
      rw (is_false (is_prefix p e.path) h) (r.0, ap (λ (l : List Element). e ∷ l) r.1))
    where
      -- what stands behind e, which does not extend p, does not either
      later : T (not (is_prefix p e.path)) → (d : Element) → d ∈ es → T (not (is_prefix p d.path))
      later h d m =
          not_T (is_prefix p d.path)
          (λ k. T_not (is_prefix p e.path)
          (between-extends key key-keyed p e.path d.path k (f e (Memᴰ.head refl))
          (precedes-asym (path_rank e.path) (path_rank d.path) (all_in (λ x. is_before e.path x.path) es (and_l (ahead rank e es) (sorted rank es) s) m))) h)

  -- what stands from the path's place on has all that extends the path, and none of it comes before the path
  record Behind (es : List Element) : Type 0 where
    kept : at_path es ≡ at_path (drop (place_of p es) es)
    left : remove p es ≡ take (place_of p es) es ++ remove p (drop (place_of p es) es)
    order : T (sorted rank (drop (place_of p es) es))
    after : (d : Element) → d ∈ drop (place_of p es) es → T (not (is_before d.path p))

  behind : (es : List Element) → T (sorted rank es) → Behind es
  unfolding remove
  behind [] s = record { kept = refl; left = refl; order = tt; after = λ d m. absurd (Memᴰ.not-nil m) }
  behind (e ∷ es) s =
      decide (is_before e.path p)
      (λ (b : T (is_before e.path p)).
      let y : is_before e.path p ≡ true = is_true (is_before e.path p) b in
      let h : is_prefix p e.path ≡ false =
      is_false (is_prefix p e.path) (not_T (is_prefix p e.path) (λ k. T_not (is_before e.path p) b (extends-after p e.path k))) in
      let r : Behind es = behind es (and_r (ahead rank e es) (sorted rank es) s) in
      record { kept = rw (y, h) r.kept; left = rw (y, h) (ap (λ (l : List Element). e ∷ l) r.left); order = rw y r.order; after = rw y r.after })
      (λ (b : T (not (is_before e.path p))).
      let n : is_before e.path p ≡ false = is_false (is_before e.path p) b in
      record { kept = rw n; left = rw n; order = rw n s; after = rw n (none_before p e es s b) })

  -- what stands from the path's place on does not come before it
  pub place_after : (es : List Element) → T (sorted rank es) → (d : Element) → d ∈ drop (place_of p es) es → T (not (is_before d.path p))
  place_after es s = (behind es s).after

  -- so in a whole set the extensions stand together at the path's place
  module _ (es : List Element) (s : T (sorted rank es)) where
    together : (at_path (drop (place_of p es) es) ≡ take (leading p (drop (place_of p es) es)) (drop (place_of p es) es))
        × (remove p (drop (place_of p es) es) ≡ drop (leading p (drop (place_of p es) es)) (drop (place_of p es) es))
    together = extends-first (drop (place_of p es) es) (behind es s).order (behind es s).after

    -- as many as lead there
    pub count-place : extending p es ≡ leading p (drop (place_of p es) es)
    unfolding extending
    count-place =
        ap length ((behind es s).kept ∙ together.0)
        ∙ length-take-le (leading p (drop (place_of p es) es)) (drop (place_of p es) es) (leading-within p (drop (place_of p es) es))

    -- the elements that are kept
    pub keep-place : at_path es ≡ take (extending p es) (drop (place_of p es) es)
    keep-place = (behind es s).kept ∙ together.0 ∙ ap (λ (n : ℕ). take n (drop (place_of p es) es)) (sym count-place)

    -- the elements that are left
    pub remove-place : remove p es ≡ take (place_of p es) es ++ drop (place_of p es + extending p es) es
    remove-place =
        (behind es s).left
        ∙ ap (λ (l : List Element). take (place_of p es) es ++ l)
        (together.1 ∙ ap (λ (n : ℕ). drop n (drop (place_of p es) es)) (sym count-place) ∙ drop-drop (extending p es) (place_of p es) es)

-- ---- finding

module _ (p : List Step) (e : Element) (es : List Element) where
  -- a path that comes after an element is not the element's
  pub after-other : T (is_before e.path p) → T (not (same_path p e.path))
  after-other b = not_T (same_path p e.path) (λ t. precedes-irrefl (path_rank p) (rw (← (same-eq p e.path t)) at b))

  -- what stands behind an element that does not come before the path does not have the path
  behind-lacks : T (sorted rank (e ∷ es)) → T (not (is_before e.path p)) → T (not (contains es p))
  behind-lacks s b =
      not_T (contains es p)
      (λ u. let r : (d : Element) × (d ∈ es) × (p ≡ d.path) = contains-in es p u in
      T_not (is_before e.path p)
      (rw r.2 (all_in (λ x. is_before e.path x.path) es (and_l (ahead rank e es) (sorted rank es) s) r.1)) b)

  -- the rest has the path where the whole has it
  pub contains-after : T (is_before e.path p) → contains (e ∷ es) p ≡ contains es p
  unfolding contains
  contains-after b = rw (is_false (same_path p e.path) (after-other b))

  -- the first that does not come before the path is its element, or there is none
  pub contains-here : T (sorted rank (e ∷ es)) → T (not (is_before e.path p)) → contains (e ∷ es) p ≡ same_path p e.path
  unfolding contains
  contains-here s b = ap (λ (t : Bool). same_path p e.path || t) (is_false (contains es p) (behind-lacks s b)) ∙ or-false (same_path p e.path)
    where
      or-false : (t : Bool) → t || false ≡ t
      or-false true = refl
      or-false false = refl

-- ---- giving another content

-- where no element has the path, none gets it
replaced-none : (p : List Step) (c : Content) (es : List Element) → T (not (contains es p)) → replaced p c es ≡ es
unfolding contains replaced
replaced-none p c [] t = refl
replaced-none p c (e ∷ es) t =
    let n = or_no (same_path p e.path) (any (λ d. same_path p d.path) es) t in
    ap₂ (λ (d : Element) (l : List Element). d ∷ l)
    (cond_no (same_path p e.path) (record { path = p; content = c }) e n.0) (replaced-none p c es n.1)

-- an element that has the path stands at its place, and is the one that gets a content
pub record Stands (p : List Step) (es : List Element) : Type 0 where
  pub within : place_of p es < length es
  pub is : (c : Content) → replaced_at (place_of p es) c es ≡ replaced p c es

pub stands : (p : List Step) (es : List Element) → T (sorted rank es) → T (contains es p) → Stands p es
unfolding replaced
stands p [] s t = absurd (Memᴰ.not-nil (contains-in [] p t).1)
stands p (e ∷ es) s t =
    decide (is_before e.path p)
    (λ (b : T (is_before e.path p)).
    let y : is_before e.path p ≡ true = is_true (is_before e.path p) b in
    let q : T (not (same_path p e.path)) = after-other p e es b in
    let r : Stands p es = stands p es (and_r (ahead rank e es) (sorted rank es) s) (rw (contains-after p e es b) at t) in
    let w : place_of p es < length es = r.within in
    record {
      within = rw y (omega arith);
      is = λ c. rw y (ap₂ (λ (d : Element) (l : List Element). d ∷ l) (sym (cond_no (same_path p e.path) (record { path = p; content = c }) e q)) (r.is c));
    })
    (λ (b : T (not (is_before e.path p))).
    let n : is_before e.path p ≡ false = is_false (is_before e.path p) b in
    let q : T (same_path p e.path) = rw (contains-here p e es s b) at t in
    let z : p ≡ e.path = same-eq p e.path q in
    record {
      within = rw n (omega arith);
      is = λ c.
          rw n
          (ap₂ (λ (d : Element) (l : List Element). d ∷ l)
          (ap (λ (x : List Step). record { path = x; content = c }) (sym z) ∙ sym (cond_yes (same_path p e.path) (record { path = p; content = c }) e q))
          (sym (replaced-none p c es (behind-lacks p e es s b))));
    })
