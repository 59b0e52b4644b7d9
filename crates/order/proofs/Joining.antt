-- The elements of some labels, from those of their two halves.
use mathlib.Core.Path.{◌≡◌, refl, sym, ap, ap₂, subst, ◌∙◌}
use mathlib.Core.Bool.{not, cond}
use mathlib.Core.List.Memᴰ
use mathlib.Core.List.{List, [], ◌∷◌, ◌++◌, map, append-nil}
use Prim.Native.Nat.{ℕ, zero, suc, ◌+◌, ◌-◌, ◌*◌, ◌≤◌, ◌<◌}
use native.Mathlib.Omega.{arith}
use borrow.Rule.Slice.PartMut.{put_mid, post_of, take_put}
use lib.ListN.{length, get_or, take, drop}
use lib.Seq.{length-take-le, take-append-le, drop_at}
use lib.Dec.{T}
use Rattle.model.specs.Lists.{all, gather, ◌∈◌}
use Rattle.model.specs.Sets.{sort, sorted}
use Rattle.model.specs.Label.{dominates}
use Rattle.model.specs.Path.{Step, is_prefix}
use Rattle.model.specs.Element.{Element, rank}
use Rattle.model.specs.Model.{open_model, own_set}
use Rattle.model.proofs.Bools.{decide, cond_yes, cond_no}
use Rattle.model.proofs.Members.{keep-in, gather-in, gather_append}
use Rattle.model.proofs.Order.{ascending-sorted, sorted-keep, sorted_sort, sort-in, sort_sorted, sort-join}
use Rattle.model.proofs.Keeps.{open-valid}
use Rattle.model.proofs.Marks.{own_same, own-one}
use Rattle.order.specs.Refs.{element_of, refers, Refers, seen_at, rising, ordered_of, Runs}
use Rattle.order.proofs.Labels.{rising-apart, halves}

module _ (s : ℕ) (b : List ℕ) (p : List Step) where
  seen-in : (n : ℕ) {e : Element} → e ∈ seen_at s b p n → e ∈ own_set n (open_model b)
  unfolding seen_at
  seen-in n {e} m = go (keep-in (λ d. is_prefix p d.path) (cond (dominates s n) (own_set n (open_model b)) []) m).0
    where
      go : e ∈ cond (dominates s n) (own_set n (open_model b)) [] → e ∈ own_set n (open_model b)
      go k =
          decide (dominates s n)
          (λ (t : T (dominates s n)). rw (cond_yes (dominates s n) (own_set n (open_model b)) [] t) at k)
          (λ (t : T (not (dominates s n))). absurd (Memᴰ.not-nil (rw (cond_no (dominates s n) (own_set n (open_model b)) [] t) at k)))

  seen-sorted : (n : ℕ) → T (sorted rank (seen_at s b p n))
  unfolding seen_at
  seen-sorted n = sorted-keep rank (λ d. is_prefix p d.path) (cond (dominates s n) (own_set n (open_model b)) []) go
    where
      go : T (sorted rank (cond (dominates s n) (own_set n (open_model b)) []))
      go =
          decide (dominates s n)
          (λ (t : T (dominates s n)).
          rw (cond_yes (dominates s n) (own_set n (open_model b)) [] t) (ascending-sorted rank (own_set n (open_model b)) (open-valid b n).ascends))
          (λ (t : T (not (dominates s n))). rw (cond_no (dominates s n) (own_set n (open_model b)) [] t) tt)

  -- no label has no elements
  pub no_label : (ls : List ℕ) → length ls ≡ 0 → (refs : List ℕ) → Refers s b (take 0 refs) (ordered_of s b p ls)
  unfolding ordered_of
  no_label [] e refs = record { valid = tt; named = refl }
  no_label (n ∷ ls) e refs = absurd (omega arith)

  -- one label's elements are in order
  one_label : (n : ℕ) → seen_at s b p n ≡ ordered_of s b p (n ∷ [])
  unfolding ordered_of
  one_label n = sym (ap (sort rank) (append-nil (seen_at s b p n)) ∙ sort_sorted rank (seen_at s b p n) (seen-sorted n))

  pub one-label-named : (ls : List ℕ) → length ls ≡ 1 → {rs : List ℕ} → Refers s b rs (seen_at s b p (get_or ls 0 0)) → Refers s b rs (ordered_of s b p ls)
  one-label-named [] e r = absurd (omega arith)
  one-label-named (n ∷ []) e r = record { valid = r.valid; named = r.named ∙ one_label n }
  one-label-named (n ∷ m ∷ ls) e r = absurd (omega arith)

  -- an ordered element stands in the set of one of the labels
  ordered-in : (ls : List ℕ) {e : Element} → e ∈ ordered_of s b p ls → (n : ℕ) × (n ∈ ls) × (e ∈ own_set n (open_model b))
  unfolding ordered_of
  ordered-in ls m =
      let g = gather-in (seen_at s b p) ls (sort-in rank (gather (seen_at s b p) ls) m) in
      (g.0, g.1, seen-in g.0 g.2)

  ordered-sorted : (ls : List ℕ) → T (sorted rank (ordered_of s b p ls))
  unfolding ordered_of
  ordered-sorted ls = sorted_sort rank (gather (seen_at s b p) ls)

  -- the elements of rising labels, parted in two, have no rank in common
  parts-apart : (xs ys : List ℕ) → T (rising (xs ++ ys)) → (d e : Element) → d ∈ ordered_of s b p xs → e ∈ ordered_of s b p ys → rank d ≡ rank e → ⊥
  parts-apart xs ys t d e g k q =
      let x = ordered-in xs g in
      let y = ordered-in ys k in
      let z : x.0 ≡ y.0 = own_same (open_model b) (open-valid b) x.0 y.0 x.2 y.2 q in
      let u : x.0 < y.0 = rising-apart xs ys t x.1 y.1 in
      omega arith

  -- and in order together they are those of all the labels
  parts_join : (xs ys : List ℕ) → sort rank (ordered_of s b p xs ++ ordered_of s b p ys) ≡ ordered_of s b p (xs ++ ys)
  unfolding ordered_of
  parts_join xs ys =
      let f : ℕ → List Element = seen_at s b p in
      let parts : gather f (xs ++ ys) ≡ gather f xs ++ gather f ys = gather_append f xs ys in
      sort-join rank (gather f xs) (gather f ys)
      (λ x y i j q. one x y (subst (λ (l : List Element). x ∈ l) (sym parts) i) (subst (λ (l : List Element). y ∈ l) (sym parts) j) q)
      ∙ ap (sort rank) (sym parts)
    where
      one : (x y : Element) → x ∈ gather (seen_at s b p) (xs ++ ys) → y ∈ gather (seen_at s b p) (xs ++ ys) → rank x ≡ rank y → x ≡ y
      one x y i j q =
          let g = gather-in (seen_at s b p) (xs ++ ys) i in
          let k = gather-in (seen_at s b p) (xs ++ ys) j in
          own-one (open_model b) (open-valid b) g.0 k.0 (seen-in g.0 g.2) (seen-in k.0 k.2) q

-- ---- the two halves laid one behind the other, the second lent from a on

-- so few references that they can be counted in bytes
pub few-refs : (h : ℕ) (ls : List ℕ) {a : ℕ} → a ≤ 32 * length (take (h - 0) ls) → length ls ≤ 32 → a ≤ 1024
few-refs h ls f l =
    let t : length (take (h - 0) ls) ≤ length ls = take-fewer (h - 0) ls in
    omega arith
  where
    take-fewer : (k : ℕ) (l : List ℕ) → length (take k l) ≤ length l
    take-fewer zero l = omega arith
    take-fewer (suc k) [] = omega arith
    take-fewer (suc k) (n ∷ l) = let r = take-fewer k l in omega arith

module _ {s : ℕ} {b : List ℕ} (p : List Step) (ls : List ℕ) (h : ℕ) (below : h ≤ length ls) (up : T (rising ls)) (x y : List ℕ) (a c : ℕ)
    (e : Refers s b (take a x) (ordered_of s b p (take (h - 0) ls))) (f : Refers s b (take c y) (ordered_of s b p (take (length ls - h) (drop h ls))))
    (g : a ≤ length x) (i : c ≤ length y) (k : ℕ) where
  first-half : take (a - 0) (put_mid a k x y) ≡ take a x
  first-half =
      let z : a - 0 ≡ a = omega arith in
      ap (λ (n : ℕ). take n (put_mid a k x y)) z ∙ take_put a k x y g

  second-half : take (a + c - a) (drop a (put_mid a k x y)) ≡ take c y
  second-half =
      let z : a + c - a ≡ c = omega arith in
      ap₂ (λ (n : ℕ) (l : List ℕ). take n l) z (drop_at (take a x) (y ++ post_of a k x) a (length-take-le a x g))
      ∙ take-append-le c y (post_of a k x) i

  parted : T (rising (take (h - 0) ls ++ take (length ls - h) (drop h ls)))
  parted = subst (λ (l : List ℕ). T (rising l)) (sym (halves h ls below)) up

  pub two_runs : Runs s b (take (a - 0) (put_mid a k x y)) (take (a + c - a) (drop a (put_mid a k x y)))
  two_runs =
      rw (first-half, second-half)
      (record {
        valid-x = e.valid;
        valid-y = f.valid;
        ascends-x = rw e.named (ordered-sorted s b p (take (h - 0) ls));
        ascends-y = rw f.named (ordered-sorted s b p (take (length ls - h) (drop h ls)));
        apart = λ d q m n.
            parts-apart s b p (take (h - 0) ls) (take (length ls - h) (drop h ls)) parted d q
            (subst (λ (l : List Element). d ∈ l) e.named m) (subst (λ (l : List Element). q ∈ l) f.named n);
      })

  pub runs-length : length (take (a - 0) (put_mid a k x y)) + length (take (a + c - a) (drop a (put_mid a k x y))) ≡ a + c
  runs-length = ap₂ (λ (u v : ℕ). u + v) (ap length first-half ∙ length-take-le a x g) (ap length second-half ∙ length-take-le c y i)

  pub runs-joined : (z : List ℕ)
      → Refers s b (take (length (take (a - 0) (put_mid a k x y)) + length (take (a + c - a) (drop a (put_mid a k x y)))) z)
      (sort rank (map (element_of b) (take (a - 0) (put_mid a k x y)) ++ map (element_of b) (take (a + c - a) (drop a (put_mid a k x y)))))
      → Refers s b (take (a + c) z) (ordered_of s b p ls)
  runs-joined z r =
      let q : take (length (take (a - 0) (put_mid a k x y)) + length (take (a + c - a) (drop a (put_mid a k x y)))) z ≡ take (a + c) z =
      ap (λ (n : ℕ). take n z) runs-length in
      record {
        valid = subst (λ (l : List ℕ). T (all (refers s b) l)) q r.valid;
        named =
            ap (map (element_of b)) (sym q)
            ∙ r.named
            ∙ ap₂ (λ (u v : List Element). sort rank (u ++ v)) (ap (map (element_of b)) first-half ∙ e.named) (ap (map (element_of b)) second-half ∙ f.named)
            ∙ parts_join s b p (take (h - 0) ls) (take (length ls - h) (drop h ls))
            ∙ ap (ordered_of s b p) (halves h ls below);
      }
