-- A valid set stays valid when a path and its extensions are removed, and when an element is put in whose prefixes of the own
-- label are there.
use mathlib.Core.Path.{◌≡◌}
use mathlib.Core.Logic.{◌⊎◌, inl, inr}
use mathlib.Core.Bool.{Bool, not, ◌||◌}
use mathlib.Core.List.{List, [], ◌∷◌}
use Prim.Native.Nat.{ℕ, suc, ◌≤◌, ◌<◌}
use native.Mathlib.Omega.{arith}
use lib.ListN.{length}
use lib.Dec.{T}
use mir.Facts.{or_yes, T_not}
use Rattle.model.specs.Lists.{all, keep, ◌∈◌}
use Rattle.model.specs.Sets.{put}
use Rattle.model.specs.Path.{Step, same_path, is_prefix, prefixes, ends_in, key}
use Rattle.model.specs.Element.{Element, rank, valid_element, contains, closed, remove}
use Rattle.model.proofs.Bools.{or_l, or_r, decide, cond_yes, cond_no}
use Rattle.model.proofs.Members.{all_in, in_all, any-in, in-any, not-any, keep-in, in-keep}
use Rattle.model.proofs.Order.{ascending-sorted, sorted-ascending, sorted-keep, sorted-put, put_in, in-put, put-new, length-put, Fresh}
use Rattle.model.proofs.Paths.{same-eq, same_refl, prefix_trans, in-prefixes, prefixes-in, keys-injective, key-keyed}
use Rattle.model.proofs.Partitions.{ValidSet}

-- ---- a valid set, by its members

pub contains-in : (es : List Element) (q : List Step) → T (contains es q) → (e : Element) × (e ∈ es) × (q ≡ e.path)
unfolding contains
contains-in es q t = let r = any-in (λ e. same_path q e.path) es t in (r.0, r.1, same-eq q r.0.path r.2)

pub in-contains : (es : List Element) (e : Element) → e ∈ es → T (contains es e.path)
unfolding contains
in-contains es e m = in-any (λ d. same_path e.path d.path) es m (same_refl e.path)

-- a larger set has the paths that a set has
pub contains-more : (es ds : List Element) → ((e : Element) → e ∈ es → e ∈ ds) → (q : List Step) → T (contains es q) → T (contains ds q)
contains-more es ds more q t =
    let r : (e : Element) × (e ∈ es) × (q ≡ e.path) = contains-in es q t in
    rw r.2 (in-contains ds r.0 (more r.0 r.1))

-- the set has each prefix, of a member's path, that ends in n
abbrev pub Closed : ℕ → List Element → Type 0
Closed n es = (e : Element) → e ∈ es → (q : List Step) → T (is_prefix q e.path) → T (ends_in n q) → T (contains es q)

pub closed_facts : (n : ℕ) (es : List Element) → T (closed n es) → Closed n es
unfolding closed
closed_facts n es t e m [] b s = absurd s
closed_facts n es t e m (a ∷ q) b s =
    over (or_yes (not (ends_in n (a ∷ q))) (contains es (a ∷ q))
    (all_in (λ p. not (ends_in n p) || contains es p) (prefixes e.path)
    (all_in (λ d. all (λ p. not (ends_in n p) || contains es p) (prefixes d.path)) es t m)
    (prefixes-in a q e.path b)))
  where
    over : T (not (ends_in n (a ∷ q))) ⊎ T (contains es (a ∷ q)) → T (contains es (a ∷ q))
    over (inl k) = absurd (T_not (ends_in n (a ∷ q)) s k)
    over (inr k) = k

pub facts-closed : (n : ℕ) (es : List Element) → Closed n es → T (closed n es)
unfolding closed
facts-closed n es f =
    in_all (λ e. all (λ p. not (ends_in n p) || contains es p) (prefixes e.path)) es
    (λ e m. in_all (λ p. not (ends_in n p) || contains es p) (prefixes e.path)
    (λ q k. decide (ends_in n q)
    (λ (s : T (ends_in n q)). or_r (not (ends_in n q)) (contains es q) (f e m q (in-prefixes q e.path k) s))
    (λ (s : T (not (ends_in n q))). or_l (not (ends_in n q)) (contains es q) s)))

-- ---- removing

pub length-keep : {A : Type 0} (k : A → Bool) (l : List A) → length (keep k l) ≤ length l
length-keep k [] = omega arith
length-keep k (d ∷ l) =
    let r : length (keep k l) ≤ length l = length-keep k l in
    decide (k d)
    (λ (h : T (k d)). rw (cond_yes (k d) (d ∷ keep k l) (keep k l) h) (omega arith))
    (λ (h : T (not (k d))). rw (cond_no (k d) (d ∷ keep k l) (keep k l) h) (omega arith))

module _ (n : ℕ) (p : List Step) (es : List Element) where
  stays : Element → Bool
  stays e = not (is_prefix p e.path)

  -- a prefix of what stays stays
  remove-closes : Closed n es → Closed n (remove p es)
  unfolding remove stays
  remove-closes f e m q b s =
      let k : (e ∈ es) × T (not (is_prefix p e.path)) = keep-in stays es m in
      let r : (d : Element) × (d ∈ es) × (q ≡ d.path) = contains-in es q (f e k.0 q b s) in
      let d : Element = r.0 in
      rw r.2
      (in-contains (keep stays es) d
      (in-keep stays es r.1
      (decide (is_prefix p d.path)
      (λ (h : T (is_prefix p d.path)).
      absurd (T_not (is_prefix p e.path) (prefix_trans p d.path e.path h (rw r.2 at b)) k.1))
      (λ (h : T (not (is_prefix p d.path))). h))))

  pub remove-valid : ValidSet key n es → ValidSet key n (remove p es)
  unfolding remove stays
  remove-valid f =
      let h : length (keep stays es) ≤ length es = length-keep stays es in
      let g : length es ≤ 32 = f.few in
      record {
        few = omega arith;
        valid = in_all (valid_element n) (keep stays es) (λ x m. all_in (valid_element n) es f.valid (keep-in stays es m).0);
        ascends = sorted-ascending rank (keep stays es) (sorted-keep rank stays es (ascending-sorted rank es f.ascends));
        closes = facts-closed n (keep stays es) (remove-closes (closed_facts n es f.closes));
      }

-- ---- putting an element in

module _ (e : Element) (es : List Element) (lacks : T (not (contains es e.path))) where
  -- no member has its rank
  pub fresh : Fresh rank e es
  unfolding contains
  fresh d m q =
      T_not (same_path e.path d.path) (rw (keys-injective key key-keyed e.path d.path q) (same_refl d.path))
      (not-any (λ c. same_path e.path c.path) es lacks m)

  -- a path that was there stays
  contains-put : (q : List Step) → T (contains es q) → T (contains (put rank e es) q)
  contains-put q t = contains-more es (put rank e es) (λ d m. in-put rank e es m) q t

  pub put-valid : (n : ℕ) → ValidSet key n es → T (valid_element n e) → length es < 32
      → ((q : List Step) → T (is_prefix q e.path) → T (ends_in n q) → (q ≡ e.path) ⊎ T (contains es q))
      → ValidSet key n (put rank e es)
  put-valid n f v room near =
      let h : length (put rank e es) ≡ suc (length es) = length-put rank e es fresh in
      record {
        few = omega arith;
        valid = in_all (valid_element n) (put rank e es) (λ x m. good x (put_in rank e es m));
        ascends = sorted-ascending rank (put rank e es) (sorted-put rank e es (ascending-sorted rank es f.ascends));
        closes = facts-closed n (put rank e es) (λ x m q b s. shut x q (put_in rank e es m) b s);
      }
    where
      good : (x : Element) → (x ≡ e) ⊎ (x ∈ es) → T (valid_element n x)
      good x (inl h) = rw h v
      good x (inr h) = all_in (valid_element n) es f.valid h

      whole : (q : List Step) → (q ≡ e.path) ⊎ T (contains es q) → T (contains (put rank e es) q)
      whole q (inl h) = rw h (in-contains (put rank e es) e (put-new rank e es fresh))
      whole q (inr h) = contains-put q h

      shut : (x : Element) (q : List Step) → (x ≡ e) ⊎ (x ∈ es) → T (is_prefix q x.path) → T (ends_in n q) → T (contains (put rank e es) q)
      shut x q (inl h) b s = whole q (near q (rw h at b) s)
      shut x q (inr h) b s = contains-put q (closed_facts n es f.closes x h q b s)
