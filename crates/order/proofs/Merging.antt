-- Merging two ascending runs: what was taken, and then the rest in path order, is the whole in path order.
use mathlib.Core.Path.{◌≡◌, refl, sym, ap, ap₂, subst, ◌∙◌}
use mathlib.Core.Bool.{Bool, true, false}
use mathlib.Core.List.{List, [], ◌∷◌, ◌++◌, map, map-append, append_assoc}
use Prim.Native.Nat.{ℕ, zero, suc, ◌+◌, ◌≤◌, ◌<◌}
use native.Mathlib.Omega.{arith}
use lib.ListN.{length, get_or, take, drop, set, length-set, drop_of_length-le}
use lib.Seq.{drop-cons}
use native.Mathlib.Decide.{dec_le}
use lib.Dec.{T}
use Rattle.model.specs.Lists.{all}
use Rattle.model.specs.Sets.{sort, is_before, ahead, sorted}
use Rattle.model.specs.Element.{Element, rank}
use Rattle.model.proofs.Bools.{and_l, and_r, both}
use Rattle.model.proofs.Lists.{all_append, all_get_d}
use Rattle.model.proofs.Order.{ahead-trans, sort-first, sort-behind}
use Rattle.order.specs.Refs.{element_of, refers, Runs, Takes}

-- the first of a run comes before another run if it comes before that one's first
unfoldable leads : Element → List Element → Bool
leads x [] = true
leads x (y ∷ l) = is_before rank x y

leads-ahead : (x : Element) (l : List Element) → T (sorted rank l) → T (leads x l) → T (ahead rank x l)
unfolding leads
leads-ahead x [] s t = tt
leads-ahead x (y ∷ l) s t = both (is_before rank x y) (ahead rank x l) t (ahead-trans rank x y l t (and_l (ahead rank y l) (sorted rank l) s))

next-first : (x : Element) (l m : List Element) → T (sorted rank (x ∷ l)) → T (sorted rank m) → T (leads x m) → sort rank ((x ∷ l) ++ m) ≡ x ∷ sort rank (l ++ m)
next-first x l m s t h =
    sort-first rank x (l ++ m) (all_append (is_before rank x) l m (and_l (ahead rank x l) (sorted rank l) s) (leads-ahead x m t h))

next-second : (y : Element) (l m : List Element) → T (sorted rank l) → T (sorted rank (y ∷ m)) → T (leads y l) → sort rank (l ++ (y ∷ m)) ≡ y ∷ sort rank (l ++ m)
next-second y l m s t h = sort-behind rank y l m (leads-ahead y l s h) (and_l (ahead rank y m) (sorted rank m) t)

-- ---- the loop

sorted-left : (b xs : List ℕ) (i : ℕ) → T (sorted rank (map (element_of b) xs)) → T (sorted rank (map (element_of b) (drop i xs)))
sorted-left b xs zero t = t
sorted-left b [] (suc i) t = tt
sorted-left b (x ∷ xs) (suc i) t =
    sorted-left b xs i (and_r (ahead rank (element_of b x) (map (element_of b) xs)) (sorted rank (map (element_of b) xs)) t)

take-set : (l : List ℕ) (k a : ℕ) → k < length l → take (suc k) (set l k a) ≡ take k l ++ (a ∷ [])
take-set [] k a h = absurd (omega arith)
take-set (x ∷ l) zero a h = refl
take-set (x ∷ l) (suc k) a h = ap (λ (r : List ℕ). x ∷ r) (take-set l k a (omega arith))

pub record Merging (s : ℕ) (b xs ys refs₀ : List ℕ) (n : ℕ) (refs : List ℕ) (i j : ℕ) : Type 0 where
  pub total : n ≡ length xs + length ys
  pub size : length refs ≡ length refs₀
  pub fits : n ≤ length refs₀
  pub first : i ≤ length xs
  pub second : j ≤ length ys
  pub valid : T (all (refers s b) (take (i + j) refs))
  pub same : map (element_of b) (take (i + j) refs) ++ sort rank (map (element_of b) (drop i xs) ++ map (element_of b) (drop j ys))
      ≡ sort rank (map (element_of b) xs ++ map (element_of b) ys)

module _ {s : ℕ} {b xs ys : List ℕ} (u : Runs s b xs ys) {refs₀ refs : List ℕ} {n i j : ℕ} (inv : Merging s b xs ys refs₀ n refs i j) where
  merge-room : i + j < n → i + j < length refs
  merge-room h = omega (arith, inv.size, inv.fits)

  -- a reference is written behind those taken
  module _ (h : i + j < n) (r : ℕ) (t : T (refers s b r)) where
    grown : take (suc (i + j)) (set refs (i + j) r) ≡ take (i + j) refs ++ (r ∷ [])
    grown = take-set refs (i + j) r (merge-room h)

    grown-valid : T (all (refers s b) (take (suc (i + j)) (set refs (i + j) r)))
    grown-valid = rw grown (all_append (refers s b) (take (i + j) refs) (r ∷ []) inv.valid (both (refers s b r) true t tt))

    grown-named : (rest : List Element)
        → map (element_of b) (take (i + j) refs) ++ (element_of b r ∷ rest) ≡ map (element_of b) (take (suc (i + j)) (set refs (i + j) r)) ++ rest
    grown-named rest =
        sym (ap (λ (l : List Element). l ++ rest) (ap (map (element_of b)) grown ∙ map-append (element_of b) (take (i + j) refs) (r ∷ []))
        ∙ append_assoc (map (element_of b) (take (i + j) refs)) (element_of b r ∷ []) rest)

  module _ {t : Bool} (k : Takes b xs i ys j t) (h : i + j < n) where
    first-there : t ≡ true → i < length xs
    first-there e = (k.first e).0

    second-there : t ≡ false → j < length ys
    second-there e = (k.second e).0

    -- a run that has ended hinders nothing
    at-end : (x : Element) (zs : List ℕ) (m : ℕ) → length zs ≤ m → T (leads x (map (element_of b) (drop m zs)))
    unfolding leads
    at-end x zs m q = rw (drop_of_length-le zs q) tt

    leads-first : t ≡ true → T (leads (element_of b (get_or xs i 0)) (map (element_of b) (drop j ys)))
    unfolding leads
    leads-first e = elim (dec_le (suc j) (length ys)) [
      | yes m ↦ rw (drop-cons ys j 0 m) ((k.first e).1 m)
      | no m ↦ at-end (element_of b (get_or xs i 0)) ys j (omega arith)
    ]

    leads-second : t ≡ false → T (leads (element_of b (get_or ys j 0)) (map (element_of b) (drop i xs)))
    unfolding leads
    leads-second e = elim (dec_le (suc i) (length xs)) [
      | yes m ↦ rw (drop-cons xs i 0 m) ((k.second e).1 m)
      | no m ↦ at-end (element_of b (get_or ys j 0)) xs i (omega arith)
    ]

    pub merge-first : t ≡ true → Merging s b xs ys refs₀ n (set refs (i + j) (get_or xs i 0)) (i + 1) j
    merge-first e =
        let x : ℕ = get_or xs i 0 in
        let m : i < length xs = first-there e in
        let w : i + 1 ≡ suc i = omega arith in
        let z : i + 1 + j ≡ suc (i + j) = omega arith in
        let d : drop i xs ≡ x ∷ drop (suc i) xs = drop-cons xs i 0 m in
        let v : T (refers s b x) = all_get_d (refers s b) xs i 0 m u.valid-x in
        record {
          total = inv.total;
          size = length-set refs (i + j) x ∙ inv.size;
          fits = inv.fits;
          first = omega arith;
          second = inv.second;
          valid = rw z (grown-valid h x v);
          same =
              ap₂ (λ (q r : ℕ). map (element_of b) (take q (set refs (i + j) x)) ++ sort rank (map (element_of b) (drop r xs) ++ map (element_of b) (drop j ys))) z w
              ∙ sym (grown-named h x v (sort rank (map (element_of b) (drop (suc i) xs) ++ map (element_of b) (drop j ys))))
              ∙ ap (λ (l : List Element). map (element_of b) (take (i + j) refs) ++ l)
              (sym
              (ap (λ (l : List ℕ). sort rank (map (element_of b) l ++ map (element_of b) (drop j ys))) d
              ∙ next-first (element_of b x) (map (element_of b) (drop (suc i) xs)) (map (element_of b) (drop j ys))
              (subst (λ (l : List ℕ). T (sorted rank (map (element_of b) l))) d (sorted-left b xs i u.ascends-x))
              (sorted-left b ys j u.ascends-y) (leads-first e)))
              ∙ inv.same;
        }

    pub merge-second : t ≡ false → Merging s b xs ys refs₀ n (set refs (i + j) (get_or ys j 0)) i (j + 1)
    merge-second e =
        let y : ℕ = get_or ys j 0 in
        let m : j < length ys = second-there e in
        let w : j + 1 ≡ suc j = omega arith in
        let z : i + (j + 1) ≡ suc (i + j) = omega arith in
        let d : drop j ys ≡ y ∷ drop (suc j) ys = drop-cons ys j 0 m in
        let v : T (refers s b y) = all_get_d (refers s b) ys j 0 m u.valid-y in
        record {
          total = inv.total;
          size = length-set refs (i + j) y ∙ inv.size;
          fits = inv.fits;
          first = inv.first;
          second = omega arith;
          valid = rw z (grown-valid h y v);
          same =
              ap₂ (λ (q r : ℕ). map (element_of b) (take q (set refs (i + j) y)) ++ sort rank (map (element_of b) (drop i xs) ++ map (element_of b) (drop r ys))) z w
              ∙ sym (grown-named h y v (sort rank (map (element_of b) (drop i xs) ++ map (element_of b) (drop (suc j) ys))))
              ∙ ap (λ (l : List Element). map (element_of b) (take (i + j) refs) ++ l)
              (sym
              (ap (λ (l : List ℕ). sort rank (map (element_of b) (drop i xs) ++ map (element_of b) l)) d
              ∙ next-second (element_of b y) (map (element_of b) (drop i xs)) (map (element_of b) (drop (suc j) ys))
              (sorted-left b xs i u.ascends-x)
              (subst (λ (l : List ℕ). T (sorted rank (map (element_of b) l))) d (sorted-left b ys j u.ascends-y)) (leads-second e)))
              ∙ inv.same;
        }
