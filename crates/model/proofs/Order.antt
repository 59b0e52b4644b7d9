-- Ranks and ascending lists: the order of ranks is a strict total order; a set stays ascending as members come and go, and an
-- ascending list is determined by its members.
use mathlib.Core.Path.{◌≡◌, refl, sym, ap, ap₂, ◌∙◌, subst}
use mathlib.Core.Logic.{◌⊎◌, inl, inr}
use mathlib.Core.Bool.{Bool, false, not, cond, ◌&&◌, ◌||◌}
use mathlib.Core.List.Memᴰ
use mathlib.Core.List.{List, [], ◌∷◌, ◌++◌}
use Prim.Native.Nat.{ℕ, zero, suc, ◌≤◌, ◌<◌}
use native.Mathlib.Omega.{arith}
use lib.ListN.{length, drop}
use lib.Dec.{T, eqb, ltb, eqb_refl}
use mir.Facts.{not_T, no_ltb, or_yes, or_no, eqb_yes, yes_eqb, ltb_yes, ltb_no, yes_ltb}
use Rattle.model.specs.Lists.{keep, ◌∈◌}
use Rattle.model.specs.Sets.{precedes, is_before, ahead, sorted, ascending, put, sort}
use Rattle.model.proofs.Bools.{and_l, and_r, both, not-second, or_l, or_r, decide, cond_yes, cond_no, is_true, is_false}
use Rattle.model.proofs.Members.{in-front, in-back, all_in, in_all, keep-in}

pub precedes-trans : (x y z : List ℕ) → T (precedes x y) → T (precedes y z) → T (precedes x z)
precedes-trans [] [] z s t = absurd s
precedes-trans [] (b ∷ y) [] s t = absurd t
precedes-trans [] (b ∷ y) (c ∷ z) s t = tt
precedes-trans (a ∷ x) [] z s t = absurd s
precedes-trans (a ∷ x) (b ∷ y) [] s t = absurd t
precedes-trans (a ∷ x) (b ∷ y) (c ∷ z) s t =
    go (or_yes (ltb a b) (eqb a b && precedes x y) s) (or_yes (ltb b c) (eqb b c && precedes y z) t) (λ h k. precedes-trans x y z h k)
  where
    less : a < c → T (precedes (a ∷ x) (c ∷ z))
    less h = or_l (ltb a c) (eqb a c && precedes x z) (yes_ltb h)

    go : T (ltb a b) ⊎ T (eqb a b && precedes x y) → T (ltb b c) ⊎ T (eqb b c && precedes y z)
        → (T (precedes x y) → T (precedes y z) → T (precedes x z)) → T (precedes (a ∷ x) (c ∷ z))
    go (inl h) (inl k) f = let h' : a < b = ltb_yes h in let k' : b < c = ltb_yes k in less (omega arith)
    go (inl h) (inr k) f = let h' : a < b = ltb_yes h in let k' : b ≡ c = eqb_yes (and_l (eqb b c) (precedes y z) k) in less (omega arith)
    go (inr h) (inl k) f = let h' : a ≡ b = eqb_yes (and_l (eqb a b) (precedes x y) h) in let k' : b < c = ltb_yes k in less (omega arith)
    go (inr h) (inr k) f =
        let h' : a ≡ b = eqb_yes (and_l (eqb a b) (precedes x y) h) in
        let k' : b ≡ c = eqb_yes (and_l (eqb b c) (precedes y z) k) in
        or_r (ltb a c) (eqb a c && precedes x z)
        (both (eqb a c) (precedes x z) (yes_eqb (h' ∙ k')) (f (and_r (eqb a b) (precedes x y) h) (and_r (eqb b c) (precedes y z) k)))

pub precedes-total : (x y : List ℕ) → T (not (precedes x y)) → T (not (precedes y x)) → x ≡ y
precedes-total [] [] s t = refl
precedes-total [] (b ∷ y) s t = absurd s
precedes-total (a ∷ x) [] s t = absurd t
precedes-total (a ∷ x) (b ∷ y) s t =
    let s' = or_no (ltb a b) (eqb a b && precedes x y) s in
    let t' = or_no (ltb b a) (eqb b a && precedes y x) t in
    let u : b ≤ a = ltb_no s'.0 in
    let v : a ≤ b = ltb_no t'.0 in
    let e : a ≡ b = omega arith in
    let f : b ≡ a = omega arith in
    ap₂ (λ (c : ℕ) (z : List ℕ). c ∷ z) e (precedes-total x y (not-second (eqb a b) (precedes x y) (yes_eqb e) s'.1) (not-second (eqb b a) (precedes y x) (yes_eqb f) t'.1))

pub precedes-irrefl : (x : List ℕ) → T (precedes x x) → ⊥
precedes-irrefl [] t = t
precedes-irrefl (a ∷ x) t = go (or_yes (ltb a a) (eqb a a && precedes x x) t) (λ k. precedes-irrefl x k)
  where
    go : T (ltb a a) ⊎ T (eqb a a && precedes x x) → (T (precedes x x) → ⊥) → ⊥
    go (inl h) f = let k : a < a = ltb_yes h in omega arith
    go (inr h) f = f (and_r (eqb a a) (precedes x x) h)

pub precedes-asym : (x y : List ℕ) → T (precedes x y) → T (not (precedes y x))
precedes-asym x y t = not_T (precedes y x) (λ s. precedes-irrefl x (precedes-trans x y x t s))

-- a common beginning does not matter
pub precedes-cancel : (x u v : List ℕ) → precedes (x ++ u) (x ++ v) ≡ precedes u v
precedes-cancel [] u v = refl
precedes-cancel (a ∷ x) u v =
    let h : a ≤ a = omega arith in
    rw (is_false (ltb a a) (no_ltb h), is_true (eqb a a) (eqb_refl a)) (precedes-cancel x u v)

-- the first of two lists that differ, whatever stands behind them
pub precedes-differ : (x y u v : List ℕ) → length x ≡ length y → (x ≡ y → ⊥) → precedes (x ++ u) (y ++ v) ≡ precedes x y
precedes-differ [] [] u v l d = absurd (d refl)
precedes-differ [] (b ∷ y) u v l d = absurd (omega arith)
precedes-differ (a ∷ x) [] u v l d = absurd (omega arith)
precedes-differ (a ∷ x) (b ∷ y) u v l d =
    decide (eqb a b)
    (λ (t : T (eqb a b)).
    let e : a ≡ b = eqb_yes t in
    ap (λ (r : Bool). ltb a b || (eqb a b && r)) (precedes-differ x y u v (omega arith) (λ q. d (ap₂ (λ (c : ℕ) (z : List ℕ). c ∷ z) e q))))
    (λ (t : T (not (eqb a b))). let f : eqb a b ≡ false = is_false (eqb a b) t in rw f)

module _ {A : Type 0} (rank : A → List ℕ) where
  pub ahead-trans : (x y : A) (l : List A) → T (is_before rank x y) → T (ahead rank y l) → T (ahead rank x l)
  ahead-trans x y l t s = in_all (is_before rank x) l (λ z m. precedes-trans (rank x) (rank y) (rank z) t (all_in (is_before rank y) l s m))

  pub ascending-sorted : (l : List A) → T (ascending rank l) → T (sorted rank l)
  ascending-sorted [] t = tt
  ascending-sorted (x ∷ []) t = tt
  ascending-sorted (x ∷ y ∷ l) t =
      let h : T (is_before rank x y) = and_l (is_before rank x y) (ascending rank (y ∷ l)) t in
      let r : T (sorted rank (y ∷ l)) = ascending-sorted (y ∷ l) (and_r (is_before rank x y) (ascending rank (y ∷ l)) t) in
      both (ahead rank x (y ∷ l)) (sorted rank (y ∷ l))
      (both (is_before rank x y) (ahead rank x l) h (ahead-trans x y l h (and_l (ahead rank y l) (sorted rank l) r))) r

  pub sorted-ascending : (l : List A) → T (sorted rank l) → T (ascending rank l)
  sorted-ascending [] t = tt
  sorted-ascending (x ∷ []) t = tt
  sorted-ascending (x ∷ y ∷ l) t =
      both (is_before rank x y) (ascending rank (y ∷ l))
      (and_l (is_before rank x y) (ahead rank x l) (and_l (ahead rank x (y ∷ l)) (sorted rank (y ∷ l)) t))
      (sorted-ascending (y ∷ l) (and_r (ahead rank x (y ∷ l)) (sorted rank (y ∷ l)) t))

  -- the members behind the first k are sorted too
  pub sorted-drop : (k : ℕ) (l : List A) → T (sorted rank l) → T (sorted rank (drop k l))
  sorted-drop zero l t = t
  sorted-drop (suc k) [] t = t
  sorted-drop (suc k) (x ∷ l) t = sorted-drop k l (and_r (ahead rank x l) (sorted rank l) t)

  pub sorted-keep : (k : A → Bool) (l : List A) → T (sorted rank l) → T (sorted rank (keep k l))
  sorted-keep k [] t = tt
  sorted-keep k (d ∷ l) t =
      let r : T (sorted rank (keep k l)) = sorted-keep k l (and_r (ahead rank d l) (sorted rank l) t) in
      let f : T (ahead rank d l) = and_l (ahead rank d l) (sorted rank l) t in
      decide (k d)
      (λ (h : T (k d)).
      rw (cond_yes (k d) (d ∷ keep k l) (keep k l) h)
      (both (ahead rank d (keep k l)) (sorted rank (keep k l)) (in_all (is_before rank d) (keep k l) (λ x m. all_in (is_before rank d) l f (keep-in k l m).0)) r))
      (λ (h : T (not (k d))). rw (cond_no (k d) (d ∷ keep k l) (keep k l) h) r)

  -- ---- put, by the three places that x may find at y

  module _ (x y : A) (l : List A) where
    put-after : T (is_before rank y x) → put rank x (y ∷ l) ≡ y ∷ put rank x l
    put-after t = cond_yes (is_before rank y x) (y ∷ put rank x l) (cond (is_before rank x y) (x ∷ y ∷ l) (y ∷ l)) t

    put-here : T (not (is_before rank y x)) → T (is_before rank x y) → put rank x (y ∷ l) ≡ x ∷ y ∷ l
    put-here s t =
        cond_no (is_before rank y x) (y ∷ put rank x l) (cond (is_before rank x y) (x ∷ y ∷ l) (y ∷ l)) s
        ∙ cond_yes (is_before rank x y) (x ∷ y ∷ l) (y ∷ l) t

    put-there : T (not (is_before rank y x)) → T (not (is_before rank x y)) → put rank x (y ∷ l) ≡ y ∷ l
    put-there s t =
        cond_no (is_before rank y x) (y ∷ put rank x l) (cond (is_before rank x y) (x ∷ y ∷ l) (y ∷ l)) s
        ∙ cond_no (is_before rank x y) (x ∷ y ∷ l) (y ∷ l) t

    -- one case of three
    three : {X : Type 0} → (T (is_before rank y x) → X) → (T (not (is_before rank y x)) → T (is_before rank x y) → X)
        → (T (not (is_before rank y x)) → T (not (is_before rank x y)) → X) → X
    three f g h = decide (is_before rank y x) f (λ s. decide (is_before rank x y) (g s) (h s))

  pub put_in : (x : A) (l : List A) {z : A} → z ∈ put rank x l → (z ≡ x) ⊎ (z ∈ l)
  put_in x [] m = Memᴰ.cases_cons m
  put_in x (y ∷ l) {z} m =
      three x y l
      (λ t. deeper (Memᴰ.cases_cons (rw (put-after x y l t) at m)) (λ (k : z ∈ put rank x l). put_in x l k))
      (λ s t. Memᴰ.cases_cons (rw (put-here x y l s t) at m))
      (λ s t. inr (rw (put-there x y l s t) at m))
    where
      later : (z ≡ x) ⊎ (z ∈ l) → (z ≡ x) ⊎ (z ∈ y ∷ l)
      later (inl h) = inl h
      later (inr h) = inr (Memᴰ.tail h)

      deeper : (z ≡ y) ⊎ (z ∈ put rank x l) → (z ∈ put rank x l → (z ≡ x) ⊎ (z ∈ l)) → (z ≡ x) ⊎ (z ∈ y ∷ l)
      deeper (inl h) f = inr (Memᴰ.head h)
      deeper (inr k) f = later (f k)

  -- what was there stays
  pub in-put : (x : A) (l : List A) {z : A} → z ∈ l → z ∈ put rank x l
  in-put x [] m = absurd (Memᴰ.not-nil m)
  in-put x (y ∷ l) {z} m =
      three x y l
      (λ t. rw (put-after x y l t) (deeper (Memᴰ.cases_cons m) (λ (k : z ∈ l). in-put x l k)))
      (λ s t. rw (put-here x y l s t) (Memᴰ.tail m))
      (λ s t. rw (put-there x y l s t) m)
    where
      deeper : (z ≡ y) ⊎ (z ∈ l) → (z ∈ l → z ∈ put rank x l) → z ∈ y ∷ put rank x l
      deeper (inl h) f = Memᴰ.head h
      deeper (inr k) f = Memᴰ.tail (f k)

  -- what is put in is there, if a member of its rank is itself
  pub put_self : (x : A) (l : List A) → ((y : A) → y ∈ l → rank x ≡ rank y → x ≡ y) → x ∈ put rank x l
  put_self x [] f = Memᴰ.head refl
  put_self x (y ∷ l) f =
      three x y l
      (λ t. rw (put-after x y l t) (Memᴰ.tail (put_self x l (λ z m. f z (Memᴰ.tail m)))))
      (λ s t. rw (put-here x y l s t) (Memᴰ.head refl))
      (λ s t. rw (put-there x y l s t) (Memᴰ.head (f y (Memᴰ.head refl) (precedes-total (rank x) (rank y) t s))))

  -- no member has x's rank
  abbrev pub Fresh : A → List A → Type 0
  Fresh x l = (y : A) → y ∈ l → rank x ≡ rank y → ⊥

  pub put-new : (x : A) (l : List A) → Fresh x l → x ∈ put rank x l
  put-new x l f = put_self x l (λ y m e. absurd (f y m e))

  pub length-put : (x : A) (l : List A) → Fresh x l → length (put rank x l) ≡ suc (length l)
  length-put x [] f = refl
  length-put x (y ∷ l) f =
      three x y l
      (λ t. rw (put-after x y l t) (ap suc (length-put x l (λ z m. f z (Memᴰ.tail m)))))
      (λ s t. rw (put-here x y l s t))
      (λ s t. absurd (f y (Memᴰ.head refl) (precedes-total (rank x) (rank y) t s)))

  pub sorted-put : (x : A) (l : List A) → T (sorted rank l) → T (sorted rank (put rank x l))
  sorted-put x [] t = tt
  sorted-put x (y ∷ l) t =
      three x y l
      (λ b. rw (put-after x y l b)
      (both (ahead rank y (put rank x l)) (sorted rank (put rank x l)) (in_all (is_before rank y) (put rank x l) (λ z m. after-y b z (put_in x l m))) (sorted-put x l (and_r (ahead rank y l) (sorted rank l) t))))
      (λ s b. rw (put-here x y l s b)
      (both (is_before rank x y && ahead rank x l) (sorted rank (y ∷ l)) (both (is_before rank x y) (ahead rank x l) b (ahead-trans x y l b (and_l (ahead rank y l) (sorted rank l) t))) t))
      (λ s b. rw (put-there x y l s b) t)
    where
      after-y : T (is_before rank y x) → (z : A) → (z ≡ x) ⊎ (z ∈ l) → T (is_before rank y z)
      after-y b z (inl h) = rw h b
      after-y b z (inr h) = all_in (is_before rank y) l (and_l (ahead rank y l) (sorted rank l) t) h

  pub sorted_sort : (l : List A) → T (sorted rank (sort rank l))
  sorted_sort [] = tt
  sorted_sort (x ∷ l) = sorted-put x (sort rank l) (sorted_sort l)

  -- two sorted lists with the same members are one list
  pub sorted-unique : (ps qs : List A) → T (sorted rank ps) → T (sorted rank qs)
      → ((x : A) → x ∈ ps → x ∈ qs) → ((x : A) → x ∈ qs → x ∈ ps) → ps ≡ qs
  sorted-unique [] [] s t f g = refl
  sorted-unique [] (q ∷ qs) s t f g = absurd (Memᴰ.not-nil (g q (Memᴰ.head refl)))
  sorted-unique (p ∷ ps) [] s t f g = absurd (Memᴰ.not-nil (f p (Memᴰ.head refl)))
  sorted-unique (p ∷ ps) (q ∷ qs) s t f g =
      ap₂ (λ (x : A) (y : List A). x ∷ y) e
      (sorted-unique ps qs (and_r (ahead rank p ps) (sorted rank ps) s) (and_r (ahead rank q qs) (sorted rank qs) t)
      (λ x m. down x m (Memᴰ.cases_cons (f x (Memᴰ.tail m))))
      (λ x m. up x m (Memᴰ.cases_cons (g x (Memᴰ.tail m)))))
    where
      under-p : (x : A) → x ∈ ps → T (is_before rank p x)
      under-p x m = all_in (is_before rank p) ps (and_l (ahead rank p ps) (sorted rank ps) s) m

      under-q : (x : A) → x ∈ qs → T (is_before rank q x)
      under-q x m = all_in (is_before rank q) qs (and_l (ahead rank q qs) (sorted rank qs) t) m

      head : (p ≡ q) ⊎ (p ∈ qs) → (q ≡ p) ⊎ (q ∈ ps) → p ≡ q
      head (inl h) k = h
      head (inr h) (inl k) = sym k
      head (inr h) (inr k) = absurd (precedes-irrefl (rank p) (precedes-trans (rank p) (rank q) (rank p) (under-p q k) (under-q p h)))

      e : p ≡ q
      e = head (Memᴰ.cases_cons (f p (Memᴰ.head refl))) (Memᴰ.cases_cons (g q (Memᴰ.head refl)))

      down : (x : A) → x ∈ ps → (x ≡ q) ⊎ (x ∈ qs) → x ∈ qs
      down x m (inl h) = absurd (precedes-irrefl (rank p) (subst (λ y. T (is_before rank p y)) (h ∙ sym e) (under-p x m)))
      down x m (inr h) = h

      up : (x : A) → x ∈ qs → (x ≡ p) ⊎ (x ∈ ps) → x ∈ ps
      up x m (inl h) = absurd (precedes-irrefl (rank q) (subst (λ y. T (is_before rank q y)) (h ∙ e) (under-q x m)))
      up x m (inr h) = h

  -- an ascending list is determined by its members
  pub ascending-unique : (ps qs : List A) → T (ascending rank ps) → T (ascending rank qs)
      → ((x : A) → x ∈ ps → x ∈ qs) → ((x : A) → x ∈ qs → x ∈ ps) → ps ≡ qs
  ascending-unique ps qs s t f g = sorted-unique ps qs (ascending-sorted ps s) (ascending-sorted qs t) f g

  pub ascending-sort : (l : List A) → T (ascending rank (sort rank l))
  ascending-sort l = sorted-ascending (sort rank l) (sorted_sort l)

  -- sorting keeps the members
  pub sort-in : (l : List A) {z : A} → z ∈ sort rank l → z ∈ l
  sort-in [] m = m
  sort-in (x ∷ l) {z} m = go (put_in x (sort rank l) m) (λ (k : z ∈ sort rank l). sort-in l k)
    where
      go : (z ≡ x) ⊎ (z ∈ sort rank l) → (z ∈ sort rank l → z ∈ l) → z ∈ x ∷ l
      go (inl h) f = Memᴰ.head h
      go (inr k) f = Memᴰ.tail (f k)

  -- where members of one rank are one
  pub in-sort-members : (l : List A) → ((x y : A) → x ∈ l → y ∈ l → rank x ≡ rank y → x ≡ y) → {z : A} → z ∈ l → z ∈ sort rank l
  in-sort-members [] one m = m
  in-sort-members (x ∷ l) one {z} m =
      go (Memᴰ.cases_cons m)
      (λ (k : z ∈ l). in-sort-members l (λ a b h i. one a b (Memᴰ.tail h) (Memᴰ.tail i)) k)
    where
      go : (z ≡ x) ⊎ (z ∈ l) → (z ∈ l → z ∈ sort rank l) → z ∈ put rank x (sort rank l)
      go (inl e) f =
          rw e (put_self x (sort rank l) (λ y k q. one x y (Memᴰ.head refl) (Memᴰ.tail (sort-in l k)) q))
      go (inr k) f = in-put x (sort rank l) (f k)

  pub in-sort : ((x y : A) → rank x ≡ rank y → x ≡ y) → (l : List A) {z : A} → z ∈ l → z ∈ sort rank l
  in-sort inj l m = in-sort-members l (λ x y h k. inj x y) m

  -- a sorted list behind another, each member of which comes before each of its
  pub sorted-append : (l m : List A) → T (sorted rank l) → T (sorted rank m) → ((x y : A) → x ∈ l → y ∈ m → T (is_before rank x y)) → T (sorted rank (l ++ m))
  sorted-append [] m s t f = t
  sorted-append (x ∷ l) m s t f =
      both (ahead rank x (l ++ m)) (sorted rank (l ++ m))
      (in_all (is_before rank x) (l ++ m) (λ z k. go z (Memᴰ.append_cases l k)))
      (sorted-append l m (and_r (ahead rank x l) (sorted rank l) s) t (λ y z h k. f y z (Memᴰ.tail h) k))
    where
      go : (z : A) → (z ∈ l) ⊎ (z ∈ m) → T (is_before rank x z)
      go z (inl h) = all_in (is_before rank x) l (and_l (ahead rank x l) (sorted rank l) s) h
      go z (inr h) = f x z (Memᴰ.head refl) h

  -- an element that comes before all others is the first
  pub put_first : (x : A) (l : List A) → T (ahead rank x l) → put rank x l ≡ x ∷ l
  put_first x [] t = refl
  put_first x (y ∷ l) t =
      let a : T (is_before rank x y) = and_l (is_before rank x y) (ahead rank x l) t in
      put-here x y l (precedes-asym (rank x) (rank y) a) a

  pub sort-first : (x : A) (l : List A) → T (ahead rank x l) → sort rank (x ∷ l) ≡ x ∷ sort rank l
  sort-first x l t = put_first x (sort rank l) (in_all (is_before rank x) (sort rank l) (λ y m. all_in (is_before rank x) l t (sort-in l m)))

  pub sort-behind : (y : A) (l m : List A) → T (ahead rank y l) → T (ahead rank y m) → sort rank (l ++ (y ∷ m)) ≡ y ∷ sort rank (l ++ m)
  sort-behind y [] m s t = sort-first y m t
  sort-behind y (x ∷ l) m s t =
      ap (put rank x) (sort-behind y l m (and_r (is_before rank y x) (ahead rank y l) s) t)
      ∙ put-after x y (sort rank (l ++ m)) (and_l (is_before rank y x) (ahead rank y l) s)

  -- a sorted list is sorted already
  pub sort_sorted : (l : List A) → T (sorted rank l) → sort rank l ≡ l
  sort_sorted [] t = refl
  sort_sorted (x ∷ l) t = sort-first x l (and_l (ahead rank x l) (sorted rank l) t) ∙ ap (λ (m : List A). x ∷ m) (sort_sorted l (and_r (ahead rank x l) (sorted rank l) t))

  -- two lists, each sorted by itself, and then together
  pub sort-join : (l m : List A) → ((x y : A) → x ∈ l ++ m → y ∈ l ++ m → rank x ≡ rank y → x ≡ y)
      → sort rank (sort rank l ++ sort rank m) ≡ sort rank (l ++ m)
  sort-join l m one =
      sorted-unique (sort rank (sort rank l ++ sort rank m)) (sort rank (l ++ m)) (sorted_sort (sort rank l ++ sort rank m)) (sorted_sort (l ++ m))
      (λ x h. in-sort-members (l ++ m) one (down x (Memᴰ.append_cases (sort rank l) (sort-in (sort rank l ++ sort rank m) h))))
      (λ x h. in-sort-members (sort rank l ++ sort rank m) (λ a b i j. one a b (in_parts a i) (in_parts b j)) (up x (Memᴰ.append_cases l (sort-in (l ++ m) h))))
    where
      down : (x : A) → (x ∈ sort rank l) ⊎ (x ∈ sort rank m) → x ∈ l ++ m
      down x (inl h) = in-front l m (sort-in l h)
      down x (inr h) = in-back l m (sort-in m h)

      in_parts : (x : A) → x ∈ sort rank l ++ sort rank m → x ∈ l ++ m
      in_parts x h = down x (Memᴰ.append_cases (sort rank l) h)

      up : (x : A) → (x ∈ l) ⊎ (x ∈ m) → x ∈ sort rank l ++ sort rank m
      up x (inl h) = in-front (sort rank l) (sort rank m) (in-sort-members l (λ a b i j. one a b (in-front l m i) (in-front l m j)) h)
      up x (inr h) = in-back (sort rank l) (sort rank m) (in-sort-members m (λ a b i j. one a b (in-back l m i) (in-back l m j)) h)

  -- members of a sorted list with one rank are one
  pub sorted-one : (l : List A) → T (sorted rank l) → (x y : A) → x ∈ l → y ∈ l → rank x ≡ rank y → x ≡ y
  sorted-one [] t x y h k e = absurd (Memᴰ.not-nil h)
  sorted-one (z ∷ l) t x y h k e =
      go (Memᴰ.cases_cons h) (Memᴰ.cases_cons k) (λ i j. sorted-one l (and_r (ahead rank z l) (sorted rank l) t) x y i j e)
    where
      first : (w : A) → w ∈ l → T (is_before rank z w)
      first w m = all_in (is_before rank z) l (and_l (ahead rank z l) (sorted rank l) t) m

      go : (x ≡ z) ⊎ (x ∈ l) → (y ≡ z) ⊎ (y ∈ l) → (x ∈ l → y ∈ l → x ≡ y) → x ≡ y
      go (inl a) (inl b) f = a ∙ sym b
      go (inl a) (inr b) f = absurd (precedes-irrefl (rank y) (subst (λ r. T (precedes r (rank y))) (ap rank (sym a) ∙ e) (first y b)))
      go (inr a) (inl b) f = absurd (precedes-irrefl (rank x) (subst (λ r. T (precedes r (rank x))) (ap rank (sym b) ∙ sym e) (first x a)))
      go (inr a) (inr b) f = f a b
