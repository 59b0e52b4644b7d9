-- What tests on lists say of the members.
use mathlib.Core.Path.{◌≡◌, refl, sym, ap, ap₂, ◌∙◌}
use mathlib.Core.Logic.{◌⊎◌, inl, inr}
use mathlib.Core.Bool.{Bool, not, ◌||◌}
use mathlib.Core.List.Memᴰ
use mathlib.Core.List.{List, [], ◌∷◌, ◌++◌, map, append_assoc}
use lib.Dec.{T}
use mir.Facts.{or_yes, T_not}
use Rattle.model.specs.Lists.{◌∈◌, all, any, keep, gather}
use Rattle.model.proofs.Bools.{and_l, and_r, both, or_l, or_r, decide, cond_yes, cond_no}

-- members of the parts of a list
pub in-front : {A : Type 0} (l m : List A) {x : A} → x ∈ l → x ∈ l ++ m
in-front [] m k = absurd (Memᴰ.not-nil k)
in-front (y ∷ l) m {x} k = go (Memᴰ.cases_cons k) (λ (j : x ∈ l). in-front l m j)
  where
    go : (x ≡ y) ⊎ (x ∈ l) → (x ∈ l → x ∈ l ++ m) → x ∈ y ∷ (l ++ m)
    go (inl e) f = Memᴰ.head e
    go (inr j) f = Memᴰ.tail (f j)

pub in-back : {A : Type 0} (l m : List A) {x : A} → x ∈ m → x ∈ l ++ m
in-back [] m k = k
in-back (y ∷ l) m k = Memᴰ.tail (in-back l m k)

module _ {A : Type 0} where
  pub all_in : (p : A → Bool) (l : List A) → T (all p l) → {x : A} → x ∈ l → T (p x)
  all_in p [] t m = absurd (Memᴰ.not-nil m)
  all_in p (y ∷ l) t {x} m = go (Memᴰ.cases_cons m) (λ (k : x ∈ l). all_in p l (and_r (p y) (all p l) t) k)
    where
      go : (x ≡ y) ⊎ (x ∈ l) → (x ∈ l → T (p x)) → T (p x)
      go (inl e) f = rw e (and_l (p y) (all p l) t)
      go (inr k) f = f k

  pub in_all : (p : A → Bool) (l : List A) → ((x : A) → x ∈ l → T (p x)) → T (all p l)
  in_all p [] f = tt
  in_all p (y ∷ l) f = both (p y) (all p l) (f y (Memᴰ.head refl)) (in_all p l (λ x m. f x (Memᴰ.tail m)))

  pub any-in : (p : A → Bool) (l : List A) → T (any p l) → (x : A) × (x ∈ l) × T (p x)
  any-in p [] t = absurd t
  any-in p (y ∷ l) t = go (or_yes (p y) (any p l) t) (λ k. any-in p l k)
    where
      go : T (p y) ⊎ T (any p l) → (T (any p l) → (x : A) × (x ∈ l) × T (p x)) → (x : A) × (x ∈ y ∷ l) × T (p x)
      go (inl h) f = (y, Memᴰ.head refl, h)
      go (inr k) f = let r = f k in (r.0, Memᴰ.tail r.1, r.2)

  pub in-any : (p : A → Bool) (l : List A) {x : A} → x ∈ l → T (p x) → T (any p l)
  in-any p [] m t = absurd (Memᴰ.not-nil m)
  in-any p (y ∷ l) {x} m t = go (Memᴰ.cases_cons m) (λ (k : x ∈ l). in-any p l k t)
    where
      go : (x ≡ y) ⊎ (x ∈ l) → (x ∈ l → T (any p l)) → T (any p (y ∷ l))
      go (inl e) f = or_l (p y) (any p l) (rw e at t)
      go (inr k) f = or_r (p y) (any p l) (f k)

  pub not-any : (p : A → Bool) (l : List A) → T (not (any p l)) → {x : A} → x ∈ l → T (not (p x))
  not-any p l t {x} m = decide (p x) (λ (h : T (p x)). absurd (T_not (any p l) (in-any p l m h) t)) (λ h. h)

  -- tests that agree on the members
  pub any-ext : (p q : A → Bool) (l : List A) → ((x : A) → x ∈ l → p x ≡ q x) → any p l ≡ any q l
  any-ext p q [] h = refl
  any-ext p q (x ∷ l) h = ap₂ (λ (a b : Bool). a || b) (h x (Memᴰ.head refl)) (any-ext p q l (λ y m. h y (Memᴰ.tail m)))

  pub keep-in : (p : A → Bool) (l : List A) {x : A} → x ∈ keep p l → (x ∈ l) × T (p x)
  keep-in p [] m = absurd (Memᴰ.not-nil m)
  keep-in p (y ∷ l) {x} m =
      decide (p y)
      (λ (t : T (p y)). there t (Memᴰ.cases_cons (rw (cond_yes (p y) (y ∷ keep p l) (keep p l) t) at m)) (λ (k : x ∈ keep p l). keep-in p l k))
      (λ (t : T (not (p y))). let r = keep-in p l {x = x} (rw (cond_no (p y) (y ∷ keep p l) (keep p l) t) at m) in (Memᴰ.tail r.0, r.1))
    where
      there : T (p y) → (x ≡ y) ⊎ (x ∈ keep p l) → (x ∈ keep p l → (x ∈ l) × T (p x)) → (x ∈ y ∷ l) × T (p x)
      there t (inl e) f = (Memᴰ.head e, rw e t)
      there t (inr k) f = (Memᴰ.tail (f k).0, (f k).1)

  pub keep_append : (p : A → Bool) (l m : List A) → keep p (l ++ m) ≡ keep p l ++ keep p m
  keep_append p [] m = refl
  keep_append p (x ∷ l) m =
      decide (p x)
      (λ (t : T (p x)).
      cond_yes (p x) (x ∷ keep p (l ++ m)) (keep p (l ++ m)) t
      ∙ ap (λ (r : List A). x ∷ r) (keep_append p l m)
      ∙ sym (ap (λ (r : List A). r ++ keep p m) (cond_yes (p x) (x ∷ keep p l) (keep p l) t)))
      (λ (t : T (not (p x))).
      cond_no (p x) (x ∷ keep p (l ++ m)) (keep p (l ++ m)) t
      ∙ keep_append p l m
      ∙ sym (ap (λ (r : List A). r ++ keep p m) (cond_no (p x) (x ∷ keep p l) (keep p l) t)))

  -- what is kept of lists one after another
  pub keep-gather : {B : Type 0} (f : A → Bool) (g : B → List A) (ns : List B) → gather (λ n. keep f (g n)) ns ≡ keep f (gather g ns)
  keep-gather f g [] = refl
  keep-gather f g (n ∷ ns) = ap (λ (r : List A). keep f (g n) ++ r) (keep-gather f g ns) ∙ sym (keep_append f (g n) (gather g ns))

  pub in-keep : (p : A → Bool) (l : List A) {x : A} → x ∈ l → T (p x) → x ∈ keep p l
  in-keep p [] m t = absurd (Memᴰ.not-nil m)
  in-keep p (y ∷ l) {x} m t = go (Memᴰ.cases_cons m) (λ (k : x ∈ l). in-keep p l k t)
    where
      go : (x ≡ y) ⊎ (x ∈ l) → (x ∈ l → x ∈ keep p l) → x ∈ keep p (y ∷ l)
      go (inl e) f = rw (cond_yes (p y) (y ∷ keep p l) (keep p l) (rw e at t)) (Memᴰ.head e)
      go (inr k) f =
          decide (p y)
          (λ (h : T (p y)). rw (cond_yes (p y) (y ∷ keep p l) (keep p l) h) (Memᴰ.tail (f k)))
          (λ (h : T (not (p y))). rw (cond_no (p y) (y ∷ keep p l) (keep p l) h) (f k))

  pub gather-in : {B : Type 0} (f : A → List B) (l : List A) {y : B} → y ∈ gather f l → (x : A) × (x ∈ l) × (y ∈ f x)
  gather-in f [] m = absurd (Memᴰ.not-nil m)
  gather-in {B} f (x ∷ l) {y} m = go (Memᴰ.append_cases (f x) m) (λ (k : y ∈ gather f l). gather-in f l k)
    where
      go : (y ∈ f x) ⊎ (y ∈ gather f l) → (y ∈ gather f l → (z : A) × (z ∈ l) × (y ∈ f z)) → (z : A) × (z ∈ x ∷ l) × (y ∈ f z)
      go (inl h) g = (x, Memᴰ.head refl, h)
      go (inr k) g = let r = g k in (r.0, Memᴰ.tail r.1, r.2)

  pub in-gather : {B : Type 0} (f : A → List B) (l : List A) {x : A} {y : B} → x ∈ l → y ∈ f x → y ∈ gather f l
  in-gather f [] m k = absurd (Memᴰ.not-nil m)
  in-gather {B} f (z ∷ l) {x} {y} m k = go (Memᴰ.cases_cons m) (λ (j : x ∈ l). in-gather f l j k)
    where
      go : (x ≡ z) ⊎ (x ∈ l) → (x ∈ l → y ∈ gather f l) → y ∈ gather f (z ∷ l)
      go (inl e) g = in-front (f z) (gather f l) (rw e at k)
      go (inr j) g = in-back (f z) (gather f l) (g j)

  pub map-in : {B : Type 0} (f : A → B) (l : List A) {y : B} → y ∈ map f l → (x : A) × (x ∈ l) × (y ≡ f x)
  map-in f [] m = absurd (Memᴰ.not-nil m)
  map-in {B} f (x ∷ l) {y} m = go (Memᴰ.cases_cons m) (λ (k : y ∈ map f l). map-in f l k)
    where
      go : (y ≡ f x) ⊎ (y ∈ map f l) → (y ∈ map f l → (z : A) × (z ∈ l) × (y ≡ f z)) → (z : A) × (z ∈ x ∷ l) × (y ≡ f z)
      go (inl h) g = (x, Memᴰ.head refl, h)
      go (inr k) g = let r = g k in (r.0, Memᴰ.tail r.1, r.2)

  pub in_map : {B : Type 0} (f : A → B) (l : List A) {x : A} → x ∈ l → f x ∈ map f l
  in_map f [] m = absurd (Memᴰ.not-nil m)
  in_map f (y ∷ l) {x} m = go (Memᴰ.cases_cons m) (λ (k : x ∈ l). in_map f l k)
    where
      go : (x ≡ y) ⊎ (x ∈ l) → (x ∈ l → f x ∈ map f l) → f x ∈ map f (y ∷ l)
      go (inl e) g = Memᴰ.head (ap f e)
      go (inr k) g = Memᴰ.tail (g k)

-- ---- lists gathered

pub gather_append : {A B : Type 0} (f : A → List B) (l m : List A) → gather f (l ++ m) ≡ gather f l ++ gather f m
gather_append f [] m = refl
gather_append f (x ∷ l) m = ap (λ z. f x ++ z) (gather_append f l m) ∙ sym (append_assoc (f x) (gather f l) (gather f m))

pub gather_ext : {A B : Type 0} (f g : A → List B) (l : List A) → ((x : A) → x ∈ l → f x ≡ g x) → gather f l ≡ gather g l
gather_ext f g [] h = refl
gather_ext f g (x ∷ l) h = ap₂ (λ y z. y ++ z) (h x (Memᴰ.head refl)) (gather_ext f g l (λ y m. h y (Memᴰ.tail m)))
