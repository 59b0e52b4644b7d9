-- Keys of which no two are equal.
use mathlib.Core.Path.{◌≡◌, refl, sym, ap, ap₂, ◌∙◌}
use mathlib.Core.Bool.{Bool, true, false, not, ◌&&◌, ◌||◌, and_assoc, or_assoc}
use mathlib.Core.List.{List, [], ◌∷◌, ◌++◌, map}
use Prim.Native.Nat.{ℕ, ◌+◌, ◌*◌, ◌≤◌, ◌<◌}
use native.Mathlib.Numerals.{add-one}
use native.Mathlib.Omega.{arith}
use lib.ListN.{length, take, set}
use lib.Seq.{take-suc-set}
use lib.Dec.{T, eqb}
use mir.Facts.{eqb_yes, yes_eqb}
use Rattle.model.specs.Lists.{all, any}
use Rattle.model.specs.Path.{Step, same_step, valid_step}
use Rattle.model.specs.Tree.{Forest, empty, element}
use Rattle.model.specs.Intake.{siblings, differ, in_form}
use Rattle.model.proofs.Bools.{and_l, and_r, both, same_test}
use Rattle.model.proofs.Paths.{step-ranges}
use Rattle.model.proofs.Sending.{form-parts}
use Rattle.siblings.specs.Differing.{key_of}
use Rattle.siblings.specs.Keys.{keys_of, fresh, distinct}

-- ---- keys put together

-- a test over two lists
pub any_append : {A : Type 0} (p : A → Bool) (l m : List A) → any p (l ++ m) ≡ (any p l || any p m)
any_append p [] m = refl
any_append p (x ∷ l) m = ap (λ (t : Bool). p x || t) (any_append p l m) ∙ sym (or_assoc (p x) (any p l) (any p m))

-- every key is fresh to none
fresh-none : (q : List ℕ) → fresh [] q ≡ true
fresh-none [] = refl
fresh-none (x ∷ q) = fresh-none q

turned : (x y : ℕ) → eqb x y ≡ eqb y x
turned x y = same_test (eqb x y) (eqb y x) (swap x y) (swap y x)
  where
    swap : (u v : ℕ) → T (eqb u v) → T (eqb v u)
    swap u v t = let e : u ≡ v = eqb_yes t in yes_eqb (sym e)

-- the middle tests of four change places
exchanged : (x y u v : Bool) → (not (x || y) && (not u && v)) ≡ (not (x || u) && (not y && v))
exchanged true y u v = refl
exchanged false true true v = refl
exchanged false true false v = refl
exchanged false false true v = refl
exchanged false false false v = refl

-- fresh to one key more
fresh-more : (x : ℕ) (k q : List ℕ) → fresh (x ∷ k) q ≡ (not (any (eqb x) q) && fresh k q)
fresh-more x k [] = refl
fresh-more x k (y ∷ q) =
    ap₂ (λ (s t : Bool). not (s || any (eqb y) k) && t) (turned y x) (fresh-more x k q)
    ∙ exchanged (eqb x y) (any (eqb y) k) (any (eqb x) q) (fresh k q)

-- one that is not among the first, and the rest
apart : (s t u : Bool) → T (not s) → (not (s || t) && u) ≡ (not t && u)
apart true t u h = absurd h
apart false t u h = refl

-- distinct keys and others: the others are fresh to them, and distinct
pub distinct_append : (k q : List ℕ) → T (distinct k) → distinct (k ++ q) ≡ (fresh k q && distinct q)
distinct_append [] q t = sym (ap (λ (b : Bool). b && distinct q) (fresh-none q))
distinct_append (x ∷ k) q t =
    ap₂ (λ (b c : Bool). not b && c) (any_append (eqb x) k q) (distinct_append k q (and_r (not (any (eqb x) k)) (distinct k) t))
    ∙ apart (any (eqb x) k) (any (eqb x) q) (fresh k q && distinct q) (and_l (not (any (eqb x) k)) (distinct k) t)
    ∙ sym (ap (λ (b : Bool). b && distinct q) (fresh-more x k q) ∙ and_assoc (not (any (eqb x) q)) (fresh k q) (distinct q))

-- a key looked for among the keys k, and others behind it
module _ (k : List ℕ) (x : ℕ) {t : Bool} (e : t ≡ any (eqb x) k) where
  -- it is one of them
  pub fresh-not : t ≡ true → (q : List ℕ) → fresh k (x ∷ q) ≡ false
  fresh-not h q = rw (← e, h)

  -- so with it they are not distinct
  pub distinct-not : T (distinct k) → t ≡ true → (q : List ℕ) → distinct (k ++ (x ∷ q)) ≡ false
  distinct-not d h q = distinct_append k (x ∷ q) d ∙ ap (λ (b : Bool). b && distinct (x ∷ q)) (fresh-not h q)

  -- it is another
  pub fresh-yes : t ≡ false → (q : List ℕ) → fresh k (x ∷ q) ≡ fresh k q
  fresh-yes h q = rw (← e, h)

  -- so with it they are distinct
  pub distinct_more : T (distinct k) → t ≡ false → T (distinct (k ++ (x ∷ [])))
  distinct_more d h = rw (distinct_append k (x ∷ []) d, fresh-yes h []) tt

-- a key put behind the first n of an array
pub put-more : (ks : List ℕ) (n k : ℕ) → n < length ks → take (n + 1) (set ks n k) ≡ take n ks ++ (k ∷ [])
put-more ks n k h = rw (add-one n) (take-suc-set ks n k h)

-- ---- the keys of steps

-- a name and a label are told by their key
key-told : (n l m k : ℕ) → l ≤ 31 → k ≤ 31 → 32 * n + l ≡ 32 * m + k → (n ≡ m) × (l ≡ k)
key-told n l m k p q e = (omega arith, omega arith)

-- so steps are equal if their keys are
key-same : (a b : Step) → T (valid_step a) → T (valid_step b) → eqb (key_of a) (key_of b) ≡ same_step a b
unfolding same_step
key-same a b s t =
    same_test (eqb (key_of a) (key_of b)) (eqb a.name b.name && eqb a.label b.label)
    (λ h.
    let u = key-told a.name a.label b.name b.label (step-ranges a s).2 (step-ranges b t).2 (eqb_yes h) in
    both (eqb a.name b.name) (eqb a.label b.label) (yes_eqb u.0) (yes_eqb u.1))
    (λ h.
    let n : a.name ≡ b.name = eqb_yes (and_l (eqb a.name b.name) (eqb a.label b.label) h) in
    let l : a.label ≡ b.label = eqb_yes (and_r (eqb a.name b.name) (eqb a.label b.label) h) in
    let e : key_of a ≡ key_of b = omega arith in
    yes_eqb e)

-- a step is among others if its key is among theirs
pub key-among : (a : Step) (p : List Step) → T (valid_step a) → T (all valid_step p) → any (eqb (key_of a)) (map key_of p) ≡ any (same_step a) p
key-among a [] s t = refl
key-among a (b ∷ p) s t =
    ap₂ (λ (x y : Bool). x || y) (key-same a b s (and_l (valid_step b) (all valid_step p) t)) (key-among a p s (and_r (valid_step b) (all valid_step p) t))

-- no two steps are equal if no two keys are
pub keys-differ : (p : List Step) → T (all valid_step p) → distinct (map key_of p) ≡ differ p
keys-differ [] t = refl
keys-differ (a ∷ p) t =
    let u : T (all valid_step p) = and_r (valid_step a) (all valid_step p) t in
    ap₂ (λ (x y : Bool). not x && y) (key-among a p (and_l (valid_step a) (all valid_step p) t) u) (keys-differ p u)

-- the steps of trees in form are valid
form-valid : (d : ℕ) (f : Forest) → T (in_form d f) → T (all valid_step (siblings f))
form-valid d empty t = tt
form-valid d (element a c i b) t =
    let p = form-parts d a c i b t in
    both (valid_step a) (all valid_step (siblings b)) p.step (form-valid d b p.next)

-- so trees in form differ if their keys do
pub form-differ : (d : ℕ) (f : Forest) → T (in_form d f) → distinct (keys_of f) ≡ differ (siblings f)
form-differ d f t = keys-differ (siblings f) (form-valid d f t)
