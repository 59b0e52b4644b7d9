-- Tests: their parts, their cases, and what a chosen branch is.
use mathlib.Core.Path.{◌≡◌, refl, sym}
use mathlib.Core.Bool.{Bool, true, false, not, cond, ◌&&◌, ◌||◌, and-false}
use lib.Dec.{T}

pub and_l : (a b : Bool) → T (a && b) → T a
and_l true b t = tt
and_l false b t = absurd t

pub and_r : (a b : Bool) → T (a && b) → T b
and_r true b t = t
and_r false b t = absurd t

pub both : (a b : Bool) → T a → T b → T (a && b)
both true b s t = t
both false b s t = absurd s

-- pairs of tests taken the other way
pub crossed : (a b c d : Bool) → ((a && b) && (c && d)) ≡ ((a && c) && (b && d))
crossed false b c d = refl
crossed true true c d = refl
crossed true false c d = sym (and-false c)

pub or_l : (a b : Bool) → T a → T (a || b)
or_l true b t = tt
or_l false b t = absurd t

pub or_r : (a b : Bool) → T b → T (a || b)
or_r true b t = tt
or_r false b t = t

-- where the first holds, it is the second that does not
pub not-second : (a b : Bool) → T a → T (not (a && b)) → T (not b)
not-second true b s t = t
not-second false b s t = absurd s

pub not-not : (a : Bool) → T (not (not a)) → T a
not-not true t = tt
not-not false t = t

pub yes-not-not : (a : Bool) → T a → T (not (not a))
yes-not-not true t = tt
yes-not-not false t = t

-- a test holds or does not
pub decide {ℓ} : {X : Type ℓ} (b : Bool) → (T b → X) → (T (not b) → X) → X
decide true f g = f tt
decide false f g = g tt

pub cond_yes {ℓ} : {X : Type ℓ} (b : Bool) (x y : X) → T b → cond b x y ≡ x
cond_yes true x y t = refl
cond_yes false x y t = absurd t

pub cond_no {ℓ} : {X : Type ℓ} (b : Bool) (x y : X) → T (not b) → cond b x y ≡ y
cond_no true x y t = absurd t
cond_no false x y t = refl

-- branches that agree where they are chosen
pub cond_same {ℓ} : {X : Type ℓ} (b : Bool) (x y z : X) → (T b → x ≡ y) → cond b x z ≡ cond b y z
cond_same true x y z f = f tt
cond_same false x y z f = refl

pub is_true : (b : Bool) → T b → b ≡ true
is_true true t = refl
is_true false t = absurd t

pub is_false : (b : Bool) → T (not b) → b ≡ false
is_false true t = absurd t
is_false false t = refl

-- tests that imply each other are equal
pub same_test : (a b : Bool) → (T a → T b) → (T b → T a) → a ≡ b
same_test true true f g = refl
same_test true false f g = absurd (f tt)
same_test false true f g = absurd (g tt)
same_test false false f g = refl
