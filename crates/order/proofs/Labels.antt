-- Rising labels, parted in two; and lists of which some members are kept.
use mathlib.Core.Path.{◌≡◌, refl, sym, ap, ap₂, ◌∙◌}
use mathlib.Core.Bool.{Bool, not}
use mathlib.Core.List.Memᴰ
use mathlib.Core.List.{List, [], ◌∷◌, ◌++◌}
use mathlib.Core.Logic.{◌⊎◌, inl, inr}
use Prim.Native.Nat.{ℕ, zero, suc, ◌+◌, ◌-◌, ◌*◌, ◌/◌, ◌≤◌, ◌<◌}
use native.Mathlib.Omega.{arith}
use lib.ListN.{length, take, drop, length-drop, take-append-drop}
use lib.Seq.{take-length, length-take-le}
use lib.Dec.{T, ltb}
use mir.Facts.{ltb_yes}
use Rattle.model.specs.Lists.{all, keep, gather, ◌∈◌}
use Rattle.model.proofs.Bools.{and_l, and_r, both, decide, cond_yes, cond_no}
use Rattle.model.proofs.Lists.{all_take}
use Rattle.model.proofs.Members.{all_in, in-back}
use Rattle.order.specs.Refs.{rising}

-- ---- rising numbers

pub rising-take : (k : ℕ) (l : List ℕ) → T (rising l) → T (rising (take k l))
rising-take zero l t = tt
rising-take (suc k) [] t = tt
rising-take (suc k) (n ∷ l) t =
    both (all (ltb n) (take k l)) (rising (take k l))
    (all_take (ltb n) k l (and_l (all (ltb n) l) (rising l) t))
    (rising-take k l (and_r (all (ltb n) l) (rising l) t))

pub rising-drop : (k : ℕ) (l : List ℕ) → T (rising l) → T (rising (drop k l))
rising-drop zero l t = t
rising-drop (suc k) [] t = tt
rising-drop (suc k) (n ∷ l) t = rising-drop k l (and_r (all (ltb n) l) (rising l) t)

pub rising-apart : (xs ys : List ℕ) → T (rising (xs ++ ys)) → {m n : ℕ} → m ∈ xs → n ∈ ys → m < n
rising-apart [] ys t i j = absurd (Memᴰ.not-nil i)
rising-apart (k ∷ xs) ys t {m} {n} i j =
    go (Memᴰ.cases_cons i) (λ (h : m ∈ xs). rising-apart xs ys (and_r (all (ltb k) (xs ++ ys)) (rising (xs ++ ys)) t) h j)
  where
    go : (m ≡ k) ⊎ (m ∈ xs) → (m ∈ xs → m < n) → m < n
    go (inl e) f = rw e (ltb_yes (all_in (ltb k) (xs ++ ys) (and_l (all (ltb k) (xs ++ ys)) (rising (xs ++ ys)) t) (in-back xs ys j)))
    go (inr h) f = f h

all_keep : (p q : ℕ → Bool) (l : List ℕ) → T (all p l) → T (all p (keep q l))
all_keep p q [] t = tt
all_keep p q (n ∷ l) t =
    let r : T (all p (keep q l)) = all_keep p q l (and_r (p n) (all p l) t) in
    decide (q n)
    (λ (h : T (q n)). rw (cond_yes (q n) (n ∷ keep q l) (keep q l) h) (both (p n) (all p (keep q l)) (and_l (p n) (all p l) t) r))
    (λ (h : T (not (q n))). rw (cond_no (q n) (n ∷ keep q l) (keep q l) h) r)

pub rising-keep : (q : ℕ → Bool) (l : List ℕ) → T (rising l) → T (rising (keep q l))
rising-keep q [] t = tt
rising-keep q (n ∷ l) t =
    let r : T (rising (keep q l)) = rising-keep q l (and_r (all (ltb n) l) (rising l) t) in
    decide (q n)
    (λ (h : T (q n)).
    rw (cond_yes (q n) (n ∷ keep q l) (keep q l) h)
    (both (all (ltb n) (keep q l)) (rising (keep q l)) (all_keep (ltb n) q l (and_l (all (ltb n) l) (rising l) t)) r))
    (λ (h : T (not (q n))). rw (cond_no (q n) (n ∷ keep q l) (keep q l) h) r)

-- a list in two parts
pub halves : (h : ℕ) (l : List ℕ) → h ≤ length l → take (h - 0) l ++ take (length l - h) (drop h l) ≡ l
halves h l g =
    let z : h - 0 ≡ h = omega arith in
    let r : take (length l - h) (drop h l) ≡ drop h l = ap (λ (n : ℕ). take n (drop h l)) (sym (length-drop h l)) ∙ take-length (drop h l) in
    ap₂ (λ (n : ℕ) (m : List ℕ). take n l ++ m) z r ∙ take-append-drop h l

-- and how long they are
pub first-length : (h : ℕ) (l : List ℕ) → h ≤ length l → length (take (h - 0) l) ≡ h
first-length h l g = let z : h - 0 ≡ h = omega arith in ap (λ (n : ℕ). length (take n l)) z ∙ length-take-le h l g

pub second-length : (h : ℕ) (l : List ℕ) → h ≤ length l → length (take (length l - h) (drop h l)) ≡ length l - h
second-length h l g =
    let d : length (drop h l) ≡ length l - h = length-drop h l in
    length-take-le (length l - h) (drop h l) (omega arith)

-- ---- the halves of at least two

pub at-least-two : (n : ℕ) → (n ≡ 0 → ⊥) → (n ≡ 1 → ⊥) → 2 ≤ n
at-least-two zero f g = absurd (f refl)
at-least-two (suc zero) f g = absurd (g refl)
at-least-two (suc (suc n)) f g = omega arith

module _ (l : List ℕ) where
  pub half-below : length l / 2 ≤ length l
  half-below = omega arith

  pub first-less : 2 ≤ length l → length (take (length l / 2 - 0) l) < length l
  first-less h = rw (first-length (length l / 2) l half-below) (omega arith)

  pub second-less : 2 ≤ length l → length (take (length l - length l / 2) (drop (length l / 2) l)) < length l
  second-less h = rw (second-length (length l / 2) l half-below) (omega arith)

  -- where all have room, the second half has it behind the first's
  pub room-left : {a m n : ℕ} → a ≤ 32 * length (take (length l / 2 - 0) l) → 32 * length l ≤ m → n ≡ m → a + 32 * (length l - length l / 2) ≤ n
  room-left f g e =
      let h : length (take (length l / 2 - 0) l) ≡ length l / 2 = first-length (length l / 2) l half-below in
      omega arith

-- the part lent has the rest of the room
pub part_room : (x : List ℕ) (a m : ℕ) → a + m ≤ length x → m ≤ length (take (length x - a) (drop a x))
part_room x a m h =
    let d : length (drop a x) ≡ length x - a = length-drop a x in
    let t : length (take (length x - a) (drop a x)) ≡ length x - a = length-take-le (length x - a) (drop a x) (omega arith) in
    omega arith

pub fewer : {a c n : ℕ} → a < c → c ≤ n → a ≤ n
fewer f g = omega arith

pub starts-within : (a m : ℕ) {n : ℕ} → a + m ≤ n → a ≤ n
starts-within a m f = omega arith

module _ (l : List ℕ) where
  second-size : length (take (length l - length l / 2) (drop (length l / 2) l)) ≡ length l - length l / 2
  second-size = second-length (length l / 2) l (half-below l)

  pub second-room : (x : List ℕ) (a : ℕ) → a + 32 * (length l - length l / 2) ≤ length x
      → 32 * length (take (length l - length l / 2) (drop (length l / 2) l)) ≤ length (take (length x - a) (drop a x))
  second-room x a f = rw second-size (part_room x a _ f)

  pub second_fits : (x : List ℕ) (a : ℕ) {c k : ℕ} → c ≤ 32 * length (take (length l - length l / 2) (drop (length l / 2) l))
      → a + 32 * (length l - length l / 2) ≤ length x → k ≡ length (take (length x - a) (drop a x)) → c ≤ k
  second_fits x a f g e = let r = second-room x a g in omega (arith, r, f, e)

  -- both halves fit where all fit
  pub both-fit : (a c : ℕ) {k n m : ℕ} → c ≤ 32 * length (take (length l - length l / 2) (drop (length l / 2) l))
      → a + 32 * (length l - length l / 2) ≤ n → k ≡ a + c → m ≡ n → k ≤ m
  both-fit a c f g e q = let z = second-size in omega arith

  pub both-few : {a c : ℕ} → a ≤ 32 * length (take (length l / 2 - 0) l) → c ≤ 32 * length (take (length l - length l / 2) (drop (length l / 2) l)) → a + c ≤ 32 * length l
  both-few f g =
      let y = second-size in
      let z = first-length (length l / 2) l (half-below l) in
      omega arith

-- ---- keeping

-- what is left out gives nothing
pub gather-keep : {A : Type 0} (f : ℕ → List A) (q : ℕ → Bool) → ((n : ℕ) → T (not (q n)) → f n ≡ []) → (l : List ℕ) → gather f (keep q l) ≡ gather f l
gather-keep f q none [] = refl
gather-keep {A} f q none (n ∷ l) =
    decide (q n)
    (λ (t : T (q n)).
    ap (gather f) (cond_yes (q n) (n ∷ keep q l) (keep q l) t) ∙ ap (λ (r : List A). f n ++ r) (gather-keep f q none l))
    (λ (t : T (not (q n))).
    ap (gather f) (cond_no (q n) (n ∷ keep q l) (keep q l) t)
    ∙ gather-keep f q none l
    ∙ ap (λ (r : List A). r ++ gather f l) (sym (none n t)))
