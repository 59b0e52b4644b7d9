-- Parts of lists, lists of a fixed width, zeros and ranges.
use mathlib.Core.Path.{◌≡◌, refl, sym, ap, ap₂, ◌∙◌}
use mathlib.Core.Bool.{Bool, true, ◌&&◌, and_assoc}
use mathlib.Core.List.{List, [], ◌∷◌, ◌++◌, map, append_assoc}
use Prim.Native.Nat.{ℕ, zero, suc, ◌+◌, ◌-◌, ◌≤◌, ◌<◌}
use native.Mathlib.Nat.{sub-zero, zero-sub, suc-sub-suc}
use native.Mathlib.Omega.{arith}
use lib.ListN.{length, take, drop, get_or, replicate, take-append-drop, length-append, length-take, length-drop, length-replicate}
use lib.Seq.{take-append-add, take-add, take_all, take_at, drop_at, drop-drop, drop-cons, length-take-le}
use lib.Dec.{T, eqb, eqb_refl}
use mir.Facts.{eqb_yes, yes_ltb}
use Rattle.model.specs.Lists.{all, range, is_byte, all_zero, same_bytes, between, pad}
use Rattle.model.proofs.Bools.{and_l, and_r, both}

-- ---- equality

pub same_bytes-eq : (x y : List ℕ) → T (same_bytes x y) → x ≡ y
same_bytes-eq [] [] t = refl
same_bytes-eq [] (b ∷ y) t = absurd t
same_bytes-eq (a ∷ x) [] t = absurd t
same_bytes-eq (a ∷ x) (b ∷ y) t =
    ap₂ (λ (c : ℕ) (z : List ℕ). c ∷ z) (eqb_yes (and_l (eqb a b) (same_bytes x y) t)) (same_bytes-eq x y (and_r (eqb a b) (same_bytes x y) t))

pub same_bytes-refl : (x : List ℕ) → T (same_bytes x x)
same_bytes-refl [] = tt
same_bytes-refl (a ∷ x) = both (eqb a a) (same_bytes x x) (eqb_refl a) (same_bytes-refl x)

-- ---- tests over parts

module _ {A : Type 0} (p : A → Bool) where
  pub all_take : (k : ℕ) (l : List A) → T (all p l) → T (all p (take k l))
  all_take zero l t = tt
  all_take (suc k) [] t = tt
  all_take (suc k) (x ∷ l) t = both (p x) (all p (take k l)) (and_l (p x) (all p l) t) (all_take k l (and_r (p x) (all p l) t))

  pub all_drop : (k : ℕ) (l : List A) → T (all p l) → T (all p (drop k l))
  all_drop zero l t = t
  all_drop (suc k) [] t = tt
  all_drop (suc k) (x ∷ l) t = all_drop k l (and_r (p x) (all p l) t)

  -- a test of two lists joined
  pub all_both : (l m : List A) → all p (l ++ m) ≡ (all p l && all p m)
  all_both [] m = refl
  all_both (x ∷ l) m = ap (λ (t : Bool). p x && t) (all_both l m) ∙ sym (and_assoc (p x) (all p l) (all p m))

  pub all_append : (l m : List A) → T (all p l) → T (all p m) → T (all p (l ++ m))
  all_append l m s t = rw (all_both l m) (both (all p l) (all p m) s t)

  pub all_replicate : (n : ℕ) (x : A) → T (p x) → T (all p (replicate n x))
  all_replicate zero x t = tt
  all_replicate (suc n) x t = both (p x) (all p (replicate n x)) t (all_replicate n x t)

  pub all_get_d : (l : List A) (i : ℕ) (d : A) → i < length l → T (all p l) → T (p (get_or l i d))
  all_get_d [] i d h t = absurd (omega arith)
  all_get_d (x ∷ l) zero d h t = and_l (p x) (all p l) t
  all_get_d (x ∷ l) (suc i) d h t = all_get_d l i d (omega arith) (and_r (p x) (all p l) t)

pub all-implies : {A : Type 0} (p q : A → Bool) (l : List A) → ((x : A) → T (p x) → T (q x)) → T (all p l) → T (all q l)
all-implies p q [] f t = tt
all-implies p q (x ∷ l) f t = both (q x) (all q l) (f x (and_l (p x) (all p l) t)) (all-implies p q l f (and_r (p x) (all p l) t))

-- ---- zeros and fixed widths

pub all-zero-eq : (l : List ℕ) → T (all_zero l) → l ≡ replicate (length l) 0
all-zero-eq [] t = refl
all-zero-eq (x ∷ l) t = ap₂ (λ (a : ℕ) (r : List ℕ). a ∷ r) (eqb_yes (and_l (eqb x 0) (all_zero l) t)) (all-zero-eq l (and_r (eqb x 0) (all_zero l) t))

pub take-replicate : (m n : ℕ) → m ≤ n → take {A = ℕ} m (replicate n 0) ≡ replicate m 0
take-replicate zero n h = refl
take-replicate (suc m) zero h = absurd (omega arith)
take-replicate (suc m) (suc n) h = ap (λ (r : List ℕ). 0 ∷ r) (take-replicate m n (omega arith))

pub drop-replicate : (k n : ℕ) → drop {A = ℕ} k (replicate n 0) ≡ replicate (n - k) 0
drop-replicate zero n = ap (λ (m : ℕ). replicate {A = ℕ} m 0) (sym (sub-zero n))
drop-replicate (suc k) zero = ap (λ (m : ℕ). replicate {A = ℕ} m 0) (sym (zero-sub (suc k)))
drop-replicate (suc k) (suc n) = drop-replicate k n ∙ ap (λ (m : ℕ). replicate {A = ℕ} m 0) (sym (suc-sub-suc n k))

pub length-pad : (n : ℕ) (l : List ℕ) → length (pad n l) ≡ n
unfolding pad
length-pad n l = simp (length-take, length-append, length-replicate) (omega arith)

-- what is short enough stands at the front
pub pad-short : (n : ℕ) (l : List ℕ) → length l ≤ n → pad n l ≡ l ++ replicate (n - length l) 0
unfolding pad
pad-short n l h =
    let e : length l + (n - length l) ≡ n = omega arith in
    ap (λ (k : ℕ). take k (l ++ replicate n 0)) (sym e)
    ∙ take-append-add l (replicate n 0) (n - length l)
    ∙ ap (λ (r : List ℕ). l ++ r) (take-replicate (n - length l) n (omega arith))

pub pad-append : (n : ℕ) (l r : List ℕ) → length l ≤ n → pad n l ++ r ≡ l ++ (replicate (n - length l) 0 ++ r)
pad-append n l r h = rw (pad-short n l h) (append_assoc l (replicate (n - length l) 0) r)

-- a list of bytes
pub record Bytes (l : List ℕ) : Type 0 where
  pub bytes : T (all is_byte l)

pub bytes_one : {x : ℕ} → x < 256 → Bytes (x ∷ [])
unfolding is_byte
bytes_one {x} h = record { bytes = both (is_byte x) true (yes_ltb h) tt }

pub bytes-append : {l m : List ℕ} → Bytes l → Bytes m → Bytes (l ++ m)
bytes-append {l} {m} s t = record { bytes = all_append is_byte l m s.bytes t.bytes }

pub bytes-pad : (n : ℕ) {l : List ℕ} → Bytes l → Bytes (pad n l)
unfolding pad is_byte
bytes-pad n {l} t =
    record { bytes = all_take is_byte n (l ++ replicate n 0) (all_append is_byte l (replicate n 0) t.bytes (all_replicate is_byte n 0 tt)) }

-- ---- parts

pub length-between : (a e : ℕ) (l : List ℕ) → a ≤ e → e ≤ length l → length (between a e l) ≡ e - a
length-between a e l h k = length-take-le (e - a) (drop a l) (simp length-drop (omega arith))

pub between_join : (a c e : ℕ) (l : List ℕ) → a ≤ c → c ≤ e → between a c l ++ between c e l ≡ between a e l
between_join a c e l h k =
    let p : a + (c - a) ≡ c = omega arith in
    let q : c - a + (e - c) ≡ e - a = omega arith in
    ap (λ (r : List ℕ). between a c l ++ take (e - c) r) (ap (λ (n : ℕ). drop n l) (sym p) ∙ sym (drop-drop (c - a) a l))
    ∙ sym (take-add (c - a) (e - c) (drop a l))
    ∙ ap (λ (n : ℕ). take n (drop a l)) q

-- what stands from place i on: k members, then the others
pub drop-part : (i k : ℕ) (s : List ℕ) → drop i s ≡ between i (i + k) s ++ drop (i + k) s
drop-part i k s =
    let n : i + k - i ≡ k = omega arith in
    sym (take-append-drop k (drop i s))
    ∙ ap₂ (λ (l m : List ℕ). l ++ m) (ap (λ (j : ℕ). take j (drop i s)) (sym n)) (drop-drop k i s)

-- a test of a part, in two parts
pub all-parts : (p : ℕ → Bool) (a c e : ℕ) (l : List ℕ) → a ≤ c → c ≤ e → all p (between a e l) ≡ (all p (between a c l) && all p (between c e l))
all-parts p a c e l h k = ap (all p) (sym (between_join a c e l h k)) ∙ all_both p (between a c l) (between c e l)

pub between-all : (e : ℕ) (l : List ℕ) → length l ≡ e → between 0 e l ≡ l
between-all e l h = take_all (e - 0) l (omega arith)

pub between-one : (a : ℕ) (l : List ℕ) → a < length l → between a (suc a) l ≡ get_or l a 0 ∷ []
between-one a l h =
    let e : suc a - a ≡ 1 = omega arith in
    ap (λ (n : ℕ). take n (drop a l)) e ∙ ap (take 1) (drop-cons l a 0 h)

pub between_none : (a e : ℕ) (l : List ℕ) → e ≤ a → between a e l ≡ []
between_none a e l h = let z : e - a ≡ 0 = omega arith in ap (λ (n : ℕ). take n (drop a l)) z

pub between_cons : (a e : ℕ) (l : List ℕ) → a < e → e ≤ length l → between a e l ≡ get_or l a 0 ∷ between (suc a) e l
between_cons a e l h k =
    sym (between_join a (suc a) e l (omega arith) h)
    ∙ ap (λ (r : List ℕ). r ++ between (suc a) e l) (between-one a l (omega arith))

-- parts side by side
pub joins : {x y : List ℕ} (a c e : ℕ) (l : List ℕ) → a ≤ c → c ≤ e → x ≡ between a c l → y ≡ between c e l → x ++ y ≡ between a e l
joins a c e l h k p q = ap₂ (λ (u v : List ℕ). u ++ v) p q ∙ between_join a c e l h k

-- a part, and zeros up to e
pub pad-between : (a c e : ℕ) (l : List ℕ) → a ≤ c → c ≤ e → e ≤ length l → T (all_zero (between c e l)) → pad (e - a) (between a c l) ≡ between a e l
pad-between a c e l h k m t =
    let p : length (between a c l) ≡ c - a = length-between a c l h (omega arith) in
    let q : length (between c e l) ≡ e - c = length-between c e l k m in
    let z : e - a - (c - a) ≡ e - c = omega arith in
    pad-short (e - a) (between a c l) (omega arith)
    ∙ ap (λ (n : ℕ). between a c l ++ replicate n 0) (ap (λ (n : ℕ). e - a - n) p ∙ z ∙ sym q)
    ∙ ap (λ (r : List ℕ). between a c l ++ r) (sym (all-zero-eq (between c e l) t))
    ∙ between_join a c e l h k

-- what begins at a
pub get_d_front : (l : List ℕ) (a x : ℕ) (r : List ℕ) → drop a l ≡ x ∷ r → get_or l a 0 ≡ x
get_d_front [] zero x r e = let z : ◌≡◌ {A = ℕ} 0 1 = cc in absurd (omega arith)
get_d_front [] (suc a) x r e = let z : ◌≡◌ {A = ℕ} 0 1 = cc in absurd (omega arith)
get_d_front (y ∷ l) zero x r e = cc
get_d_front (y ∷ l) (suc a) x r e = get_d_front l a x r e

pub drop-next : (l : List ℕ) (a x : ℕ) (r : List ℕ) → drop a l ≡ x ∷ r → drop (suc a) l ≡ r
drop-next [] zero x r e = let z : ◌≡◌ {A = ℕ} 0 1 = cc in absurd (omega arith)
drop-next [] (suc a) x r e = let z : ◌≡◌ {A = ℕ} 0 1 = cc in absurd (omega arith)
drop-next (y ∷ l) zero x r e = cc
drop-next (y ∷ l) (suc a) x r e = drop-next l a x r e

-- zeros behind a part
pub zeros-behind : (b : List ℕ) (a k : ℕ) (l r : List ℕ) → drop a b ≡ l ++ (replicate k 0 ++ r)
    → (c e : ℕ) → c ≡ a + length l → e ≡ c + k → T (all_zero (between c e b))
zeros-behind b a k l r h c e p q =
    let n : e - c ≡ k = omega arith in
    rw (
      n,
      p,
      ← (drop-drop (length l) a b),
      h,
      drop_at l (replicate k 0 ++ r) (length l) refl,
      take_at (replicate k 0) r k (length-replicate k 0),
    )
    (all_replicate (λ x. eqb x 0) k 0 tt)

-- ---- ranges

module _ {A : Type 0} where
  pub length-range : (g : ℕ → A) (i n : ℕ) → length (range g i n) ≡ n
  length-range g i zero = refl
  length-range g i (suc n) = ap suc (length-range g (suc i) n)

  pub take_range : (g : ℕ → A) (k i n : ℕ) → k ≤ n → take k (range g i n) ≡ range g i k
  take_range g zero i n h = refl
  take_range g (suc k) i zero h = absurd (omega arith)
  take_range g (suc k) i (suc n) h = ap (λ (l : List A). g i ∷ l) (take_range g k (suc i) n (omega arith))

  -- the last of a range
  pub range_last : (g : ℕ → A) (i n : ℕ) → range g i (suc n) ≡ range g i n ++ (g (i + n) ∷ [])
  range_last g i zero = let e : i + 0 ≡ i = omega arith in rw e
  range_last g i (suc n) = let e : i + suc n ≡ suc i + n = omega arith in rw e (ap (λ (l : List A). g i ∷ l) (range_last g (suc i) n))

  -- a range in two parts
  pub range_split : (g : ℕ → A) (i k n : ℕ) → k ≤ n → range g i n ≡ range g i k ++ range g (i + k) (n - k)
  range_split g i zero n h =
      let x : i + 0 ≡ i = omega arith in
      let y : n - 0 ≡ n = omega arith in
      rw (x, y)
  range_split g i (suc k) zero h = absurd (omega arith)
  range_split g i (suc k) (suc n) h =
      let x : i + suc k ≡ suc i + k = omega arith in
      let y : suc n - suc k ≡ n - k = omega arith in
      rw (x, y) (ap (λ (l : List A). g i ∷ l) (range_split g (suc i) k n (omega arith)))

-- what is left of a list of images
pub drop-map : {A B : Type 0} (f : A → B) (n : ℕ) (l : List A) → drop n (map f l) ≡ map f (drop n l)
drop-map f zero l = refl
drop-map f (suc n) [] = refl
drop-map f (suc n) (x ∷ l) = drop-map f n l
