-- The steps of a path, walked one by one: a lent path as a range, ascending labels by the label before, and keys as numbers.
use mathlib.Core.Path.{◌≡◌, refl, sym, ap, ap₂, ◌∙◌}
use mathlib.Core.Logic.{◌≢◌}
use mathlib.Core.Bool.{Bool, true, false, ◌&&◌}
use mathlib.Core.Option.{some}
use mathlib.Core.List.{List, [], ◌∷◌}
use Prim.Native.Nat.{ℕ, zero, suc, ◌+◌, ◌-◌, ◌*◌, ◌/◌, ◌%◌, ◌≤◌, ◌<◌}
use native.Mathlib.Omega.{arith}
use native.Mathlib.Decide.{dec_lt}
use borrow.Author.Tests.{le-leb, lt-leb, eq-eqb, ne_eqb, lt-ltb, le-ltb}
use lib.ListN.{length, get_or, drop}
use lib.Dec.{T, eqb, ltb}
use mir.Facts.{eqb_yes, ltb_yes, leb_yes}
use Rattle.model.specs.Lists.{all, range, is_byte}
use Rattle.model.specs.Sets.{precedes}
use Rattle.model.specs.Label.{is_label, dominates}
use Rattle.model.specs.Path.{Step, same_step, parent, last_step, ends_in, valid_step, valid_path, labels_ascend, steps_of}
use Rattle.model.specs.Rows.{good_path}
use Rattle.model.proofs.Bools.{and_l, and_r, both, same_test}
use Rattle.model.proofs.Lists.{length-range, get_d_front, drop-next}
use Rattle.model.proofs.Dominance.{dominates-upper, bottom-label}
use Rattle.model.proofs.Paths.{Keyed}
use Rattle.model.proofs.Walks.{rest, rest_more, rest_end}
use Rattle.path.specs.Steps.{step_with, step_of, lent_step, may_follow, all_follow, word_from, in_digits, KeyOf}

-- ---- a lent path as a range

-- the steps of what is left of the bytes from step i on
steps-from : (b q : List ℕ) (i : ℕ) → drop (3 * i) b ≡ q → steps_of q ≡ range (lent_step b) i (length q / 3)
steps-from b [] i e = refl
steps-from b (x ∷ []) i e = refl
steps-from b (x ∷ y ∷ []) i e = refl
steps-from b (x ∷ y ∷ z ∷ q) i e =
    let n : length (x ∷ y ∷ z ∷ q) / 3 ≡ suc (length q / 3) = omega arith in
    let e1 : drop (suc (3 * i)) b ≡ y ∷ z ∷ q = drop-next b (3 * i) x (y ∷ z ∷ q) e in
    let e2 : drop (suc (suc (3 * i))) b ≡ z ∷ q = drop-next b (suc (3 * i)) y (z ∷ q) e1 in
    let e3 : drop (suc (suc (suc (3 * i)))) b ≡ q = drop-next b (suc (suc (3 * i))) z q e2 in
    let s1 : suc (3 * i) ≡ 3 * i + 1 = omega arith in
    let s2 : suc (suc (3 * i)) ≡ 3 * i + 2 = omega arith in
    let s3 : suc (suc (suc (3 * i))) ≡ 3 * suc i = omega arith in
    let gx : get_or b (3 * i) 0 ≡ x = get_d_front b (3 * i) x (y ∷ z ∷ q) e in
    let gy : get_or b (3 * i + 1) 0 ≡ y = get_d_front b (3 * i + 1) y (z ∷ q) (rw s1 at e1) in
    let gz : get_or b (3 * i + 2) 0 ≡ z = get_d_front b (3 * i + 2) z q (rw s2 at e2) in
    rw (n, gx, gy, gz) (ap (λ (r : List Step). step_of x y z ∷ r) (steps-from b q (suc i) (rw s3 at e3)))

pub lent-range : (b : List ℕ) → steps_of b ≡ range (lent_step b) 0 (length b / 3)
lent-range b = steps-from b b 0 refl

pub length-steps : (b : List ℕ) → length (steps_of b) ≡ length b / 3
length-steps b = ap length (lent-range b) ∙ length-range (lent_step b) 0 (length b / 3)

-- less than three bytes are no step
pub root-steps : (b : List ℕ) → length b < 3 → steps_of b ≡ []
root-steps b h = none (steps_of b) (length-steps b)
  where
    none : (p : List Step) → length p ≡ length b / 3 → p ≡ []
    none [] e = refl
    none (a ∷ p) e = absurd (omega arith)

-- ---- ascending labels, by the label before

-- labels ascend behind a step: each may follow the one before
follow-behind : (a : Step) (p : List Step) → T (is_label a.label) → (all valid_step p && labels_ascend (a ∷ p)) ≡ all_follow a.label p
unfolding may_follow
follow-behind a [] t = refl
follow-behind a (b ∷ p) t =
    same_test (all valid_step (b ∷ p) && labels_ascend (a ∷ b ∷ p)) (all_follow a.label (b ∷ p))
    (λ (h : T (all valid_step (b ∷ p) && labels_ascend (a ∷ b ∷ p))).
    let v : T (valid_step b) = search (and_l, and_r) in
    let d : T (dominates b.label a.label) = search (and_l, and_r) in
    let vs : T (all valid_step p) = search (and_l, and_r) in
    let ls : T (labels_ascend (b ∷ p)) = search (and_l, and_r) in
    both (valid_step b && dominates b.label a.label) (all_follow b.label p) (both (valid_step b) (dominates b.label a.label) v d)
    (rw (follow-behind b p (dominates-upper b.label a.label d)) at (both (all valid_step p) (labels_ascend (b ∷ p)) vs ls)))
    (λ (h : T (all_follow a.label (b ∷ p))).
    let v : T (valid_step b) = search (and_l, and_r) in
    let d : T (dominates b.label a.label) = search (and_l, and_r) in
    let f : T (all_follow b.label p) = search (and_l, and_r) in
    let r : T (all valid_step p && labels_ascend (b ∷ p)) = rw (follow-behind b p (dominates-upper b.label a.label d)) f in
    both (valid_step b && all valid_step p) (dominates b.label a.label && labels_ascend (b ∷ p))
    (both (valid_step b) (all valid_step p) v (and_l (all valid_step p) (labels_ascend (b ∷ p)) r))
    (both (dominates b.label a.label) (labels_ascend (b ∷ p)) d (and_r (all valid_step p) (labels_ascend (b ∷ p)) r)))

-- label 0 is dominated by every label, so it may stand before the first step
pub follow-all : (p : List Step) → (all valid_step p && labels_ascend p) ≡ all_follow 0 p
unfolding may_follow valid_step
follow-all [] = refl
follow-all (a ∷ p) =
    same_test (all valid_step (a ∷ p) && labels_ascend (a ∷ p)) (all_follow 0 (a ∷ p))
    (λ (h : T (all valid_step (a ∷ p) && labels_ascend (a ∷ p))).
    let v : T (valid_step a) = search (and_l, and_r) in
    let l : T (is_label a.label) = search (and_l, and_r) in
    let vs : T (all valid_step p) = search (and_l, and_r) in
    let ls : T (labels_ascend (a ∷ p)) = search (and_l, and_r) in
    both (valid_step a && dominates a.label 0) (all_follow a.label p) (both (valid_step a) (dominates a.label 0) v (bottom-label a.label l))
    (rw (follow-behind a p l) at (both (all valid_step p) (labels_ascend (a ∷ p)) vs ls)))
    (λ (h : T (all_follow 0 (a ∷ p))).
    let v : T (valid_step a) = search (and_l, and_r) in
    let l : T (is_label a.label) = search (and_l, and_r) in
    let f : T (all_follow a.label p) = search (and_l, and_r) in
    let r : T (all valid_step p && labels_ascend (a ∷ p)) = rw (follow-behind a p l) f in
    both (valid_step a && all valid_step p) (labels_ascend (a ∷ p))
    (both (valid_step a) (all valid_step p) v (and_l (all valid_step p) (labels_ascend (a ∷ p)) r))
    (and_r (all valid_step p) (labels_ascend (a ∷ p)) r))

-- a step with no name may follow none
pub no_name : (b lo hi l : ℕ) → lo ≡ 0 → hi ≡ 0 → false ≡ may_follow b (step_of lo hi l)
unfolding may_follow valid_step
no_name b lo hi l e f = let h : lo + 256 * hi < 1 = omega arith in rw (lt-leb 1 (lo + 256 * hi) h)

-- with one, dominance decides
pub some-name : (b lo hi l : ℕ) {r : Bool} → r ≡ dominates l b → 1 ≤ lo + 256 * hi → lo < 256 → hi < 256 → r ≡ may_follow b (step_of lo hi l)
unfolding may_follow valid_step
some-name b lo hi l {r} e h x y =
    let k : lo + 256 * hi ≤ 65535 = omega arith in
    e ∙ rw (le-leb 1 (lo + 256 * hi) h, le-leb (lo + 256 * hi) 65535 k) (label-too (is_label l) (dominates l b) (dominates-upper l b))
  where
    label-too : (a d : Bool) → (T d → T a) → d ≡ (a && d)
    label-too true d f = refl
    label-too false true f = absurd (f tt)
    label-too false false f = refl

-- ---- a loop over steps that may follow each other

-- w says whether the steps follow; l is the label of the step before step i
pub record Following (g : ℕ → Step) (w : Bool) (c l i : ℕ) : Type 0 where
  pub within : i ≤ c
  pub same : w ≡ all_follow l (rest g c i)

pub follow-start : (g : ℕ → Step) (c : ℕ) → Following g (all_follow 0 (range g 0 c)) c 0 0
follow-start g c = record { within = omega arith; same = let e : c - 0 ≡ c = omega arith in rw e }

module _ {g : ℕ → Step} {w : Bool} {c l i : ℕ} (inv : Following g w c l i) where
  pub follow-end : c ≤ i → true ≡ w
  follow-end h = sym (inv.same ∙ ap (all_follow l) (rest_end g c i h))

  module _ {r : Bool} (h : i < c) (e : r ≡ may_follow l (g i)) where
    follow-here : w ≡ (r && all_follow (g i).label (rest g c (i + 1)))
    follow-here = inv.same ∙ ap (all_follow l) (rest_more g c i h) ∙ rw e

    pub follow-fails : r ≡ false → false ≡ w
    follow-fails t = sym (follow-here ∙ ap (λ (x : Bool). x && all_follow (g i).label (rest g c (i + 1))) t)

    pub follow-next : r ≡ true → {k : ℕ} → k ≡ (g i).label → Following g w c k (i + 1)
    follow-next t {k} f =
        record {
          within = omega arith;
          same = follow-here ∙ ap₂ (λ (x : Bool) (n : ℕ). x && all_follow n (rest g c (i + 1))) t (sym f);
        }

-- ---- keys as numbers

-- digits behind the first number are digits behind the second
digits-behind : (l : List ℕ) → T (all is_byte l) → T (in_digits l)
digits-behind [] t = tt
digits-behind (d ∷ l) t = and_r (is_byte d) (all is_byte l) t

-- of numbers with as many digits behind them, the lesser stays the lesser
word-less : (v w : ℕ) (x y : List ℕ) → length x ≡ length y → T (all is_byte x) → v < w → word_from v x < word_from w y
unfolding is_byte
word-less v w [] [] l t h = h
word-less v w [] (e ∷ y) l t h = absurd (omega arith)
word-less v w (d ∷ x) [] l t h = absurd (omega arith)
word-less v w (d ∷ x) (e ∷ y) l t h =
    let b : d < 256 = ltb_yes (and_l (is_byte d) (all is_byte x) t) in
    word-less (256 * v + d) (256 * w + e) x y (omega arith) (and_r (is_byte d) (all is_byte x) t) (omega arith)

-- so lists of one length are ordered as the numbers of their digits
lists-before : (w : ℕ) (x y : List ℕ) → length x ≡ length y → T (in_digits x) → T (in_digits y) → precedes x y ≡ ltb (word_from w x) (word_from w y)
lists-before w [] [] l s t = sym (le-ltb w w (omega arith))
lists-before w [] (e ∷ y) l s t = absurd (omega arith)
lists-before w (d ∷ x) [] l s t = absurd (omega arith)
lists-before w (d ∷ x) (e ∷ y) l s t = go (lists-before (256 * w + d) x y m (digits-behind x s) (digits-behind y t))
  where
    m : length x ≡ length y
    m = omega arith

    go : precedes x y ≡ ltb (word_from (256 * w + d) x) (word_from (256 * w + d) y)
        → precedes (d ∷ x) (e ∷ y) ≡ ltb (word_from (256 * w + d) x) (word_from (256 * w + e) y)
    go f = elim (dec_lt d e) [
      | yes h ↦
          let k : word_from (256 * w + d) x < word_from (256 * w + e) y = word-less (256 * w + d) (256 * w + e) x y m s (omega arith) in
          rw (lt-ltb d e h) (sym (lt-ltb _ _ k))
      | no h ↦ elim (dec_lt e d) [
        | yes i ↦
            let k : word_from (256 * w + e) y < word_from (256 * w + d) x = word-less (256 * w + e) (256 * w + d) y x (sym m) t (omega arith) in
            let n : word_from (256 * w + e) y ≤ word_from (256 * w + d) x = omega arith in
            let o : e ≤ d = omega arith in
            let q : d ≢ e = λ z. omega arith in
            rw (le-ltb d e o, ne_eqb d e q) (sym (le-ltb _ _ n))
        | no i ↦
            let o : e ≤ d = omega arith in
            let q : d ≡ e = omega arith in
            rw (le-ltb d e o, eq-eqb d e q) (f ∙ ap (λ (z : ℕ). ltb (word_from (256 * w + d) x) (word_from (256 * w + z) y)) q)
      ]
    ]

-- so two steps are ordered as their keys
pub word-before : {k : Step → List ℕ} → Keyed k → (a b : Step) {v w : ℕ} → KeyOf k a v → KeyOf k b w → precedes (k a) (k b) ≡ ltb v w
word-before {k} good a b x y = lists-before 0 (k a) (k b) (good.width a b) x.digits y.digits ∙ ap₂ ltb (sym x.word) (sym y.word)

-- the key of a step whose name and label were read
pub key-of : {k : Step → List ℕ} (a : Step) {n l w : ℕ} → n ≡ a.name → l ≡ a.label → KeyOf k (step_with n l) w → KeyOf k a w
key-of a name label x = rw (← name, ← label) x

-- two steps whose names were read: they differ where the names do
module _ (a b : Step) {m n : ℕ} (e : m ≡ a.name) (f : n ≡ b.name) where
  pub names-differ : m ≢ n → false ≡ same_step a b
  unfolding same_step
  names-differ d = let q : eqb a.name b.name ≡ false = rw (← e, ← f) (ne_eqb m n d) in rw q

  -- else the labels decide
  pub labels-decide : m ≡ n → {k l : ℕ} → k ≡ a.label → l ≡ b.label → eqb k l ≡ same_step a b
  unfolding same_step
  labels-decide s g h = let q : eqb a.name b.name ≡ true = rw (← e, ← f) (eq-eqb m n s) in ap₂ eqb g h ∙ rw q

-- ---- a lent path

pub lent-start : (b : List ℕ) → Following (lent_step b) (all_follow 0 (steps_of b)) (length b / 3) 0 0
lent-start b = rw (lent-range b) (follow-start (lent_step b) (length b / 3))

-- a path of one to six steps is good if they follow
module _ (p : List ℕ) where
  pub odd-path : (length p % 3 ≡ 0 → ⊥) → false ≡ good_path p
  unfolding good_path
  odd-path h = rw (ne_eqb (length p % 3) 0 h)

  module _ (whole : length p % 3 ≡ 0) where
    pub short-path : length p < 3 → false ≡ good_path p
    unfolding good_path valid_path
    short-path h =
        let n : length (steps_of p) < 1 = rw (length-steps p) (omega arith) in
        rw (eq-eqb (length p % 3) 0 whole, lt-leb 1 (length (steps_of p)) n)

    pub long_path : 18 < length p → false ≡ good_path p
    unfolding good_path valid_path
    long_path h =
        let n : 1 ≤ length (steps_of p) = rw (length-steps p) (omega arith) in
        let m : 6 < length (steps_of p) = rw (length-steps p) (omega arith) in
        rw (eq-eqb (length p % 3) 0 whole, le-leb 1 (length (steps_of p)) n, lt-leb (length (steps_of p)) 6 m)

    pub fit-path : 3 ≤ length p → length p ≤ 18 → {r : Bool} → r ≡ all_follow 0 (steps_of p) → r ≡ good_path p
    unfolding good_path valid_path
    fit-path h k e =
        let n : 1 ≤ length (steps_of p) = rw (length-steps p) (omega arith) in
        let m : length (steps_of p) ≤ 6 = rw (length-steps p) (omega arith) in
        e ∙ sym (follow-all (steps_of p)) ∙ rw (eq-eqb (length p % 3) 0 whole, le-leb 1 (length (steps_of p)) n, le-leb (length (steps_of p)) 6 m)

-- what a good path has
pub record Good (p : List ℕ) : Type 0 where
  pub whole : length p % 3 ≡ 0
  pub some : 3 ≤ length p
  pub few : length p ≤ 18

pub good-path : (p : List ℕ) → T (good_path p) → Good p
unfolding good_path valid_path
good-path p t =
    let e : length (steps_of p) ≡ length p / 3 = length-steps p in
    let w : length p % 3 ≡ 0 = eqb_yes (search (and_l, and_r)) in
    let n : 1 ≤ length (steps_of p) = leb_yes (search (and_l, and_r)) in
    let m : length (steps_of p) ≤ 6 = leb_yes (search (and_l, and_r)) in
    record { whole = w; some = omega arith; few = omega arith }

-- the last step of a range
pub last-range : (g : ℕ → Step) (i c : ℕ) → last_step (range g i (suc c)) ≡ some (g (i + c))
last-range g i zero = let e : i + zero ≡ i = omega arith in rw e
last-range g i (suc c) = let e : i + suc c ≡ suc i + c = omega arith in rw e (last-range g (suc i) c)

pub parent-range : (g : ℕ → Step) (i c : ℕ) → parent (range g i (suc c)) ≡ range g i c
parent-range g i zero = refl
parent-range g i (suc c) = ap (λ (p : List Step). g i ∷ p) (parent-range g (suc i) c)

-- so a range of steps ends in the label of its last
pub ends-range : (g : ℕ → Step) (c n : ℕ) {l : ℕ} → 1 ≤ c → l ≡ (g (c - 1)).label → ends_in n (range g 0 c) ≡ eqb l n
ends-range g c n {l} h e = go (c - 1) (omega arith) e
  where
    go : (j : ℕ) → c ≡ suc j → l ≡ (g j).label → ends_in n (range g 0 c) ≡ eqb l n
    go j q f = let z : 0 + j ≡ j = omega arith in rw (q, last-range g 0 j, z) (ap (λ (k : ℕ). eqb k n) (sym f))

-- the last byte of a path is its last label
pub last-label : (p : List ℕ) (n : ℕ) → Good p → eqb (get_or p (length p - 1) 0) n ≡ ends_in n (steps_of p)
last-label p n h = go (length p / 3 - 1) (omega (arith, h.some)) (omega (arith, h.some, h.whole))
  where
    go : (j : ℕ) → length p / 3 ≡ suc j → length p - 1 ≡ 3 * (0 + j) + 2 → eqb (get_or p (length p - 1) 0) n ≡ ends_in n (steps_of p)
    go j e f = rw (f, lent-range p, e, last-range (lent_step p) 0 j)
