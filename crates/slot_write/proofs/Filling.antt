-- A slot laid out: fields filled member by member, and bytes written field by field.
use mathlib.Core.Path.{◌≡◌, refl, sym, ap, ap₂, ◌∙◌}
use mathlib.Core.List.{List, [], ◌∷◌, ◌++◌, map, map-append, append-nil, append_assoc}
use Prim.Native.Nat.{ℕ, suc, ◌+◌, ◌-◌, ◌*◌, ◌/◌, ◌%◌, ◌≤◌, ◌<◌}
use native.Mathlib.Omega.{arith}
use lib.ListN.{length, take, drop, get_or, set, replicate, replicate-append-replicate, length-append, length-set, length-replicate, length-map, drop_of_length-le}
use lib.Seq.{take_at, take-suc-set, drop-drop, drop-length, append_snoc, set_at}
use borrow.Rule.Slice.PartMut.{put_mid}
use Rattle.model.specs.Lists.{gather, range, pad}
use Rattle.model.specs.Path.{Step, steps_of}
use Rattle.model.specs.Value.{Content}
use Rattle.model.specs.Slot.{names_at, labels_at, kind_at, length_at, value_at, spare_at, slot_size, field, name_bytes, path_bytes, content_bytes, slot_bytes}
use Rattle.model.proofs.Lists.{length-range, range_last, length-pad, pad-short, drop-replicate}
use Rattle.model.proofs.Members.{gather_append}
use Rattle.model.proofs.Slots.{length-names}
use Rattle.path.specs.Steps.{lent_step}
use Rattle.path.proofs.Steps.{lent-range, length-steps}

-- ---- a field filled from its front

-- no byte is left where all are shifted out
pub cleared : (xs : List ℕ) {s : List ℕ} → s ≡ drop (length xs) xs ++ replicate (length xs) 0 → s ≡ replicate (length xs) 0
cleared xs e = e ∙ rw (drop-length xs)

pad-one : (x : ℕ) → pad 1 (x ∷ []) ≡ x ∷ []
unfolding pad
pad-one x = refl

pad-none : (n : ℕ) → replicate n 0 ≡ pad n []
pad-none n = let z : n - 0 ≡ n = omega arith in sym (pad-short n [] (omega arith) ∙ rw z)

-- a value written over the zeros of a field and of one behind it
pub value-padded : (m n : ℕ) (xs v : List ℕ) {z s : List ℕ} → length xs ≡ m + n → length v ≤ m → z ≡ replicate (length xs) 0
    → s ≡ v ++ drop (length v) z → s ≡ pad m v ++ pad n []
value-padded m n xs v l h e f =
    let k : m + n - length v ≡ m - length v + n = omega arith in
    f
    ∙ rw (e, l, drop-replicate (length v) (m + n), k, ← (pad-none n), pad-short m v h, append_assoc)
    (ap (λ (r : List ℕ). v ++ r) (sym (replicate-append-replicate {A = ℕ} (m - length v) n 0)))

-- one byte more
pad-set : (n : ℕ) (l : List ℕ) (i x : ℕ) → length l ≡ i → i < n → set (pad n l) i x ≡ pad n (l ++ (x ∷ []))
pad-set n l i x h k =
    let e : n - length l ≡ suc (n - suc i) = omega arith in
    let m : length (l ++ (x ∷ [])) ≡ suc i = simp length-append (omega arith) in
    let before : pad n l ≡ l ++ (0 ∷ replicate (n - suc i) 0) = pad-short n l (omega arith) ∙ rw e in
    ap (λ (r : List ℕ). set r i x) before
    ∙ set_at l 0 (replicate (n - suc i) 0) x i h
    ∙ sym (pad-short n (l ++ (x ∷ [])) (omega arith) ∙ rw (m, append_snoc))

-- ---- the steps of a lent path written one by one

steps-more : (p : List ℕ) (n : ℕ) → range (lent_step p) 0 (n + 1) ≡ range (lent_step p) 0 n ++ (lent_step p n ∷ [])
steps-more p n =
    let e : n + 1 ≡ suc n = omega arith in
    let z : 0 + n ≡ n = omega arith in
    ap (range (lent_step p) 0) e ∙ range_last (lent_step p) 0 n ∙ rw z

-- a field of n bytes holds what f gives for the first i steps of p, then zeros
pub record Laid (n : ℕ) (f : List Step → List ℕ) (p s : List ℕ) (i : ℕ) : Type 0 where
  pub within : i ≤ length p / 3
  pub is : s ≡ pad n (f (range (lent_step p) 0 i))
  pub size : length s ≡ n

-- a field of zeros holds no step
pub laid-start : (n : ℕ) (f : List Step → List ℕ) (p xs : List ℕ) {s : List ℕ} → f [] ≡ [] → length xs ≡ n → s ≡ replicate (length xs) 0 → Laid n f p s 0
laid-start n f p xs e l h =
    record {
      within = omega arith;
      is = h ∙ rw l (pad-none n ∙ ap (pad n) (sym e));
      size = ap length h ∙ length-replicate (length xs) 0 ∙ l;
    }

-- with as many steps as the path has, all
pub laid_end : {n : ℕ} {f : List Step → List ℕ} {p s : List ℕ} {i : ℕ} → Laid n f p s i → length p / 3 ≤ i → s ≡ pad n (f (steps_of p))
laid_end {p = p} {i = i} inv h = let e : i ≡ length p / 3 = omega (arith, inv.within) in inv.is ∙ rw (e, lent-range p)

-- the two bytes of the next name are written
pub names-next : {p s : List ℕ} {i : ℕ} → Laid 12 (gather name_bytes) p s i → length p ≤ 20 → i < length p / 3 → get_or p (3 * i) 0 < 256
    → Laid 12 (gather name_bytes) p (set (set s (2 * i) (get_or p (3 * i) 0)) (2 * i + 1) (get_or p (3 * i + 1) 0)) (i + 1)
names-next {p} {s} {i} inv few h byte =
    let lo : ℕ = get_or p (3 * i) 0 in
    let hi : ℕ = get_or p (3 * i + 1) 0 in
    let l : List ℕ = gather name_bytes (range (lent_step p) 0 i) in
    let m : length l ≡ 2 * i = length-names (range (lent_step p) 0 i) ∙ ap (λ (n : ℕ). 2 * n) (length-range (lent_step p) 0 i) in
    let low : (lo + 256 * hi) % 256 ≡ lo = omega arith in
    let high : (lo + 256 * hi) / 256 ≡ hi = omega arith in
    let m1 : length (l ++ (lo ∷ [])) ≡ 2 * i + 1 = simp length-append (omega arith) in
    let more : gather name_bytes (range (lent_step p) 0 (i + 1)) ≡ (l ++ (lo ∷ [])) ++ (hi ∷ []) =
    ap (gather name_bytes) (steps-more p i)
    ∙ gather_append name_bytes (range (lent_step p) 0 i) (lent_step p i ∷ [])
    ∙ ap₂ (λ (x y : ℕ). l ++ (x ∷ y ∷ [])) low high
    ∙ sym (append_assoc l (lo ∷ []) (hi ∷ [])) in
    record {
      within = omega arith;
      is =
          ap (λ (r : List ℕ). set (set r (2 * i) lo) (2 * i + 1) hi) inv.is
          ∙ ap (λ (r : List ℕ). set r (2 * i + 1) hi) (pad-set 12 l (2 * i) lo m (omega arith))
          ∙ pad-set 12 (l ++ (lo ∷ [])) (2 * i + 1) hi m1 (omega arith)
          ∙ ap (pad 12) (sym more);
      size = length-set (set s (2 * i) lo) (2 * i + 1) hi ∙ length-set s (2 * i) lo ∙ inv.size;
    }

-- the labels: one byte a step
abbrev pub labels : List Step → List ℕ
labels l = map (λ (a : Step). a.label) l

-- the next label is written
pub labels_next : {p s : List ℕ} {i : ℕ} → Laid 6 labels p s i → length p ≤ 20 → i < length p / 3 → Laid 6 labels p (set s i (get_or p (3 * i + 2) 0)) (i + 1)
labels_next {p} {s} {i} inv few h =
    let l : List ℕ = labels (range (lent_step p) 0 i) in
    let m : length l ≡ i = length-map (range (lent_step p) 0 i) (λ (a : Step). a.label) ∙ length-range (lent_step p) 0 i in
    let more : labels (range (lent_step p) 0 (i + 1)) ≡ l ++ (get_or p (3 * i + 2) 0 ∷ []) =
    ap labels (steps-more p i) ∙ map-append (λ (a : Step). a.label) (range (lent_step p) 0 i) (lent_step p i ∷ []) in
    record {
      within = omega arith;
      is = ap (λ (r : List ℕ). set r i (get_or p (3 * i + 2) 0)) inv.is ∙ pad-set 6 l i (get_or p (3 * i + 2) 0) m (omega arith) ∙ ap (pad 6) (sym more);
      size = length-set s i (get_or p (3 * i + 2) 0) ∙ inv.size;
    }

-- ---- a slot written field by field

-- what stands up to the end of a part that is written
front-put : (a k : ℕ) (s f : List ℕ) → length (take a s) ≡ a → length f ≡ k → take (a + k) (put_mid a k s f) ≡ take a s ++ f
front-put a k s f h l = rw (← (append_assoc (take a s) f (drop k (drop a s)))) (take_at (take a s ++ f) (drop k (drop a s)) (a + k) (simp length-append (omega arith)))

-- the content's fields, one after another
regroup : (front v s : List ℕ) (k n : ℕ) → ((front ++ (k ∷ [])) ++ (n ∷ [])) ++ (v ++ s) ≡ front ++ (pad 1 (k ∷ []) ++ pad 1 (n ∷ []) ++ v ++ s)
regroup front v s k n = rw (pad-one k, pad-one n) (simp append_assoc)

module _ (xs : List ℕ) (size : length xs ≡ slot_size) where
  -- the kind, the value's length and the value, behind the path
  pub content-written : (k : ℕ) (v : List ℕ) {y : List ℕ} → y ≡ field value_at spare_at v ++ field spare_at slot_size []
      → put_mid value_at (slot_size - value_at) (set (set xs kind_at k) length_at (length v)) y ≡ take kind_at xs ++ content_bytes (record { kind = k; value = v })
  unfolding content_bytes
  content-written k v {y} e =
      let s : List ℕ = set (set xs kind_at k) length_at (length v) in
      let l : length (set xs kind_at k) ≡ slot_size = length-set xs kind_at k ∙ size in
      let m : length s ≡ slot_size = length-set (set xs kind_at k) length_at (length v) ∙ l in
      let front : take value_at s ≡ (take kind_at xs ++ (k ∷ [])) ++ (length v ∷ []) =
      take-suc-set (set xs kind_at k) length_at (length v) (omega arith) ∙ ap (λ (r : List ℕ). r ++ (length v ∷ [])) (take-suc-set xs kind_at k (omega arith)) in
      ap₂ (λ (r t : List ℕ). r ++ (y ++ t)) front (drop-drop 19 value_at s ∙ drop_of_length-le s {i = slot_size} (omega arith))
      ∙ rw (append-nil y, e) (regroup (take kind_at xs) (pad 16 v) (pad 3 []) k (length v))

  -- the depth, the names and the labels, and the content behind them
  pub slot-written : (p : List ℕ) (c : Content) {x y z : List ℕ} → x ≡ field names_at labels_at (gather name_bytes (steps_of p))
      → y ≡ field labels_at kind_at (labels (steps_of p))
      → z ≡ take kind_at (put_mid labels_at (kind_at - labels_at) (put_mid names_at (labels_at - names_at) (set xs 0 (length p / 3)) x) y) ++ content_bytes c
      → z ≡ slot_bytes (record { path = steps_of p; content = c })
  unfolding slot_bytes path_bytes
  slot-written p c {x} {y} e f g =
      let s : List ℕ = set xs 0 (length p / 3) in
      let d : take 1 s ≡ length p / 3 ∷ [] = take-suc-set xs 0 (length p / 3) (omega arith) in
      let n : length x ≡ 12 = ap length e ∙ length-pad 12 (gather name_bytes (steps_of p)) in
      let m : length y ≡ 6 = ap length f ∙ length-pad 6 (labels (steps_of p)) in
      let names : take labels_at (put_mid names_at 12 s x) ≡ length p / 3 ∷ x = front-put names_at 12 s x (ap length d) n ∙ ap (λ (r : List ℕ). r ++ x) d in
      g
      ∙ ap (λ (r : List ℕ). r ++ content_bytes c)
      (front-put labels_at 6 (put_mid names_at 12 s x) y (ap length names ∙ ap suc n) m ∙ ap (λ (r : List ℕ). r ++ y) names)
      ∙ rw (pad-one (length (steps_of p)), length-steps p, e, f)
