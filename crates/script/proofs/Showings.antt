-- Values as they stand at the end of a line.
use mathlib.Core.Path.{◌≡◌, refl, sym, ap, ◌∙◌}
use mathlib.Core.Bool.{Bool, true, false, not, ◌&&◌}
use mathlib.Core.List.{List, [], ◌∷◌, ◌++◌, append-nil}
use Prim.Native.Nat.{ℕ, ◌+◌, ◌-◌, ◌≤◌, ◌<◌}
use native.Mathlib.Omega.{arith}
use lib.ListN.{length, take, drop, get_or, length-drop, drop_of_length-le}
use lib.Seq.{take_all}
use lib.Dec.{T}
use mir.Facts.{T_not, ltb_yes, yes_ltb}
use borrow.Author.Tests.{not-false}
use Rattle.model.specs.Lists.{all}
use Rattle.model.specs.Value.{is_printable}
use Rattle.model.specs.Text.{signed}
use Rattle.model.specs.Script.{ScriptValue, group, measure, text}
use Rattle.scan.specs.Text.{begins}
use Rattle.scan.specs.Numbers.{SignedAt}
use Rattle.std.specs.Prelude.{Option, Some, None}
use Rattle.std.specs.List.{list_all}
use Rattle.scan.proofs.Goings.{no-empty, drop_here, drop-within, Here, begins-yes, begins-no}
use Rattle.scan.proofs.Signs.{signed-unique}
use Rattle.script.specs.Values.{Valued, ShownAt, ValueAt}
use Rattle.script.specs.declared.Value.{Value}
use Rattle.script.specs.declared.Value.TheVariants.{Group, Measure, Text}

-- ---- a value by its letter

-- a value is a letter, a tab and more
value-front : {l : List ℕ} (v : ScriptValue) → Valued l v → ((k : ℕ) (t : List ℕ) → l ≡ k ∷ 9 ∷ t → ⊥) → ⊥
value-front group s f = f 71 (45 ∷ []) s.same
value-front (measure m) s f = f 77 (signed m) s.same
value-front (text t) s f = f 84 t s.same

-- what a letter and what stands behind it say, by the value that they are
value-cases : {k : ℕ} {t : List ℕ} → (k ≡ 71 → t ≡ 45 ∷ [] → ⊥) → (k ≡ 77 → (m : ℕ) → m < 4294967296 → t ≡ signed m → ⊥)
    → (k ≡ 84 → T (all is_printable t) → ⊥) → (v : ScriptValue) → Valued (k ∷ 9 ∷ t) v → ⊥
value-cases f g h group s = f (cc s.same) (cc s.same)
value-cases f g h (measure m) s = g (cc s.same) m (ltb_yes s.ranges) (cc s.same)
value-cases {k} {t} f g h (text x) s = let e : t ≡ x = cc s.same in h (cc s.same) (rw e s.ranges)

-- the letter of a group with what is none
group-no : (t : List ℕ) → (t ≡ 45 ∷ [] → ⊥) → (v : ScriptValue) → Valued (71 ∷ 9 ∷ t) v → ⊥
group-no t f = value-cases (λ e. f) (λ e m h q. omega arith) (λ e p. omega arith)

-- ---- a group

module _ (l : List ℕ) (at : ℕ) {t : Bool} (e : t ≡ begins 45 (drop at l)) where
  -- no minus sign
  pub group-other : not t ≡ true → ShownAt 71 l at None
  group-other h = group-no (drop at l) (begins-no l at 45 e h [])

  module _ (h : not t ≡ false) where
    sign : Here l at 45
    sign = begins-yes l at 45 e h

    -- the line goes on behind it
    pub group-more : at + 1 < length l → ShownAt 71 l at None
    group-more k = group-no (drop at l) (λ q. no-empty (sym (drop-within l at 45 [] q).1 ∙ drop_here l (at + 1) k))

    -- the line ends with it
    pub group-found : length l ≤ at + 1 → ShownAt 71 l at (Some Group)
    group-found k = (
      omega arith,
      record {
        ranges = tt;
        same = ap (λ (r : List ℕ). 71 ∷ 9 ∷ r) (sign.is ∙ ap (λ (r : List ℕ). 45 ∷ r) (drop_of_length-le l {i = at + 1} k));
      },
    )

-- ---- a measure

-- what is no signed number is no measure
measure-no : (t : List ℕ) → ((m : ℕ) → m < 4294967296 → t ≡ signed m ++ [] → ⊥) → (v : ScriptValue) → Valued (77 ∷ 9 ∷ t) v → ⊥
measure-no t f = value-cases (λ e q. omega arith) (λ e m h q. f m h (q ∙ sym (append-nil (signed m)))) (λ e p. omega arith)

module _ (l : List ℕ) (at : ℕ) where
  -- no number
  pub measure-none : SignedAt l at None → ShownAt 77 l at None
  measure-none f = measure-no (drop at l) (λ m h. f m [] h tt)

  module _ {m next : ℕ} (there : SignedAt l at (Some (m, next))) where
    -- the number fits into a word
    pub measure-fits : m < 4294967296
    measure-fits = there.2

    -- the line goes on behind it
    pub measure-more : next < length l → ShownAt 77 l at None
    measure-more h =
        measure-no (drop at l) λ n k q.
        let u = signed-unique m n (drop next l) [] there.2 k there.3 tt (sym there.4 ∙ q) in
        no-empty (sym u.1 ∙ drop_here l next h)

    -- the line ends with it
    pub measure-found : length l ≤ next → ShownAt 77 l at (Some (Measure m))
    measure-found h =
        let q : drop at l ≡ signed m =
        there.4 ∙ ap (λ (r : List ℕ). signed m ++ r) (drop_of_length-le l {i = next} h) ∙ append-nil (signed m) in
        (omega arith, record { ranges = yes_ltb there.2; same = ap (λ (r : List ℕ). 77 ∷ 9 ∷ r) q })

-- ---- a text

-- the library's test of every byte is the model's
pub all-printable : (l : List ℕ) → list_all is_printable l ≡ all is_printable l
all-printable [] = refl
all-printable (x ∷ l) = ap (λ (t : Bool). is_printable x && t) (all-printable l)

-- the bytes of a line from a place on
pub line-rest : (l : List ℕ) (at : ℕ) → take (length l - at) (drop at l) ≡ drop at l
line-rest l at = take_all (length l - at) (drop at l) (omega (arith, length-drop at l))

module _ (l : List ℕ) (at : ℕ) {t : Bool} (e : t ≡ all is_printable (drop at l)) where
  -- a byte is not printable
  pub text-none : not t ≡ true → ShownAt 84 l at None
  text-none h =
      value-cases (λ q r. omega arith) (λ q m k r. omega arith) (λ q k. T_not (all is_printable (drop at l)) k (rw (← e, h) tt))

  -- the bytes are a text
  pub text-found : at ≤ length l → not t ≡ false → ShownAt 84 l at (Some (Text (length l - at)))
  text-found h k =
      let w : length l - (length l - at) ≡ at = omega arith in
      (omega arith, rw w (record { ranges = rw (← e, not-false t k) tt; same = refl }))

-- ---- a value

module _ (l : List ℕ) (at : ℕ) where
  -- the line has ended
  pub value-past : length l ≤ at → ValueAt l at None
  value-past h v s = value-front v s (λ k t q. no-empty (sym (drop_of_length-le l {i = at} h) ∙ q))

  module _ {t : Bool} (e : t ≡ begins 9 (drop (at + 1) l)) where
    -- no tab behind the letter
    pub value-untabbed : not t ≡ true → ValueAt l at None
    value-untabbed h v s = value-front v s (λ k t q. begins-no l (at + 1) 9 e h t (drop-within l at k (9 ∷ t) q).1)

    module _ (h : not t ≡ false) where
      -- the place behind the tab is within the line, or its end
      pub tab-within : at + 2 ≤ length l
      tab-within = omega (arith, (begins-yes l (at + 1) 9 e h).within)

      lettered : drop at l ≡ get_or l at 0 ∷ 9 ∷ drop (at + 2) l
      lettered =
          let w : at + 1 + 1 ≡ at + 2 = omega arith in
          drop_here l at (omega (arith, tab-within))
          ∙ ap (λ (r : List ℕ). get_or l at 0 ∷ r) ((begins-yes l (at + 1) 9 e h).is ∙ ap (λ (i : ℕ). 9 ∷ drop i l) w)

      -- what is read behind the letter k and the tab is read there
      pub value-shown : (k : ℕ) → get_or l at 0 ≡ k → (x : Option Value) → ShownAt k l (at + 2) x → ValueAt l at x
      value-shown k q (Some v) s = (s.0, rw (lettered, q) s.1)
      value-shown k q None s = λ v y. s v (rw (lettered, q) at y)

      -- no such letter
      pub value-other : (get_or l at 0 ≡ 71 → ⊥) → (get_or l at 0 ≡ 77 → ⊥) → (get_or l at 0 ≡ 84 → ⊥) → ValueAt l at None
      value-other f g j v s = value-cases (λ q k. f q) (λ q m k r. g q) (λ q k. j q) v (rw lettered at s)
