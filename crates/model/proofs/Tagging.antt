-- Start tags and values are read in one way: where two texts that begin with them are the same, so are they and what follows them.
use mathlib.Core.Path.{◌≡◌, refl, sym, ap, ap₂, ◌∙◌}
use mathlib.Core.Bool.{Bool, true, false, not, cond}
use mathlib.Core.Option.{Option, none, some}
use mathlib.Core.List.{List, [], ◌∷◌, ◌++◌, append_assoc}
use Prim.Native.Nat.{ℕ, zero, suc, ◌+◌, ◌*◌, ◌/◌, ◌%◌, ◌<◌}
use native.Mathlib.Omega.{arith}
use lib.ListN.{length, drop, get_or}
use lib.Dec.{T, eqb}
use mir.Facts.{eqb_yes, ltb_yes}
use Rattle.model.specs.Lists.{all, gather, is_byte}
use Rattle.model.specs.Path.{Step}
use Rattle.model.specs.Value.{Content, allowed, bringable}
use Rattle.model.specs.Text.{ascii, decimal, is_digit, measure_of, signed}
use Rattle.model.specs.View.{letter}
use Rattle.model.specs.Xml.{escaped, preserve, kind_letter, start_tag, value_xml, content_xml}
use Rattle.model.specs.Intake.{may_show}
use Rattle.model.proofs.Bools.{and_l, and_r, cond_no, is_true}
use Rattle.model.proofs.Decimal.{decimal-digits, decimal_injective, signed_value, signed-value}
use Rattle.model.proofs.Trees.{leads, parts-apart}
use Rattle.model.proofs.Balance.{untagged, escaped-fact, content-untagged}

-- ---- numbers

-- no digit is next
abbrev pub no_digit : List ℕ → Bool
no_digit [] = true
no_digit (x ∷ l) = not (is_digit x)

-- so no digit leads
unled : (x : List ℕ) → T (no_digit x) → T (not (leads is_digit x))
unled [] t = tt
unled (a ∷ x) t = t

-- digits that no digit follows are determined
pub number-unique : (m n : ℕ) (x y : List ℕ) → T (no_digit x) → T (no_digit y) → decimal m ++ x ≡ decimal n ++ y → (m ≡ n) × (x ≡ y)
number-unique m n x y s t e =
    let u = parts-apart is_digit (decimal m) (decimal n) x y (decimal-digits m) (decimal-digits n) (unled x s) (unled y t) e in
    (decimal_injective m n u.0, u.1)

-- ---- start tags

-- the kind that a tag shows; a removed element has none
abbrev pub kind_of : Option Content → Option ℕ
kind_of none = none
kind_of (some c) = some c.kind

-- a content of that kind
abbrev pub shape : Option ℕ → Option Content
shape none = none
shape (some k) = some (record { kind = k; value = [] })

-- only its kind matters to a tag
pub same_shape : (a : Step) (c : Option Content) → start_tag a c ≡ start_tag a (shape (kind_of c))
unfolding start_tag
same_shape a none = refl
same_shape a (some c) = refl

-- what a start tag says of the content, and what follows the tag
abbrev marks : Option Content → List ℕ → List ℕ
marks c r = preserve c ++ (ascii "\" kind=\"" ++ (kind_letter c ++ (ascii "\">" ++ r)))

-- a start tag from the label on
abbrev labelled : ℕ → Option Content → List ℕ → List ℕ
labelled l c r = ascii " label=\"" ++ (decimal l ++ (ascii "\" preserve=\"" ++ marks c r))

-- the parts of a start tag, joined one behind the other
parts-flat : (s n t l q u p w k z r : List ℕ) → (s ++ (n ++ ((t ++ (l ++ q)) ++ ((u ++ (p ++ q)) ++ ((w ++ (k ++ q)) ++ z))))) ++ r
    ≡ s ++ (n ++ (t ++ (l ++ (q ++ (u ++ (p ++ (q ++ (w ++ (k ++ (q ++ (z ++ r)))))))))))
parts-flat s n t l q u p w k z r = simp append_assoc

-- a start tag and what follows it
pub start-text : (a : Step) (c : Option Content) (r : List ℕ) → start_tag a c ++ r ≡ ascii "<e" ++ (decimal a.name ++ labelled a.label c r)
unfolding start_tag
start-text a c r =
    parts-flat (ascii "<e") (decimal a.name) (ascii " label=\"") (decimal a.label) (ascii "\"") (ascii " preserve=\"") (preserve c) (ascii " kind=\"") (kind_letter c) (ascii ">") r

-- the kind that a letter stands for
abbrev letter_kind : ℕ → Option ℕ
letter_kind x = cond (eqb x 45) none (some (cond (eqb x 71) 0 (cond (eqb x 77) 1 2)))

-- a live element's letter tells its kind, and the marks of all are equally long
live-marks : (k : ℕ) (v r : List ℕ) → T (allowed k v)
    → (letter_kind (get_or (marks (some (record { kind = k; value = v })) r) 15 0) ≡ some k) × (drop 18 (marks (some (record { kind = k; value = v })) r) ≡ r)
unfolding allowed letter
live-marks zero v r t = (refl, refl)
live-marks (suc zero) v r t = (refl, refl)
live-marks (suc (suc zero)) v r t = (refl, refl)
live-marks (suc (suc (suc k))) v r t = absurd t

-- and so for every element
marks-read : (c : Option Content) (r : List ℕ) → T (may_show c) → (letter_kind (get_or (marks c r) 15 0) ≡ kind_of c) × (drop 18 (marks c r) ≡ r)
unfolding bringable
marks-read none r t = (refl, refl)
marks-read (some c) r t = live-marks c.kind c.value r t

-- of two texts that are the same, the start tags and what follows are the same
pub tag-unique : (a b : Step) (c e : Option Content) (x y : List ℕ) → T (may_show c) → T (may_show e) → start_tag a c ++ x ≡ start_tag b e ++ y
    → (a ≡ b) × (kind_of c ≡ kind_of e) × (x ≡ y)
unfolding is_digit
tag-unique a b c e x y s t h =
    let n = number-unique a.name b.name (labelled a.label c x) (labelled b.label e y) tt tt
    (ap (drop 2) (sym (start-text a c x) ∙ h ∙ start-text b e y)) in
    let l = number-unique a.label b.label (ascii "\" preserve=\"" ++ marks c x) (ascii "\" preserve=\"" ++ marks e y) tt tt (ap (drop 8) n.1) in
    let m : marks c x ≡ marks e y = ap (drop 12) l.1 in
    let p = marks-read c x s in
    let q = marks-read e y t in (
      λ i. record { name = n.0 i; label = l.0 i },
      sym p.0 ∙ ap (λ (r : List ℕ). letter_kind (get_or r 15 0)) m ∙ q.0,
      sym p.1 ∙ ap (drop 18) m ∙ q.1,
    )

-- ---- measures

-- a number's lowest byte, and the others as a number
low_byte : (a n : ℕ) → a < 256 → ((a + 256 * n) % 256 ≡ a) × ((a + 256 * n) / 256 ≡ n)
low_byte a n h = (omega arith, omega arith)

-- a number of 32 bits as four bytes, lowest first
abbrev pub bytes_of : ℕ → List ℕ
bytes_of n = n % 256 ∷ n / 256 % 256 ∷ n / 256 / 256 % 256 ∷ n / 256 / 256 / 256 ∷ []

-- a measure is read back
pub measure-back : (v : List ℕ) → length v ≡ 4 → T (all is_byte v) → (bytes_of (measure_of v) ≡ v) × (measure_of v < 4294967296)
unfolding is_byte measure_of
measure-back [] h t = absurd (omega arith)
measure-back (a ∷ []) h t = absurd (omega arith)
measure-back (a ∷ b ∷ []) h t = absurd (omega arith)
measure-back (a ∷ b ∷ c ∷ []) h t = absurd (omega arith)
measure-back (a ∷ b ∷ c ∷ d ∷ []) h t =
    let u : a < 256 = ltb_yes (search and_l) in
    let v : b < 256 = ltb_yes (search (and_l, and_r)) in
    let w : c < 256 = ltb_yes (search (and_l, and_r)) in
    let z : d < 256 = ltb_yes (search (and_l, and_r)) in
    let n : a + 256 * b + 65536 * c + 16777216 * d ≡ a + 256 * (b + 256 * (c + 256 * d)) = omega arith in
    let p = low_byte a (b + 256 * (c + 256 * d)) u in
    let q = low_byte b (c + 256 * d) v in
    let r = low_byte c d w in
    (rw (n, p.0, p.1, q.0, q.1, r.0, r.1), omega arith)
measure-back (a ∷ b ∷ c ∷ d ∷ e ∷ v) h t = absurd (omega arith)

-- so equal measures are the same bytes
measure-same : (v w : List ℕ) → T (allowed 1 v) → T (allowed 1 w) → signed (measure_of v) ≡ signed (measure_of w) → v ≡ w
unfolding allowed
measure-same v w s t e =
    let p = measure-back v (eqb_yes (and_l (eqb (length v) 4) (all is_byte v) s)) (and_r (eqb (length v) 4) (all is_byte v) s) in
    let q = measure-back w (eqb_yes (and_l (eqb (length w) 4) (all is_byte w) t)) (and_r (eqb (length w) 4) (all is_byte w) t) in
    sym p.0 ∙ ap bytes_of (sym (signed-value (measure_of v) p.1) ∙ ap signed_value e ∙ signed-value (measure_of w) q.1) ∙ q.0

-- ---- texts

-- a text with its first character no longer escaped
abbrev unescaped : List ℕ → List ℕ
unescaped [] = []
unescaped (x ∷ l) = cond (eqb x 38) (cond (eqb (get_or l 0 0) 97) (38 ∷ drop 4 l) (cond (eqb (get_or l 0 0) 108) (60 ∷ drop 3 l) (62 ∷ drop 3 l))) (x ∷ l)

-- it is the character that was escaped
first_back : (x : ℕ) (l : List ℕ) → unescaped (escaped x ++ l) ≡ x ∷ l
first_back x l =
    escaped-fact (λ q. unescaped (q ++ l) ≡ x ∷ l) x is is is
    (λ t u w. cond_no (eqb x 38) (cond (eqb (get_or l 0 0) 97) (38 ∷ drop 4 l) (cond (eqb (get_or l 0 0) 108) (60 ∷ drop 3 l) (62 ∷ drop 3 l))) (x ∷ l) t)
  where
    is : {n : ℕ} → x ≡ n → n ∷ l ≡ x ∷ l
    is e = ap (λ (y : ℕ). y ∷ l) (sym e)

-- so of two texts that are the same, the first characters and what follows them are the same
pub first-unique : (x y : ℕ) (l m : List ℕ) → escaped x ++ l ≡ escaped y ++ m → (x ≡ y) × (l ≡ m)
first-unique x y l m e = let f : x ∷ l ≡ y ∷ m = sym (first_back x l) ∙ ap unescaped e ∙ first_back y m in (cc, cc)

-- so equal texts are the same characters
text_same : (v w : List ℕ) → gather escaped v ≡ gather escaped w → v ≡ w
text_same [] [] e = refl
text_same [] (y ∷ w) e =
    let f : [] ≡ y ∷ gather escaped w = ap unescaped e ∙ first_back y (gather escaped w) in
    let z : ◌≡◌ {A = ℕ} 0 1 = cc in absurd (omega arith)
text_same (x ∷ v) [] e =
    let f : x ∷ gather escaped v ≡ [] = sym (first_back x (gather escaped v)) ∙ ap unescaped e in
    let z : ◌≡◌ {A = ℕ} 0 1 = cc in absurd (omega arith)
text_same (x ∷ v) (y ∷ w) e =
    let u = first-unique x y (gather escaped v) (gather escaped w) e in
    ap₂ (λ (a : ℕ) (l : List ℕ). a ∷ l) u.0 (text_same v w u.1)

-- ---- values

-- how a text goes on: with <
abbrev pub opens_tag : List ℕ → Bool
opens_tag [] = false
opens_tag (x ∷ l) = eqb x 60

-- a group has one value only
no_bytes : (v : List ℕ) → length v ≡ 0 → v ≡ []
no_bytes [] h = refl
no_bytes (x ∷ v) h = absurd (omega arith)

-- equal values of one kind are the same bytes
value_same : (k : ℕ) (v w : List ℕ) → T (allowed k v) → T (allowed k w) → value_xml k v ≡ value_xml k w → v ≡ w
unfolding allowed value_xml
value_same zero v w s t e = no_bytes v (eqb_yes s) ∙ sym (no_bytes w (eqb_yes t))
value_same (suc zero) v w s t e = measure-same v w s t e
value_same (suc (suc zero)) v w s t e = text_same v w e
value_same (suc (suc (suc k))) v w s t e = absurd s

-- so contents of one kind are the same
content-same : (c e : Option Content) → T (may_show c) → T (may_show e) → kind_of c ≡ kind_of e → content_xml c ≡ content_xml e → c ≡ e
unfolding bringable
content-same none none s t k h = refl
content-same none (some e) s t k h = let z : ◌≡◌ {A = ℕ} 0 1 = cc in absurd (omega arith)
content-same (some c) none s t k h = let z : ◌≡◌ {A = ℕ} 0 1 = cc in absurd (omega arith)
content-same (some c) (some e) s t k h =
    let n : c.kind ≡ e.kind = cc in
    let v : c.value ≡ e.value = value_same c.kind c.value e.value s (rw n t) (rw n (rw n at h)) in
    λ i. some (record { kind = n i; value = v i })

-- < is no part of a value
opens-tagged : (x : List ℕ) → T (opens_tag x) → T (not (leads untagged x))
opens-tagged [] t = absurd t
opens-tagged (a ∷ x) t = rw (is_true (eqb a 60) t) tt

-- of two texts that are the same, the values of one kind are the same where tags follow them, and so is what follows
pub content-unique : (c e : Option Content) (x y : List ℕ) → T (may_show c) → T (may_show e) → kind_of c ≡ kind_of e → T (opens_tag x) → T (opens_tag y)
    → content_xml c ++ x ≡ content_xml e ++ y → (c ≡ e) × (x ≡ y)
content-unique c e x y s t k p q h =
    let u = parts-apart untagged (content_xml c) (content_xml e) x y (content-untagged c) (content-untagged e) (opens-tagged x p) (opens-tagged y q) h in
    (content-same c e s t k u.0, u.1)
