-- The tags of every XML document balance.
use mathlib.Core.Path.{◌≡◌, refl, sym, ap, ◌∙◌}
use mathlib.Core.Bool.{Bool, true, false, not, cond, ◌&&◌}
use mathlib.Core.Option.{Option, none, some}
use mathlib.Core.List.{List, [], ◌∷◌, ◌++◌, append_assoc, append-nil}
use Prim.Native.Nat.{ℕ, zero, suc, ◌-◌}
use native.Mathlib.Omega.{arith}
use lib.ListN.{drop}
use lib.Dec.{T, eqb}
use mir.Facts.{eqb_yes, no_eqb}
use Rattle.model.specs.Lists.{all, gather, same_bytes}
use Rattle.model.specs.Path.{Step}
use Rattle.model.specs.Value.{Content}
use Rattle.model.specs.Element.{Element}
use Rattle.model.specs.Text.{ascii, decimal, measure_of, is_digit}
use Rattle.model.specs.View.{letter}
use Rattle.model.specs.Tree.{Forest, empty, element, forest}
use Rattle.model.specs.Xml.{escaped, tag_name, attribute, preserve, kind_letter, start_tag, end_tag, value_xml, content_xml, xml, outer_tag, outer_end, document, xml_of}
use Rattle.model.specs.Tags.{Reader, between, behind, naming, named, closing, closed, read_byte, read_bytes, balanced}
use Rattle.model.proofs.Bools.{and_l, and_r, both, decide, cond_yes, cond_no, is_true}
use Rattle.model.proofs.Members.{in_all, all_in}
use Rattle.model.proofs.Lists.{all_append, same_bytes-refl}
use Rattle.model.proofs.Decimal.{digit-range, decimal-digits, signed-fact}

-- neither < nor > nor a space
abbrev plain : ℕ → Bool
plain x = not (eqb x 60) && (not (eqb x 62) && not (eqb x 32))

-- neither < nor >
abbrev pub untagged : ℕ → Bool
untagged x = not (eqb x 60) && not (eqb x 62)

read-append : (r : Reader) (x y : List ℕ) → read_bytes r (x ++ y) ≡ read_bytes (read_bytes r x) y
read-append r [] y = refl
read-append r (b ∷ x) y = read-append (read_byte r b) x y

-- ---- bytes that do not end what is being read

-- a place that some bytes lead on from, each to the place with the byte behind what was read
read-on : (p : ℕ → Bool) (f : List ℕ → Reader) → ((n : List ℕ) (x : ℕ) → T (p x) → read_byte (f n) x ≡ f (n ++ (x ∷ [])))
    → (n l : List ℕ) → T (all p l) → read_bytes (f n) l ≡ f (n ++ l)
read-on p f step n [] t = ap f (sym (append-nil n))
read-on p f step n (x ∷ l) t =
    ap (λ (r : Reader). read_bytes r l) (step n x (and_l (p x) (all p l) t))
    ∙ read-on p f step (n ++ (x ∷ [])) l (and_r (p x) (all p l) t)
    ∙ ap f (append_assoc n (x ∷ []) l)

module _ (os : List (List ℕ)) where
  read_between : (l : List ℕ) → T (all untagged l) → read_bytes (between os) l ≡ between os
  read_between =
      read-on untagged (λ n. between os) (λ n x t. cond_no (eqb x 60) (behind os) (between os) (and_l (not (eqb x 60)) (not (eqb x 62)) t)) []

  read_named : (n l : List ℕ) → T (all untagged l) → read_bytes (named n os) l ≡ named n os
  read_named n =
      read-on untagged (λ m. named n os) (λ m x t. cond_no (eqb x 62) (between (n ∷ os)) (named n os) (and_r (not (eqb x 60)) (not (eqb x 62)) t)) []

  read-naming : (n l : List ℕ) → T (all plain l) → read_bytes (naming n os) l ≡ naming (n ++ l) os
  read-naming =
      read-on plain (λ n. naming n os) λ n x t.
      let k : T (not (eqb x 62) && not (eqb x 32)) = and_r (not (eqb x 60)) (not (eqb x 62) && not (eqb x 32)) t in
      cond_no (eqb x 62) (between (n ∷ os)) (cond (eqb x 32) (named n os) (naming (n ++ (x ∷ [])) os)) (and_l (not (eqb x 62)) (not (eqb x 32)) k)
      ∙ cond_no (eqb x 32) (named n os) (naming (n ++ (x ∷ [])) os) (and_r (not (eqb x 62)) (not (eqb x 32)) k)

  read-closing : (n l : List ℕ) → T (all plain l) → read_bytes (closing n os) l ≡ closing (n ++ l) os
  read-closing =
      read-on plain (λ n. closing n os) λ n x t.
      cond_no (eqb x 62) (closed n os) (closing (n ++ (x ∷ [])) os)
      (and_l (not (eqb x 62)) (not (eqb x 32)) (and_r (not (eqb x 60)) (not (eqb x 62) && not (eqb x 32)) t))

-- ---- the bytes of numbers and values

digit-plain : (x : ℕ) → T (is_digit x) → T (plain x)
digit-plain x t =
    let r = digit-range x t in
    both (not (eqb x 60)) (not (eqb x 62) && not (eqb x 32)) (no_eqb (λ (e : x ≡ 60). omega (arith, r.1)))
    (both (not (eqb x 62)) (not (eqb x 32)) (no_eqb (λ (e : x ≡ 62). omega (arith, r.1))) (no_eqb (λ (e : x ≡ 32). omega (arith, r.0))))

pub plain-untagged : (l : List ℕ) → T (all plain l) → T (all untagged l)
plain-untagged [] t = tt
plain-untagged (x ∷ l) t =
    let h : T (plain x) = and_l (plain x) (all plain l) t in
    both (untagged x) (all untagged l)
    (both (not (eqb x 60)) (not (eqb x 62)) (and_l (not (eqb x 60)) (not (eqb x 62) && not (eqb x 32)) h)
    (and_l (not (eqb x 62)) (not (eqb x 32)) (and_r (not (eqb x 60)) (not (eqb x 62) && not (eqb x 32)) h)))
    (plain-untagged l (and_r (plain x) (all plain l) t))

pub decimal-plain : (n : ℕ) → T (all plain (decimal n))
decimal-plain n = in_all plain (decimal n) (λ x m. digit-plain x (all_in is_digit (decimal n) (decimal-digits n) m))

-- a fact of escaped characters holds if it holds of the three that are escaped and of one that stands for itself
module _ (P : List ℕ → Type 0) (x : ℕ) (amp : x ≡ 38 → P (ascii "&amp;")) (lt : x ≡ 60 → P (ascii "&lt;")) (gt : x ≡ 62 → P (ascii "&gt;"))
    (itself : T (not (eqb x 38)) → T (not (eqb x 60)) → T (not (eqb x 62)) → P (x ∷ [])) where
  pub escaped-fact : P (escaped x)
  unfolding escaped
  escaped-fact =
      decide (eqb x 38)
      (λ (t : T (eqb x 38)). rw (is_true (eqb x 38) t) (amp (eqb_yes t)))
      (λ (t : T (not (eqb x 38))).
      rw (cond_no (eqb x 38) (ascii "&amp;") (cond (eqb x 60) (ascii "&lt;") (cond (eqb x 62) (ascii "&gt;") (x ∷ []))) t)
      (decide (eqb x 60)
      (λ (u : T (eqb x 60)). rw (is_true (eqb x 60) u) (lt (eqb_yes u)))
      (λ (u : T (not (eqb x 60))).
      rw (cond_no (eqb x 60) (ascii "&lt;") (cond (eqb x 62) (ascii "&gt;") (x ∷ [])) u)
      (decide (eqb x 62)
      (λ (w : T (eqb x 62)). rw (is_true (eqb x 62) w) (gt (eqb_yes w)))
      (λ (w : T (not (eqb x 62))). rw (cond_no (eqb x 62) (ascii "&gt;") (x ∷ []) w) (itself t u w))))))

escaped-untagged : (x : ℕ) → T (all untagged (escaped x))
escaped-untagged x =
    escaped-fact (λ l. T (all untagged l)) x (λ e. tt) (λ e. tt) (λ e. tt)
    (λ t u w. both (untagged x) true (both (not (eqb x 60)) (not (eqb x 62)) u w) tt)

gather-untagged : (l : List ℕ) → T (all untagged (gather escaped l))
gather-untagged [] = tt
gather-untagged (x ∷ l) = all_append untagged (escaped x) (gather escaped l) (escaped-untagged x) (gather-untagged l)

value-untagged : (k : ℕ) (v : List ℕ) → T (all untagged (value_xml k v))
unfolding value_xml
value-untagged zero v = tt
value-untagged (suc zero) v =
    signed-fact (λ l. T (all untagged l)) (measure_of v)
    (λ h. plain-untagged (decimal (measure_of v)) (decimal-plain (measure_of v)))
    (λ h. plain-untagged (decimal (4294967296 - measure_of v)) (decimal-plain (4294967296 - measure_of v)))
value-untagged (suc (suc k)) v = gather-untagged v

pub content-untagged : (c : Option Content) → T (all untagged (content_xml c))
content-untagged none = tt
content-untagged (some c) = value-untagged c.kind c.value

letter-untagged : (k : ℕ) → T (all untagged (letter k))
unfolding letter
letter-untagged zero = tt
letter-untagged (suc zero) = tt
letter-untagged (suc (suc k)) = tt

-- a value and the quote behind it
quoted-untagged : (v : List ℕ) → T (all untagged v) → T (all untagged (v ++ ascii "\""))
quoted-untagged v t = all_append untagged v (ascii "\"") t tt

decimal-quoted : (n : ℕ) → T (all untagged (decimal n ++ ascii "\""))
decimal-quoted n = quoted-untagged (decimal n) (plain-untagged (decimal n) (decimal-plain n))

-- ---- tags

module _ (os : List (List ℕ)) where
  -- a start tag: a name, what stands behind it from a space on, and >
  read-start : (n l : List ℕ) → T (all plain n) → T (all untagged l)
      → (x : ℕ) → eqb x 47 ≡ false → read_bytes (behind os) (x ∷ (n ++ ((32 ∷ l) ++ (62 ∷ [])))) ≡ between ((x ∷ n) ∷ os)
  read-start n l s t x e =
      ap (λ (b : Bool). read_bytes (cond b (closing [] os) (naming (x ∷ []) os)) (n ++ ((32 ∷ l) ++ (62 ∷ [])))) e
      ∙ read-append (naming (x ∷ []) os) n ((32 ∷ l) ++ (62 ∷ []))
      ∙ ap (λ (r : Reader). read_bytes r ((32 ∷ l) ++ (62 ∷ []))) (read-naming os (x ∷ []) n s)
      ∙ read-append (named (x ∷ n) os) l (62 ∷ [])
      ∙ ap (λ (r : Reader). read_bytes r (62 ∷ [])) (read_named os (x ∷ n) l t)

  -- an end tag's name closes the element that bears it
  read-end : (n : List ℕ) → T (all plain n) → read_bytes (closing [] (n ∷ os)) (n ++ (62 ∷ [])) ≡ between os
  read-end n t =
      read-append (closing [] (n ∷ os)) n (62 ∷ [])
      ∙ ap (λ (r : Reader). read_bytes r (62 ∷ [])) (read-closing (n ∷ os) [] n t)
      ∙ cond_yes (same_bytes n n) (between os) Reader.wrong (same_bytes-refl n)

-- ---- elements and documents

module _ (a : Step) (c : Option Content) where
  -- a start tag's attributes
  abbrev pub attributes : List ℕ
  attributes = attribute "label" (decimal a.label) ++ (attribute "preserve" (preserve c) ++ attribute "kind" (kind_letter c))

  pub attributes-untagged : T (all untagged attributes)
  attributes-untagged =
      all_append untagged (attribute "label" (decimal a.label)) (attribute "preserve" (preserve c) ++ attribute "kind" (kind_letter c))
      (decimal-quoted a.label)
      (all_append untagged (attribute "preserve" (preserve c)) (attribute "kind" (kind_letter c)) (quoted-untagged (preserve c) (mark c)) (quoted-untagged (kind_letter c) (kind c)))
    where
      mark : (o : Option Content) → T (all untagged (preserve o))
      mark none = tt
      mark (some d) = tt

      kind : (o : Option Content) → T (all untagged (kind_letter o))
      kind none = tt
      kind (some d) = letter-untagged d.kind

  read-tag : (os : List (List ℕ)) → read_bytes (between os) (start_tag a c) ≡ between (tag_name a.name ∷ os)
  unfolding start_tag
  read-tag os =
      ap (λ (l : List ℕ). read_bytes (behind os) (101 ∷ (decimal a.name ++ l)))
      (sym
      (append_assoc (attribute "label" (decimal a.label)) (attribute "preserve" (preserve c) ++ attribute "kind" (kind_letter c)) (62 ∷ [])
      ∙ ap (λ (l : List ℕ). attribute "label" (decimal a.label) ++ l) (append_assoc (attribute "preserve" (preserve c)) (attribute "kind" (kind_letter c)) (62 ∷ []))))
      ∙ read-start os (decimal a.name) (drop 1 attributes) (decimal-plain a.name) attributes-untagged 101 refl

read-end-tag : (n : ℕ) (os : List (List ℕ)) → read_bytes (between (tag_name n ∷ os)) (end_tag n) ≡ between os
unfolding end_tag
read-end-tag n os = read-end os (tag_name n) (decimal-plain n)

-- elements leave open what was open before them
read-xml : (f : Forest) (os : List (List ℕ)) → read_bytes (between os) (xml f) ≡ between os
read-xml empty os = refl
read-xml (element a c inside after) os =
    read-append (between os) (start_tag a c) (content_xml c ++ (xml inside ++ (end_tag a.name ++ xml after)))
    ∙ ap (λ (r : Reader). read_bytes r (content_xml c ++ (xml inside ++ (end_tag a.name ++ xml after)))) (read-tag a c os)
    ∙ read-append (between (tag_name a.name ∷ os)) (content_xml c) (xml inside ++ (end_tag a.name ++ xml after))
    ∙ ap (λ (r : Reader). read_bytes r (xml inside ++ (end_tag a.name ++ xml after))) (read_between (tag_name a.name ∷ os) (content_xml c) (content-untagged c))
    ∙ read-append (between (tag_name a.name ∷ os)) (xml inside) (end_tag a.name ++ xml after)
    ∙ ap (λ (r : Reader). read_bytes r (end_tag a.name ++ xml after)) (read-xml inside (tag_name a.name ∷ os))
    ∙ read-append (between (tag_name a.name ∷ os)) (end_tag a.name) (xml after)
    ∙ ap (λ (r : Reader). read_bytes r (xml after)) (read-end-tag a.name os)
    ∙ read-xml after os

-- the tags of a document balance, whatever trees it holds
pub document-balanced : (s : ℕ) (f : Forest) → T (balanced (document s f))
unfolding balanced outer_tag document
document-balanced s f =
    let outer : List (List ℕ) = ascii "dossier" ∷ [] in
    let read : read_bytes (between []) (outer_tag s ++ (xml f ++ outer_end)) ≡ between [] =
    read-append (between []) (outer_tag s) (xml f ++ outer_end)
    ∙ ap (λ (r : Reader). read_bytes r (xml f ++ outer_end)) (read-start [] (ascii "ossier") (drop 1 (attribute "subject" (decimal s))) tt (decimal-quoted s) 100 refl)
    ∙ read-append (between outer) (xml f) outer_end
    ∙ ap (λ (r : Reader). read_bytes r outer_end) (read-xml f outer) in
    rw read tt

-- so those of every view balance
pub xml-balanced : (s : ℕ) (v : List Element) (p : List Step) → T (balanced (xml_of s v p))
unfolding xml_of
xml-balanced s v p = document-balanced s (forest v p)

-- a wrong end tag does not balance, nor does one that is missing
unbalanced : (balanced (ascii "<e1><e2></e1></e2>") ≡ false) × (balanced (ascii "<e1></e2>") ≡ false) × (balanced (ascii "<e1>") ≡ false)
unfolding balanced
unbalanced = (refl, refl, refl)
