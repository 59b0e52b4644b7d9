-- Texts between two tags, one character at a time.
use mathlib.Core.Path.{◌≡◌, refl, sym, ap, ap₂, subst, ◌∙◌}
use mathlib.Core.Bool.{Bool, true, false, not, ◌&&◌}
use mathlib.Core.List.{List, [], ◌∷◌, ◌++◌, append_assoc, append-nil}
use Prim.Native.Nat.{ℕ, ◌+◌, ◌-◌, ◌≤◌, ◌<◌}
use native.Mathlib.Numerals.{add-one}
use native.Mathlib.Omega.{arith}
use lib.ListN.{length, take, drop, set, length-set, length-append}
use lib.Seq.{length-take-le, take-suc-set}
use lib.Dec.{T, eqb}
use mir.Facts.{T_not, leb_yes, yes_leb}
use borrow.Author.Tests.{not-false}
use Rattle.model.specs.Lists.{all, gather}
use Rattle.model.specs.Value.{allowed, bringable, is_printable}
use Rattle.model.specs.Xml.{escaped, value_xml}
use Rattle.model.proofs.Bools.{and_l, and_r, both}
use Rattle.model.proofs.Lists.{all_both, all_append}
use Rattle.model.proofs.Members.{gather_append}
use Rattle.model.proofs.Balance.{escaped-fact}
use Rattle.model.proofs.Tagging.{first-unique}
use Rattle.scan.specs.Text.{begins}
use Rattle.scan_value.specs.Values.{CharAt, ValueAt}
use Rattle.std.specs.Prelude.{Some, None}
use Rattle.scan_value.proofs.Valuing.{unvalued}
use Rattle.kind.specs.declared.Kind.TheVariants.{Text}

-- ---- the first characters of a text

-- no character begins with <
opens-escaped : (x : ℕ) (l : List ℕ) → T (begins 60 (escaped x ++ l)) → ⊥
opens-escaped x l = escaped-fact (λ q. T (begins 60 (q ++ l)) → ⊥) x (λ e t. t) (λ e t. t) (λ e t. t) (λ t u w k. T_not (eqb x 60) k u)

-- w is v and a rest, which x shows before r
record Rest (v w x r : List ℕ) : Type 0 where
  rest : List ℕ
  is : w ≡ v ++ rest
  left : x ≡ gather escaped rest ++ r

-- where two texts are the same and the second ends before a tag, its first characters are those of the first
text-back : (v w x r : List ℕ) → T (begins 60 r) → gather escaped v ++ x ≡ gather escaped w ++ r → Rest v w x r
text-back [] w x r t e = record { rest = w; is = refl; left = e }
text-back (a ∷ v) [] x r t e =
    absurd (opens-escaped a (gather escaped v ++ x) (subst (λ q. T (begins 60 q)) (sym e ∙ append_assoc (escaped a) (gather escaped v) x) t))
text-back (a ∷ v) (y ∷ w) x r t e =
    let u = first-unique a y (gather escaped v ++ x) (gather escaped w ++ r)
    (sym (append_assoc (escaped a) (gather escaped v) x) ∙ e ∙ append_assoc (escaped y) (gather escaped w) r) in
    let k = text-back v w x r t u.1 in
    record { rest = k.rest; is = ap₂ (λ (b : ℕ) (l : List ℕ). b ∷ l) (sym u.0) k.is; left = k.left }

-- a text has 1 to 16 characters, each printable
text-parts : (v : List ℕ) → T (allowed 2 v) → (1 ≤ length v) × (length v ≤ 16) × T (all is_printable v)
unfolding allowed
text-parts v t = (leb_yes (search (and_l, and_r)), leb_yes (search (and_l, and_r)), search (and_l, and_r))

-- such characters are a text
text-whole : (v : List ℕ) → 1 ≤ length v → length v ≤ 16 → T (all is_printable v) → T (allowed 2 v)
unfolding allowed
text-whole v h k t = search (both, yes_leb)

-- ---- the characters of a text written into a buffer

-- n characters from at to i stand in the buffer b, which was c
pub record Passed (l : List ℕ) (at : ℕ) (c b : List ℕ) (i n : ℕ) : Type 0 where
  pub from : at ≤ i
  pub within : i ≤ length l
  pub count : n ≤ 16
  pub size : length b ≡ length c
  pub printable : T (all is_printable (take n b))
  pub same : drop at l ≡ gather escaped (take n b) ++ drop i l

-- x shows no characters before a tag that are a text behind n others
abbrev Stops : List ℕ → ℕ → Type 0
Stops x n = (v r : List ℕ) → 1 ≤ n + length v → n + length v ≤ 16 → T (all is_printable v) → T (begins 60 r) → x ≡ gather escaped v ++ r → ⊥

-- no character is passed
pub text-start : (l : List ℕ) (at : ℕ) (b : List ℕ) → at ≤ length l → Passed l at b b at 0
text-start l at b h = record { from = omega arith; within = h; count = omega arith; size = refl; printable = tt; same = refl }

module _ {l : List ℕ} {at : ℕ} {c b : List ℕ} {i n : ℕ} (inv : Passed l at c b i n) (room : 16 ≤ length c) where
  -- those that are passed are n
  passed_length : length (take n b) ≡ n
  passed_length = length-take-le n b (omega (arith, inv.count, inv.size))

  -- then no text begins with those that are passed
  text-no : Stops (drop i l) n → ValueAt l at (Some Text) b None
  unfolding value_xml
  text-no f =
      unvalued Text λ w r a o q.
      let u = text-back (take n b) w (drop i l) r o (sym inv.same ∙ q) in
      let p = text-parts w a in
      let k : length w ≡ n + length u.rest = ap length u.is ∙ length-append (take n b) u.rest ∙ ap (λ (m : ℕ). m + length u.rest) passed_length in
      let t : T (all is_printable (take n b) && all is_printable u.rest) =
      subst (λ y. T y) (ap (all is_printable) u.is ∙ all_both is_printable (take n b) u.rest) p.2 in
      f u.rest r (omega (arith, p.0)) (omega (arith, p.1)) (and_r (all is_printable (take n b)) (all is_printable u.rest) t) o u.left

  module _ {t : Bool} (e : t ≡ begins 60 (drop i l)) where
    module _ (h : not t ≡ false) where
      -- a tag follows no character
      pub text-empty : n ≡ 0 → ValueAt l at (Some Text) b None
      text-empty z = text-no go
        where
          go : Stops (drop i l) n
          go [] r p q s o d = omega arith
          go (x ∷ v) r p q s o d =
              opens-escaped x (gather escaped v ++ r)
              (subst (λ y. T (begins 60 y)) (d ∙ append_assoc (escaped x) (gather escaped v) r) (rw (← e, not-false t h) tt))

      -- a tag follows the last
      pub text-found : (n ≡ 0 → ⊥) → ValueAt l at (Some Text) b (Some (n, i))
      unfolding bringable value_xml
      text-found z = (
        inv.from,
        inv.within,
        inv.count,
        record {
          shows = text-whole (take n b) (rw passed_length (omega arith)) (rw passed_length inv.count) inv.printable;
          ends = rw (← e, not-false t h) tt;
          same = inv.same;
        },
      )

    module _ (h : not t ≡ true) where
      -- no tag there
      unopened : (r : List ℕ) → T (begins 60 r) → drop i l ≡ r → ⊥
      unopened r o d = T_not (begins 60 (drop i l)) (rw d o) (rw (← e, h) tt)

      -- more than 16
      pub text-over : 16 ≤ n → ValueAt l at (Some Text) b None
      text-over k = text-no go
        where
          go : Stops (drop i l) n
          go [] r p q s o d = unopened r o d
          go (x ∷ v) r p q s o d = omega arith

      -- no character there
      pub text-stop : CharAt l i None → ValueAt l at (Some Text) b None
      text-stop f = text-no go
        where
          go : Stops (drop i l) n
          go [] r p q k o d = unopened r o d
          go (y ∷ v) r p q k o d =
              f y (gather escaped v ++ r)
              (record { printable = and_l (is_printable y) (all is_printable v) k; same = d ∙ append_assoc (escaped y) (gather escaped v) r })

      module _ {y next : ℕ} (there : CharAt l i (Some (y, next))) where
        -- less of the text is left behind it
        pub text-less : length l - next < length l - i
        text-less = omega (arith, there.0, there.1)

        -- one character more
        pub text-next : n < 16 → Passed l at c (set b n y) next (n + 1)
        text-next k = record {
          from = omega (arith, inv.from, there.0);
          within = there.1;
          count = omega arith;
          size = length-set b n y ∙ inv.size;
          printable = rw more (all_append is_printable (take n b) (y ∷ []) inv.printable (both (is_printable y) true there.2.printable tt));
          same =
              inv.same
              ∙ ap (λ (q : List ℕ). gather escaped (take n b) ++ q) there.2.same
              ∙ sym (append_assoc (gather escaped (take n b)) (escaped y) (drop next l))
              ∙ ap (λ (q : List ℕ). q ++ drop next l) (sym (ap (gather escaped) more ∙ last));
        }
          where
            more : take (n + 1) (set b n y) ≡ take n b ++ (y ∷ [])
            more = rw (add-one n) (take-suc-set b n y (omega (arith, inv.size)))

            last : gather escaped (take n b ++ (y ∷ [])) ≡ gather escaped (take n b) ++ escaped y
            last = gather_append escaped (take n b) (y ∷ []) ∙ ap (λ (q : List ℕ). gather escaped (take n b) ++ q) (append-nil (escaped y))
