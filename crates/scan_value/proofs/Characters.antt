-- Characters as they stand in a text.
use mathlib.Core.Path.{◌≡◌, refl, sym, ap, subst, ◌∙◌}
use mathlib.Core.Bool.{Bool, true, false, not, ◌&&◌}
use mathlib.Core.List.{List, [], ◌∷◌, ◌++◌}
use Prim.Native.Nat.{ℕ, ◌+◌, ◌≤◌, ◌<◌}
use native.Mathlib.Omega.{arith}
use lib.ListN.{length, drop, get_or, drop_of_length-le}
use lib.Dec.{T, eqb}
use mir.Facts.{T_not, eqb_no}
use borrow.Author.Tests.{eq-eqb, not-false}
use Rattle.model.specs.Value.{is_printable}
use Rattle.model.specs.Text.{ascii}
use Rattle.model.specs.Xml.{escaped}
use Rattle.model.proofs.Bools.{and_l, and_r, both}
use Rattle.model.proofs.Balance.{escaped-fact}
use Rattle.scan.specs.Text.{begins, is_front}
use Rattle.scan.proofs.Goings.{neither, no-empty, drop_here}
use Rattle.scan.proofs.Fronts.{front-true, front-false}
use Rattle.scan_value.specs.Values.{CharAt, is_plain}
use Rattle.std.specs.Prelude.{Some, None}

-- ---- behind an ampersand

module _ (l : List ℕ) (at : ℕ) where
  -- the bytes of an escaped character stand there
  escape-found : (x : ℕ) (b : List ℕ) → T (is_printable x) → escaped x ≡ 38 ∷ b → {t : Bool} → t ≡ is_front (38 ∷ b) (drop at l) → t ≡ true
      → CharAt l at (Some (x, at + length (38 ∷ b)))
  escape-found x b p q e h =
      let s = front-true 38 b l at e h in
      (omega arith, s.1, record { printable = p; same = s.0 ∙ ap (λ (y : List ℕ). y ++ drop (at + length (38 ∷ b)) l) (sym q) })

  module _ {t : Bool} (e : t ≡ is_front (ascii "&amp;") (drop at l)) where
    -- an ampersand
    pub amp-found : t ≡ true → CharAt l at (Some (38, at + 5))
    unfolding escaped is_printable
    amp-found = escape-found 38 (ascii "amp;") tt refl e

    module _ {u : Bool} (f : u ≡ is_front (ascii "&lt;") (drop at l)) where
      -- a <
      pub lt-found : u ≡ true → CharAt l at (Some (60, at + 4))
      unfolding escaped is_printable
      lt-found = escape-found 60 (ascii "lt;") tt refl f

      module _ {w : Bool} (g : w ≡ is_front (ascii "&gt;") (drop at l)) where
        -- a >
        pub gt-found : w ≡ true → CharAt l at (Some (62, at + 4))
        unfolding escaped is_printable
        gt-found = escape-found 62 (ascii "gt;") tt refl g

        -- none of them
        pub escape-none : T (begins 38 (drop at l)) → t ≡ false → u ≡ false → w ≡ false → CharAt l at None
        escape-none here h i j x r s =
            escaped-fact (λ q. drop at l ≡ q ++ r → ⊥) x
            (λ k. front-false (ascii "&amp;") l at e h r)
            (λ k. front-false (ascii "&lt;") l at f i r)
            (λ k. front-false (ascii "&gt;") l at g j r)
            (λ k m n d. T_not (eqb x 38) (subst (λ q. T (begins 38 q)) d here) k)
            s.same

-- ---- a byte that stands for itself

-- what it says
plain-parts : (x : ℕ) → T (is_plain x) → T (is_printable x) × T (not (eqb x 60)) × T (not (eqb x 62))
unfolding is_plain
plain-parts x t =
    let u = and_r (is_printable x) (not (eqb x 60) && not (eqb x 62)) t in
    (and_l (is_printable x) (not (eqb x 60) && not (eqb x 62)) t, and_l (not (eqb x 60)) (not (eqb x 62)) u, and_r (not (eqb x 60)) (not (eqb x 62)) u)

-- ---- a character at a place of a text

module _ (l : List ℕ) (at : ℕ) {t : Bool} (e : t ≡ begins 38 (drop at l)) where
  -- an ampersand stands there
  pub amp-here : t ≡ true → T (begins 38 (drop at l))
  amp-here h = rw (← e, h) tt

  module _ (h : t ≡ false) where
    -- the text has ended
    pub char-past : length l ≤ at → CharAt l at None
    char-past k x r s =
        let d : [] ≡ drop at l = sym (drop_of_length-le l {i = at} k) in
        escaped-fact (λ q. drop at l ≡ q ++ r → ⊥) x (λ i j. no-empty (d ∙ j)) (λ i j. no-empty (d ∙ j)) (λ i j. no-empty (d ∙ j)) (λ u v w j. no-empty (d ∙ j)) s.same

    module _ (k : at < length l) {p : Bool} (f : p ≡ is_plain (get_or l at 0)) where
      here : drop at l ≡ get_or l at 0 ∷ drop (at + 1) l
      here = drop_here l at k

      -- a byte that does not stand for itself
      pub char-other : not p ≡ true → CharAt l at None
      unfolding is_plain
      char-other g x r s =
          escaped-fact (λ q. drop at l ≡ q ++ r → ⊥) x
          (λ i j. neither h (e ∙ ap (begins 38) j))
          (λ i j. neither h (e ∙ ap (begins 38) j))
          (λ i j. neither h (e ∙ ap (begins 38) j))
          (λ u v w j.
          let y : get_or l at 0 ≡ x = cc (sym here ∙ j) in
          let z : T (is_plain x) = both (is_printable x) (not (eqb x 60) && not (eqb x 62)) s.printable (both (not (eqb x 60)) (not (eqb x 62)) v w) in
          T_not (is_plain x) z (rw (← y, ← f, g) tt))
          s.same

      -- a byte that does
      pub char-plain : not p ≡ false → CharAt l at (Some (get_or l at 0, at + 1))
      char-plain g = (omega arith, omega arith, record { printable = there.0; same = same })
        where
          there : T (is_printable (get_or l at 0)) × T (not (eqb (get_or l at 0) 60)) × T (not (eqb (get_or l at 0) 62))
          there = plain-parts (get_or l at 0) (rw (← f, not-false p g) tt)

          same : drop at l ≡ escaped (get_or l at 0) ++ drop (at + 1) l
          same =
              escaped-fact (λ q. drop at l ≡ q ++ drop (at + 1) l) (get_or l at 0)
              (λ i. absurd (neither h (e ∙ ap (begins 38) here ∙ eq-eqb (get_or l at 0) 38 i)))
              (λ i. absurd (eqb_no there.1 i))
              (λ i. absurd (eqb_no there.2 i))
              (λ u v w. here)
