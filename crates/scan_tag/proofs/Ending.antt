-- End tags at a place of a text.
use mathlib.Core.Path.{◌≡◌, sym, ap, ◌∙◌}
use mathlib.Core.Bool.{Bool, true, false, not}
use mathlib.Core.List.{List, ◌∷◌, ◌++◌}
use Prim.Native.Nat.{ℕ, ◌+◌, ◌≤◌}
use native.Mathlib.Omega.{arith}
use lib.ListN.{drop}
use Rattle.model.specs.Text.{ascii, decimal, is_digit}
use Rattle.model.specs.Xml.{end_tag}
use Rattle.model.proofs.Sending.{end-text}
use Rattle.scan.specs.Text.{begins}
use Rattle.std.specs.Prelude.{Some, None}
use Rattle.scan.proofs.Goings.{begins-yes, begins-no}
use Rattle.scan_tag.specs.Tags.{Behind, BehindAt, EndAt}
use Rattle.scan_tag.proofs.Leading.{behind-unique}

-- the number of an end tag
end-number : {l r : List ℕ} {name : ℕ} → name ≤ 65535 → l ≡ end_tag name ++ r → Behind (ascii "</e") 65535 l name (62 ∷ r)
unfolding is_digit
end-number {r = r} {name = name} h q = record { small = h; ends = tt; same = q ∙ end-text name r }

module _ (l : List ℕ) (at name : ℕ) (small : name ≤ 65535) where
  -- no number there
  pub end-nameless : BehindAt (ascii "</e") 65535 l at None → EndAt l at name None
  end-nameless f r q = f name (62 ∷ r) (end-number small q)

  module _ {n close : ℕ} (number_read : BehindAt (ascii "</e") 65535 l at (Some (n, close))) where
    -- the number of an end tag there, and what follows it
    the_number : (r : List ℕ) → drop at l ≡ end_tag name ++ r → (n ≡ name) × (drop close l ≡ 62 ∷ r)
    the_number r q = behind-unique (ascii "</e") number_read.2 (end-number small q)

    -- the end tag of another name
    pub end-other : (n ≡ name → ⊥) → EndAt l at name None
    end-other h r q = h (the_number r q).0

    module _ {t : Bool} (e : t ≡ begins 62 (drop close l)) where
      -- the tag does not end behind the number
      pub end-open : not t ≡ true → EndAt l at name None
      end-open h r q = begins-no l close 62 e h r (the_number r q).1

      -- it does
      pub end-found : n ≡ name → not t ≡ false → EndAt l at name (Some (close + 1))
      end-found h k =
          let b = begins-yes l close 62 e k in (
            omega (arith, number_read.0),
            omega (arith, b.within),
            number_read.2.same
                ∙ ap (λ (r : List ℕ). ascii "</e" ++ (decimal n ++ r)) b.is
                ∙ sym (end-text n (drop (close + 1) l))
                ∙ ap (λ (i : ℕ). end_tag i ++ drop (close + 1) l) h,
          )
