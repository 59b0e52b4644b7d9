-- A number behind given bytes.
use mathlib.Core.Path.{◌≡◌, ap, ◌∙◌}
use mathlib.Core.Bool.{Bool, true, false, not}
use mathlib.Core.List.{List, [], ◌∷◌, ◌++◌}
use Prim.Native.Nat.{ℕ, ◌+◌, ◌≤◌}
use native.Mathlib.Omega.{arith}
use lib.ListN.{length, drop}
use lib.Seq.{drop-append_seam}
use Rattle.model.specs.Text.{decimal}
use Rattle.scan.specs.Text.{is_front}
use Rattle.scan.specs.Numbers.{Numbered, NumberAt}
use Rattle.std.specs.Prelude.{Option, Some, None}
use Rattle.scan.proofs.Fronts.{Stands, front-yes, front-no}
use Rattle.scan.proofs.Numerals.{numbered-unique}
use Rattle.scan_tag.specs.Tags.{Behind, BehindAt}

-- the number at the front of what follows the bytes
behind-front : (b : List ℕ) {m n : ℕ} {l r : List ℕ} → Behind b m l n r → Numbered m (drop (length b) l) n r
behind-front b {n = n} {r = r} s =
    record { small = s.small; ends = s.ends; same = ap (drop (length b)) s.same ∙ drop-append_seam b (decimal n ++ r) }

-- one number at most stands behind given bytes
pub behind-unique : (b : List ℕ) {m k n o : ℕ} {l r q : List ℕ} → Behind b m l n r → Behind b k l o q → (n ≡ o) × (r ≡ q)
behind-unique b s t = numbered-unique (behind-front b s) (behind-front b t)

module _ (b l : List ℕ) (at : ℕ) {t : Bool} (e : t ≡ is_front b (drop at l)) where
  -- the bytes do not stand there
  pub behind-open : (most : ℕ) → not t ≡ true → BehindAt b most l at None
  behind-open most h n r s = front-no b l at e h (decimal n ++ r) s.same

  module _ (w : at ≤ length l) (h : not t ≡ false) where
    -- they do
    stands : Stands b l at
    stands = go b e
      where
        go : (b : List ℕ) → t ≡ is_front b (drop at l) → Stands b l at
        go [] e = let n : at + 0 ≡ at = omega arith in (rw n, omega arith)
        go (x ∷ b) e = front-yes x b l at e h

    -- so the place behind them is within the text, or its end
    pub behind-within : at + length b ≤ length l
    behind-within = stands.1

    -- what is read there
    pub behind-number : (most : ℕ) (x : Option (ℕ × ℕ)) → NumberAt most l (at + length b) x → BehindAt b most l at x
    behind-number most (Some (n, next)) s = (
      omega (arith, s.0),
      s.1,
      record { small = s.2.small; ends = s.2.ends; same = stands.0 ∙ ap (λ (r : List ℕ). b ++ r) s.2.same },
    )
    behind-number most None s = λ n r q.
        let f : drop (length b) (drop at l) ≡ drop (at + length b) l = ap (drop (length b)) stands.0 ∙ drop-append_seam b (drop (at + length b) l) in
        s n r (rw f at (behind-front b q))
