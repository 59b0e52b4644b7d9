-- Numbers written one after another.
use mathlib.Core.Path.{◌≡◌, sym, ap, ap₂, ◌∙◌}
use mathlib.Core.List.{List, [], ◌∷◌, ◌++◌, append_assoc}
use Prim.Native.Nat.{ℕ, suc, ◌+◌, ◌-◌, ◌≤◌, ◌<◌}
use native.Mathlib.Omega.{arith}
use lib.ListN.{length, get_or, drop, set, length-append, length-drop}
use lib.Seq.{drop-cons, set-append_seam}
use Rattle.model.specs.Lists.{range}
use Rattle.model.proofs.Lists.{length-range, range_last}

pub record Counted (refs₀ : List ℕ) (first k : ℕ) (refs : List ℕ) (i : ℕ) : Type 0 where
  pub within : i ≤ k
  pub is : refs ≡ range (λ n. n) first i ++ drop i refs₀

module _ {refs₀ refs : List ℕ} {first k i : ℕ} (inv : Counted refs₀ first k refs i) (h : k ≤ length refs₀) where
  count-size : length refs ≡ length refs₀
  count-size =
      let w : i ≤ k = inv.within in
      let a : length (range (λ n. n) first i) ≡ i = length-range (λ n. n) first i in
      let d : length (drop i refs₀) ≡ length refs₀ - i = length-drop i refs₀ in
      ap length inv.is ∙ length-append (range (λ n. n) first i) (drop i refs₀) ∙ omega arith

  pub count_next : i < k → {x : ℕ} → x ≡ first + i → Counted refs₀ first k (set refs i x) (i + 1)
  count_next l {x} e =
      let j : i + 1 ≡ suc i = omega arith in
      let a : length (range (λ n. n) first i) ≡ i = length-range (λ n. n) first i in
      let m : i < length refs₀ = omega arith in
      record {
        within = omega arith;
        is =
            ap₂ (λ (r : List ℕ) (y : ℕ). set r i y) (inv.is ∙ ap (λ (r : List ℕ). range (λ n. n) first i ++ r) (drop-cons refs₀ i 0 m)) e
            ∙ ap (λ (q : ℕ). set (range (λ n. n) first i ++ (get_or refs₀ i 0 ∷ drop (suc i) refs₀)) q (first + i)) (sym a)
            ∙ set-append_seam (range (λ n. n) first i) (get_or refs₀ i 0) (drop (suc i) refs₀) (first + i)
            ∙ sym
            (ap (λ (n : ℕ). range (λ m. m) first n ++ drop n refs₀) j
            ∙ ap (λ (r : List ℕ). r ++ drop (suc i) refs₀) (range_last (λ n. n) first i)
            ∙ append_assoc (range (λ n. n) first i) ((first + i) ∷ []) (drop (suc i) refs₀));
      }
