-- The path of a tree's own element, and rows 7 to 9 of it.
use mathlib.Core.Path.{◌≡◌, refl, sym, ap, subst, ◌∙◌}
use mathlib.Core.Bool.{Bool, true, false, not, ◌||◌}
use mathlib.Core.List.{List, [], ◌∷◌, ◌++◌}
use Prim.Native.Nat.{ℕ, ◌+◌, ◌-◌, ◌*◌, ◌/◌, ◌%◌, ◌≤◌, ◌<◌}
use native.Mathlib.Omega.{arith}
use lib.ListN.{length, take, drop, length-append, length-drop}
use lib.Seq.{take_at}
use lib.Dec.{T}
use mir.Facts.{yes_ltb, no_ltb}
use Rattle.model.specs.Path.{Step, steps_of, ends_in}
use Rattle.model.specs.Partition.{partition_size, count}
use Rattle.model.specs.Store.{partition}
use Rattle.model.specs.Model.{own_set, live, open_model}
use Rattle.model.specs.View.{in_view}
use Rattle.model.specs.Rows.{row}
use Rattle.model.proofs.Bools.{or_l, is_true}
use Rattle.model.proofs.Rows.{row-applies, rows_behind, rows_end}
use Rattle.model.proofs.Taking.{ends-longer}
use Rattle.path.specs.Steps.{put_step}
use Rattle.path.proofs.Buffers.{length-put, steps-put, steps-kept}
use Rattle.partition.specs.Place.{Found}
use Rattle.store.specs.Opened.{Opened}
use Rattle.table.proofs.Walking.{told-yes, failed, held, found-live, counted, own-few}
use Rattle.dossier_intake.specs.Taking.{TopPath, TreeRow}

-- ---- the path

-- a buffer that begins with a path, and a step written behind it
pub top-put : (p b : List ℕ) (name label : ℕ) → length p % 3 ≡ 0 → length p ≤ 15 → length b ≡ 18
    → {x y : List ℕ} → x ≡ p ++ drop (length p) b → y ≡ put_step x (length p / 3) name label → TopPath p (record { name = name; label = label }) y
top-put p b name label w h s {x} {y} e f =
    let n : ℕ = length p / 3 in
    let three : 3 * n ≡ length p = omega arith in
    let long : length x ≡ 18 = ap length e ∙ length-append p (drop (length p) b) ∙ ap (λ (k : ℕ). length p + k) (length-drop (length p) b) ∙ omega arith in
    let first : take (3 * n) x ≡ p = ap (take (3 * n)) e ∙ take_at p (drop (length p) b) (3 * n) (sym three) in
    let end : 3 * (n + 1) ≡ length p + 3 = omega arith in
    record {
      size = ap length f ∙ length-put x n name label ∙ long;
      above = ap (λ (l : List ℕ). steps_of (take (3 * n) l)) f ∙ ap steps_of (steps-kept x n name label (omega arith) ∙ first);
      whole =
          ap (λ (k : ℕ). steps_of (take k y)) (sym end)
          ∙ ap (λ (l : List ℕ). steps_of (take (3 * (n + 1)) l)) f
          ∙ steps-put x n name label (omega arith)
          ∙ ap (λ (l : List ℕ). steps_of l ++ (record { name = name; label = label } ∷ [])) first;
    }

-- ---- rows 7 to 9

module _ {s : ℕ} {b : List ℕ} (o : Opened b s) (p q : List ℕ) (n : ℕ) {v : Bool} (e : v ≡ in_view s (open_model b) (steps_of p)) where
  -- the parent is not in view
  pub row-unseen : v ≡ false → TreeRow s b p q n 7
  row-unseen h a l w = row-applies _ _ (failed e h)

  module _ (h : v ≡ true) {x : List ℕ} (g : (x ≡ partition s b) × (length x ≡ partition_size)) {at : ℕ} {f : Bool} (found : Found x (steps_of q) at f) where
    -- the element is live where it is found
    found-is : (a : Step) → a.label ≡ s → steps_of q ≡ steps_of p ++ (a ∷ []) → f ≡ live (open_model b) (steps_of p ++ (a ∷ []))
    found-is a l w =
        let t : T (ends_in s (steps_of q)) = subst (λ (r : List Step). T (ends_in s r)) (sym w) (ends-longer s (steps_of p) a l) in
        found-live o g (steps_of q) (sym (is_true (ends_in s (steps_of q)) t)) refl found ∙ ap (live (open_model b)) w

    -- it is there
    pub row-there : f ≡ true → TreeRow s b p q n 8
    row-there y a l w =
        rows_behind (row 7 _ ∷ []) _ (held e h, tt)
        (row-applies _ _ (or_l (live (open_model b) (steps_of p ++ (a ∷ []))) false (told-yes (found-is a l w) y)))

    module _ (y : f ≡ false) {c : ℕ} (k : c ≡ count x) where
      -- it is not there
      lacks : (a : Step) → a.label ≡ s → steps_of q ≡ steps_of p ++ (a ∷ []) → T (not (live (open_model b) (steps_of p ++ (a ∷ [])) || false))
      lacks a l w = subst (λ (t : Bool). T (not (t || false))) (sym y ∙ found-is a l w) tt

      -- too few slots are free
      pub row-full : 32 - c < n → TreeRow s b p q n 9
      row-full z a l w =
          let m : c ≡ length (own_set s (open_model b)) = counted o g k in
          let r : 32 < length (own_set s (open_model b)) + n = omega (arith, own-few o g k) in
          rows_behind (row 7 _ ∷ row 8 _ ∷ []) _ (held e h, (lacks a l w, tt)) (row-applies _ _ (yes_ltb r))

      -- enough are
      pub row-free : n ≤ 32 - c → TreeRow s b p q n 0
      row-free z a l w =
          let m : c ≡ length (own_set s (open_model b)) = counted o g k in
          let r : length (own_set s (open_model b)) + n ≤ 32 = omega (arith, own-few o g k) in
          rows_end (row 7 _ ∷ row 8 _ ∷ row 9 _ ∷ []) (held e h, (lacks a l w, (no_ltb r, tt)))
