-- An operation that looks at a path and writes a text of what is visible there: refused by its rows, or too long, or written.
use mathlib.Core.Path.{◌≡◌, refl, sym, ap, ◌∙◌}
use mathlib.Core.List.{List, ◌++◌}
use Prim.Native.Nat.{ℕ, ◌≤◌, ◌<◌}
use native.Mathlib.Omega.{arith}
use lib.ListN.{length, drop}
use lib.Dec.{leb}
use mir.Facts.{yes_ltb, no_ltb, yes_leb, no_leb}
use Rattle.model.specs.Model.{open_model}
use Rattle.model.specs.Rows.{row_code, look_rows, room_rows}
use Rattle.model.specs.Call.{Op, op_rows, count, counted, Result, writes, effect, nothing}
use Rattle.model.proofs.Bools.{cond_yes, cond_no}
use Rattle.model.proofs.Rows.{Passes, passes_append, row-applies, rows-stop, rows_behind, rows_pass}
use Rattle.text.specs.Overlay.{laid_in}
use Rattle.store.specs.Opened.{Opened}
use Rattle.promise.specs.Did.{Acted}
use Rattle.promise.proofs.Doing.{gives-told, refused_told, acted-refused, acted-done}

-- rows 4 and 7 of the path p, row 10 of the text for the output o; then the text is written and its bytes are counted
pub record Looks (op : Op) (s : ℕ) (b p o text : List ℕ) : Type 0 where
  pub rows : op_rows op s (open_model b) ≡ look_rows s (open_model b) p ++ room_rows (length o) text
  pub counts : nothing op ≡ count 0
  pub does : effect op s (open_model b) ≡ writes (count (length text)) text

module _ {op : Op} {s : ℕ} {b p o text : List ℕ} (looks : Looks op s b p o text) (f : Opened b s) {k : ℕ}
    (e : k ≡ row_code (look_rows s (open_model b) p)) where
  by_rows : {j : ℕ} → j ≡ row_code (look_rows s (open_model b) p ++ room_rows (length o) text) → j ≡ row_code (op_rows op s (open_model b))
  by_rows q = q ∙ ap row_code (sym looks.rows)

  -- a refusal counts nothing
  refused-counts : {j : ℕ} → Acted op s b o (refused_told j op) b o → Acted op s b o (counted j 0) b o
  refused-counts {j} a = gives-told (ap (λ (r : Result). record { number = j; result = r }) (sym looks.counts)) a

  pub look-stops : (k ≡ 0 → ⊥) → Acted op s b o (counted k 0) b o
  look-stops h =
      refused-counts
      (acted-refused op s b o f.formed (by_rows (rows-stop (look_rows s (open_model b) p) (room_rows (length o) text) e h)) h)

  -- the text was laid over the output if it fits
  module _ (z : k ≡ 0) {n : ℕ} (m : n ≡ length text) {x : List ℕ} (l : length x ≡ length o) (g : x ≡ laid_in text o) where
    looked : Passes (look_rows s (open_model b) p)
    looked = rows_pass (look_rows s (open_model b) p) tt e z

    pub look-short : length x < n → Acted op s b o (counted 10 0) b x
    unfolding laid_in
    look-short h =
        let w : length o < length text = omega arith in
        let q : x ≡ o = g ∙ cond_no (leb (length text) (length o)) (text ++ drop (length text) o) o (no_leb w) in
        rw q
        (refused-counts
        (acted-refused op s b o f.formed
        (by_rows (rows_behind (look_rows s (open_model b) p) (room_rows (length o) text) looked (row-applies _ _ (yes_ltb w)))) (λ y. absurd (omega arith))))

    pub look-done : n ≤ length x → Acted op s b o (counted 0 n) b x
    unfolding laid_in writes
    look-done h =
        let w : length text ≤ length o = omega arith in
        rw m
        (acted-done op s b o f.formed
        (rw looks.rows (passes_append (look_rows s (open_model b) p) (room_rows (length o) text) looked (no_ltb w, tt))) looks.does refl
        (g ∙ cond_yes (leb (length text) (length o)) (text ++ drop (length text) o) o (yes_leb w)))
