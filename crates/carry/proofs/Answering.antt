-- The A line, and a line's whole output.
use mathlib.Core.Path.{◌≡◌, refl, sym, ap, ap₂, subst, ◌∙◌}
use mathlib.Core.Option.{Option, none, some}
use mathlib.Core.List.{List, [], ◌∷◌, ◌++◌, append_assoc, append-nil}
use Prim.Native.Nat.{ℕ, ◌+◌, ◌*◌, ◌≤◌}
use native.Mathlib.Omega.{arith}
use lib.ListN.{length, take, drop, length-append}
use lib.Seq.{take_at, drop_at}
use mir.Syntax.{w32}
use mir.Val.{Fits}
use Rattle.model.specs.Text.{ascii, decimal}
use Rattle.model.specs.Path.{steps_of}
use Rattle.model.specs.Call as Call
use Rattle.model.specs.Call.{by, Told, counted}
use Rattle.model.specs.Run.{answer_of, store_after}
use Rattle.model.specs.Script as Script
use Rattle.model.specs.Script.{ScriptCall, Reading, lent_path, content_of, output_space, call_of, unread_line, answer_lines, output}
use Rattle.model.proofs.Lists.{Bytes}
use Rattle.script.proofs.Buffers.{lent-steps}
use Rattle.text.specs.Overlay.{Wrote}
use Rattle.text.proofs.Overlays.{over-room, then, wrote-length}
use Rattle.text.proofs.Widths.{decimal-short}
use Rattle.std.specs.Prelude as code
use Rattle.std.specs.Prelude.{Some, None}
use Rattle.script.specs.declared.Call as read
use Rattle.script.specs.declared.Read.{Read}
use Rattle.script.specs.Values.{value_of}
use Rattle.script.specs.Calls as Calls
use Rattle.script.specs.Calls.{reading_of, Spans}
use Rattle.promise.specs.declared.Refusal.{Refusal}
use Rattle.promise.specs.Refusals.{number_of, count_of}
use Rattle.carry.specs.Done.{op_on, call_on, Performed}
use Rattle.carry.specs.Lines.{answer_line, line_store, Carried}
use Rattle.carry.proofs.Doings.{Small, answer-small}

pub unread-line : ascii "A\t?\t0\n" ≡ unread_line
unfolding unread_line
unread-line = refl

pub answer-line : (k n : ℕ) → ascii "A\t" ++ (decimal k ++ ((9 ∷ []) ++ (decimal n ++ (10 ∷ [])))) ≡ answer_line k n
unfolding answer_line
answer-line k n = ap (λ (l : List ℕ). 65 ∷ 9 ∷ l) (sym (append_assoc (decimal k) (9 ∷ decimal n) (10 ∷ [])))

-- how long it is, with numbers of 32 bits
answer-short : {k n : ℕ} → Fits w32 k → Fits w32 n → length (answer_line k n) ≤ 24
answer-short {k} {n} f g = rw (← answer-line k n, length-append (decimal k), length-append (decimal n)) (omega (arith, decimal-short k f, decimal-short n g))

-- ---- a text laid over an output that has room for it

module _ {o text o' : List ℕ} {w : ℕ} (g : Wrote o 0 text o' w) (h : w ≤ length o) where
  laid-there : o' ≡ text ++ drop (length text) o
  laid-there =
      let z : 0 + length text ≡ length text = omega arith in
      g.laid ∙ over-room o 0 text (omega (arith, g.ends)) ∙ ap (λ (n : ℕ). text ++ drop n o) z

  laid-size : w ≡ length text
  laid-size = omega (arith, g.ends)

  text-first : take w o' ≡ text
  text-first =
      ap₂ (λ (n : ℕ) (l : List ℕ). take n l) laid-size laid-there ∙ take_at text (drop (length text) o) (length text) refl

  rest-stays : drop w o' ≡ drop w o
  rest-stays =
      ap₂ (λ (n : ℕ) (l : List ℕ). drop n l) laid-size laid-there
      ∙ drop_at text (drop (length text) o) (length text) refl
      ∙ ap (λ (n : ℕ). drop n o) (sym laid-size)

  text-within : w ≤ length o'
  text-within = let l : length o' ≡ length o = wrote-length g in omega arith

  -- one line that reads so
  carried-line : (l s t : List ℕ) (r : Option ScriptCall) → Reading l r → text ≡ output (r ∷ []) s → t ≡ line_store r s → Carried (l ∷ []) s o w t o'
  carried-line l s t r d e f =
      record {
        lines = record { readings = r ∷ []; read = (d, tt); printed = text-first ∙ e; left = f };
        within = text-within;
        rest = rest-stays;
      }

-- ---- the call of a line

op_same : (k : read.Call) (p l : List ℕ) → lent_path (steps_of p) ≡ p → Script.op_of (Calls.op_of k (steps_of p) l) ≡ op_on k p l
op_same read.TheVariants.View p l e = ap (λ (q : List ℕ). Call.Op.view q output_space) e
op_same (read.TheVariants.Insert v) p l e = ap (λ (q : List ℕ). Call.Op.insert q (content_of (value_of v l))) e
op_same (read.TheVariants.Update v) p l e = ap (λ (q : List ℕ). Call.Op.update q (content_of (value_of v l))) e
op_same read.TheVariants.Delete p l e = ap Call.Op.delete e

-- what is told of an answer by its number and count
pub told-performed : (a : code.Result ℕ Refusal) {k n : ℕ} → (k ≡ number_of a) × (n ≡ count_of a) → {c : Call.Call} {s o : List ℕ} {w : ℕ} {t o' : List ℕ}
    → Performed c s o (counted (number_of a) (count_of a)) w t o' → Performed c s o (counted k n) w t o'
told-performed a e p = rw (e.0, e.1) p

module _ (l q : List ℕ) {r : code.Option Read} (d : Reading l (reading_of r q l) × Spans r 192 (length l)) where
  -- a line that does not read
  pub unread-carried : r ≡ None → (s : List ℕ) {o o' : List ℕ} {w : ℕ} → Wrote o 0 unread_line o' w → 16448 ≤ length o → Carried (l ∷ []) s o w s o'
  unfolding unread_line
  unread-carried e s g h =
      carried-line g (omega (arith, g.ends)) l s s none (subst (λ (x : code.Option Read). Reading l (reading_of x q l)) e d.0) (sym (append-nil unread_line)) refl

  module _ {c : Read} (e : r ≡ Some c) where
    reads : Reading l (reading_of (Some c) q l)
    reads = subst (λ (x : code.Option Read). Reading l (reading_of x q l)) e d.0

    pub steps-few : 3 * c.steps ≤ 192
    steps-few = (subst (λ (x : code.Option Read). Spans x 192 (length l)) e d.1).0

    module _ (bytes : Bytes q) (room : 192 ≤ length q) where
      call-is : call_of (record { subject = c.subject; op = Calls.op_of c.call (steps_of (take (3 * c.steps) q)) l }) ≡ call_on c (take (3 * c.steps) q) l
      unfolding call_of
      call-is =
          let n : 3 * c.steps ≤ length q = omega (arith, steps-few) in
          ap (by c.subject)
          (op_same c.call (take (3 * c.steps) q) l (lent-steps q c.steps bytes n))

      module _ {s o : List ℕ} {k n w : ℕ} {t o' : List ℕ} (p : Performed (call_on c (take (3 * c.steps) q) l) s o (counted k n) w t o') where
        pub count-few : n ≤ 16384
        count-few =
            subst (λ (x : Told). Small x.result) (sym p.told_is) (answer-small c.subject c.call (take (3 * c.steps) q) l s).0

        pub wrote-few : w ≤ 16384
        wrote-few = omega (arith, p.written.ends, (answer-small c.subject c.call (take (3 * c.steps) q) l s).1)

        -- where the A line ends
        pub answer-ends : {o'' : List ℕ} {z : ℕ} → Fits w32 k → Wrote o' w (answer_line k n) o'' z → z ≤ 16408
        answer-ends f g = omega (arith, g.ends, wrote-few, answer-short {n = n} f (record { fits = omega (arith, count-few) }))

        pub call-carried : {o'' : List ℕ} {z : ℕ} → Wrote o' w (answer_line k n) o'' z → z ≤ length o → Carried (l ∷ []) s o z t o''
        unfolding answer_line answer_lines
        call-carried {o''} {z} g h =
            let a : Call.Call = call_on c (take (3 * c.steps) q) l in
            let f : ScriptCall = record { subject = c.subject; op = Calls.op_of c.call (steps_of (take (3 * c.steps) q)) l } in
            let y : (answer_of a s).written ++ answer_line k n ≡ answer_lines (answer_of (call_of f) s) =
            ap (λ (x : Told). answer_lines (record { told = x; written = (answer_of a s).written })) p.told_is
            ∙ ap (λ (x : Call.Call). answer_lines (answer_of x s)) (sym call-is) in
            carried-line (then p.written g) h l s t (some f) reads (y ∙ sym (append-nil (answer_lines (answer_of (call_of f) s))))
            (p.store_is ∙ ap (λ (x : Call.Call). store_after x s) (sym call-is))
