-- Calls carried out: the value that a line brings, and what a call answered, wrote and left.
use mathlib.Core.Path.{◌≡◌, refl, sym, ap, subst, ◌∙◌}
use mathlib.Core.List.{List, [], ◌∷◌, ◌++◌, append_assoc}
use Prim.Native.Nat.{ℕ, ◌+◌, ◌-◌, ◌≤◌}
use native.Mathlib.Omega.{arith}
use borrow.Rule.Slice.PartMut.{put_mid}
use lib.ListN.{length, take, drop, take-append-drop, length-drop}
use lib.Seq.{take_all, take_at, length-take-le, drop-append-le}
use Rattle.model.specs.Path.{Step, is_prefix, steps_of}
use Rattle.model.specs.Value.{Content}
use Rattle.model.specs.Model.{open_model, own_set}
use Rattle.model.specs.Call.{Call, by, Op, subject_of, view, insert, update, delete, extending, Result, count, graded, Told, counted, Outcome, refused, done, op_rows, effect, writes, changes, makes}
use Rattle.model.specs.View.{visible}
use Rattle.model.specs.Groups.{seen_steps, missing_paths}
use Rattle.model.specs.Rows.{bring_rows, place_rows}
use Rattle.model.specs.Run.{answer_of, store_after}
use Rattle.model.specs.Script.{content_of, output_space}
use Rattle.model.proofs.Sets.{length-keep}
use Rattle.model.proofs.Keeps.{open-valid}
use Rattle.model.proofs.Rows.{passes-both}
use Rattle.model.proofs.Groups.{rows-placed}
use Rattle.model.proofs.Operations.{Admitted, outcome-either}
use Rattle.model.proofs.Refusals.{answer-fits}
use Rattle.octets.specs.Joined.{word_bytes}
use Rattle.text.specs.Overlay.{overlay}
use Rattle.text.proofs.Overlays.{over-room, wrote_none}
use Rattle.std.specs.Prelude as code
use Rattle.promise.specs.Did.{Did}
use Rattle.promise.specs.declared.Refusal.{Refusal}
use Rattle.promise.specs.Refusals.{number_of, count_of}
use Rattle.script.specs.declared.Value.{Value}
use Rattle.script.specs.declared.Value.TheVariants.{Group, Measure, Text}
use Rattle.script.specs.Values.{value_of}
use Rattle.script.specs.declared.Call as read
use Rattle.script.specs.declared.Read.{Read}
use Rattle.carry.specs.declared.calls.Done.{Done}
use Rattle.carry.specs.Done.{op_on, call_on, Performed}

-- ---- the value

module _ {v : Value} (l : List ℕ) where
  pub group-brought : v ≡ Group → (b : List ℕ) → content_of (value_of v l) ≡ record { kind = 0; value = take 0 b }
  group-brought e b = ap (λ (u : Value). content_of (value_of u l)) e

  pub measure-brought : {m : ℕ} → v ≡ Measure m → (b : List ℕ) {r : List ℕ} → b ≡ word_bytes m ++ r → content_of (value_of v l) ≡ record { kind = 1; value = take 4 b }
  measure-brought e b f = ap (λ (u : Value). content_of (value_of u l)) e ∙ ap (λ (t : List ℕ). record { kind = 1; value = take 4 t }) (sym f)

  -- the bytes of a text, which are the last of its line
  pub text-brought : {n : ℕ} → v ≡ Text n → {at : ℕ} → at ≡ length l - n → (b : List ℕ) {t y : List ℕ} → t ≡ drop at l → y ≡ t ++ drop (length t) b
      → content_of (value_of v l) ≡ record { kind = 2; value = take (length t) y }
  text-brought {n} e {at} f b {t} {y} g h =
      ap (λ (u : Value). content_of (value_of u l)) e
      ∙ ap (λ (s : List ℕ). record { kind = 2; value = s })
      (sym (ap (take (length t)) h ∙ take_at t (drop (length t) b) (length t) refl ∙ g ∙ ap (λ (k : ℕ). drop k l) f))

  -- what is lent of the line from where they begin
  pub text-lent : {n : ℕ} → v ≡ Text n → {at : ℕ} → at ≡ length l - n → take (length l - at) (drop at l) ≡ (content_of (value_of v l)).value
  text-lent e {at} f =
      let t : List ℕ = drop at l in
      take_all (length l - at) t (omega (arith, length-drop at l))
      ∙ sym (ap (λ (c : Content). c.value) (text-brought e f [] refl refl) ∙ take_at t (drop (length t) []) (length t) refl)

-- a call with the content that was brought
pub brought-did : (f : Content → Op) (c : Content) (s : ℕ) {v x y b t : List ℕ} {i : Told} → Did (by s (f (record { kind = c.kind; value = v }))) x [] i y []
    → v ≡ c.value → x ≡ b → y ≡ t → Did (by s (f c)) b [] i t []
brought-did f c s {v} {x} {y} {b} {t} {i} d e g h =
    let from : Did (by s (f (record { kind = c.kind; value = v }))) b [] i y [] =
    subst (λ (z : List ℕ). Did (by s (f (record { kind = c.kind; value = v }))) z [] i y []) g d in
    let left : Did (by s (f (record { kind = c.kind; value = v }))) b [] i t [] =
    subst (λ (z : List ℕ). Did (by s (f (record { kind = c.kind; value = v }))) b [] i z []) h from in
    subst (λ (z : List ℕ). Did (by s (f (record { kind = c.kind; value = z }))) b [] i t []) e left

-- ---- what was done

-- a call that has no output writes nothing
pub silent-performed : {c : Call} {s : List ℕ} (a : code.Result ℕ Refusal) {t : List ℕ} (o : List ℕ) → Did c s [] (counted (number_of a) (count_of a)) t []
    → {d : Done} → d ≡ record { answer = a; wrote = 0 } → Performed c s o (counted (number_of d.answer) (count_of d.answer)) d.wrote t o
unfolding answer_of store_after
silent-performed {c} {s} a o d e =
    let w : (answer_of c s).written ≡ [] = none_of (answer_of c s).written (drop (length (answer_of c s).written) []) d.output-is in
    rw e (record { told_is = d.told_is; store_is = d.store_is; written = rw w (wrote_none o 0) })
  where
    none_of : (x y : List ℕ) → [] ≡ x ++ y → x ≡ []
    none_of [] y q = refl
    none_of (a ∷ x) y q = let z : length {A = ℕ} [] ≡ length ((a ∷ x) ++ y) = ap length q in absurd (omega arith)

-- a view counts the bytes that it writes
view-count : (s : ℕ) (p : List ℕ) (room : ℕ) (b : List ℕ) → (answer_of (by s (view p room)) b).told.result ≡ count (length (answer_of (by s (view p room)) b).written)
unfolding answer_of refused done effect writes
view-count s p room b =
    outcome-either (by s (view p room)) (open_model b) (λ (x : Outcome). x.answer.told.result ≡ count (length x.answer.written)) (λ k. refl) (λ a. refl)

-- it was lent the first n bytes of the output
pub view-performed : (s : ℕ) (b p o : List ℕ) (n : ℕ) → n ≤ length o → {k c : ℕ} {y : List ℕ}
    → Did (by s (view p (length (take n o)))) b (take n o) (counted k c) b y → Performed (by s (view p n)) b o (counted k c) c b (put_mid 0 n o y)
unfolding answer_of store_after
view-performed s b p o n h {k} {c} {y} d =
    let l : length (take n o) ≡ n = length-take-le n o h in
    let e : Did (by s (view p n)) b (take n o) (counted k c) b y = subst (λ (m : ℕ). Did (by s (view p m)) b (take n o) (counted k c) b y) l d in
    let w : List ℕ = (answer_of (by s (view p n)) b).written in
    let f : length w ≤ n = answer-fits (by s (view p n)) b in
    let g : drop (length w) (take n o) ++ drop n o ≡ drop (length w) o =
    sym (drop-append-le (length w) (take n o) (drop n o) (omega arith)) ∙ ap (drop (length w)) (take-append-drop n o) in
    let q : overlay o 0 w ≡ w ++ drop (length w) o = over-room o 0 w (omega arith) ∙ ap (λ (m : ℕ). w ++ drop m o) (zero-plus (length w)) in
    let r : count c ≡ count (length w) = ap (λ (x : Told). x.result) e.told_is ∙ view-count s p n b in
    let size : c ≡ length w = cc in
    record {
      told_is = e.told_is;
      store_is = e.store_is;
      written =
          record {
            laid =
                ap (λ (z : List ℕ). z ++ drop n o) e.output-is
                ∙ append_assoc w (drop (length w) (take n o)) (drop n o)
                ∙ ap (λ (z : List ℕ). w ++ z) g
                ∙ sym q;
            ends = omega arith;
          };
    }
  where
    zero-plus : (m : ℕ) → 0 + m ≡ m
    zero-plus m = omega arith

-- ---- the call that was read

pub performed-as : {c d : Call} → c ≡ d → {s o : List ℕ} {i : Told} {m : ℕ} {t o' : List ℕ} → Performed d s o i m t o' → Performed c s o i m t o'
performed-as e p = rw e p

pub on_call : (r : Read) {c : read.Call} → r.call ≡ c → (p l : List ℕ) → call_on r p l ≡ by r.subject (op_on c p l)
on_call r e p l = ap (λ (c : read.Call). by r.subject (op_on c p l)) e

-- ---- it answers small numbers and writes no more than it was lent

extending-few : (p : List Step) (s : ℕ) (b : List ℕ) → extending p (own_set s (open_model b)) ≤ 16384
unfolding extending
extending-few p s b = omega (arith, length-keep (λ e. is_prefix p e.path) (own_set s (open_model b)), (open-valid b s).few)

-- an insert that is done made at most as many groups as a partition has slots
groups-few : (s : ℕ) (p : List ℕ) (c : Content) (b : List ℕ) → Admitted (by s (insert p c)) (open_model b)
    → length (missing_paths (seen_steps (visible s (open_model b)) (steps_of p)) (steps_of p)) ≤ 16384
unfolding op_rows subject_of
groups-few s p c b a =
    omega (arith, (rows-placed s (open_model b) (steps_of p) (passes-both (bring_rows p c) (place_rows s (open_model b) (steps_of p)) a.rows).1).free)

-- a count of at most the output's room; no line asks for a grade
abbrev pub Small : Result → Type 0
Small (count n) = n ≤ 16384
Small (graded z r) = ⊥

pub answer-small : (s : ℕ) (k : read.Call) (p l b : List ℕ)
    → Small (answer_of (by s (op_on k p l)) b).told.result × (length (answer_of (by s (op_on k p l)) b).written ≤ 16384)
unfolding answer_of refused done effect writes changes makes subject_of
answer-small s read.TheVariants.View p l b =
    let f : length (answer_of (by s (view p output_space)) b).written ≤ output_space = answer-fits (by s (view p output_space)) b in
    (rw (view-count s p output_space b) f, f)
answer-small s (read.TheVariants.Insert v) p l b =
    outcome-either (by s (insert p (content_of (value_of v l)))) (open_model b) (λ (x : Outcome). Small x.answer.told.result × (length x.answer.written ≤ 16384))
    (λ k. (omega arith, omega arith)) (λ a. (groups-few s p (content_of (value_of v l)) b a, omega arith))
answer-small s (read.TheVariants.Update v) p l b =
    outcome-either (by s (update p (content_of (value_of v l)))) (open_model b) (λ (x : Outcome). Small x.answer.told.result × (length x.answer.written ≤ 16384))
    (λ k. (omega arith, omega arith)) (λ a. (omega arith, omega arith))
answer-small s read.TheVariants.Delete p l b =
    outcome-either (by s (delete p)) (open_model b) (λ (x : Outcome). Small x.answer.told.result × (length x.answer.written ≤ 16384))
    (λ k. (omega arith, omega arith)) (λ a. (extending-few (steps_of p) s b, omega arith))
