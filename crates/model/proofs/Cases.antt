-- Every row of the table of test cases holds: each is computed on the empty model, and carried to the bytes.
use mathlib.Core.Path.{◌≡◌, refl, sym, ap, ap₂, ◌∙◌}
use mathlib.Core.Bool.{Bool, true, false, not, ◌&&◌}
use mathlib.Core.Option.{Option, none, some}
use mathlib.Core.List.{List, [], ◌∷◌, ◌++◌, map}
use Prim.Native.Nat.{ℕ}
use lib.IntN.{ℤ, pos, negsuc}
use lib.Dec.{T, eqb}
use mir.Facts.{eqb_yes}
use Rattle.model.specs.Lists.{all, is_byte, same_bytes, pad, ◌∈◌}
use Rattle.model.specs.Label.{is_label, level, sizing, fabric, cost, includes, dominates}
use Rattle.model.specs.Path.{same_step, valid_step, valid_path, key, former_key}
use Rattle.model.specs.Value.{is_printable, allowed, storable, bringable}
use Rattle.model.specs.Element.{valid_element, contains, closed, remove}
use Rattle.model.specs.Slot.{path_bytes, content_bytes, slot_bytes, read_path, read_content, read_slot, unused_zero}
use Rattle.model.specs.Partition.{partition_size, layout, slots, read_partition, well_formed_by}
use Rattle.model.specs.Store.{empty_store, has_partition, partition, replace}
use Rattle.model.specs.Model.{is_held, elements, open_cell, cell_bytes, Model, open_model, own_set, live}
use Rattle.model.specs.Text.{ascii, decimal, measure_of, signed, is_digit}
use Rattle.model.specs.View.{visible, in_view, listed, letter, shown, path_line, head_line, listing_of, listing}
use Rattle.model.specs.Tree.{shown_below, forest}
use Rattle.model.specs.Xml.{escaped, start_tag, end_tag, value_xml, outer_tag, document, xml_of, xml_view}
use Rattle.model.specs.Intake.{elements_of}
use Rattle.model.specs.Grade.{whole_of, measure_at}
use Rattle.model.specs.Rows.{refusal, some_raw, good_path, view_path}
use Rattle.model.specs.Groups.{seen_steps, own_behind, missing_paths, with_groups}
use Rattle.model.specs.Call.{subject_of, caller_rows, op_rows, table, Result, count as counts, graded, Answer, Outcome, writes, changes, extending, makes, replaced, effect, refused, done, outcome, after}
use Rattle.model.specs.Run.{answer_of, store_after, corrupted, feed}
use Rattle.model.specs.Migration.{former_well_formed, migrated}
use Rattle.model.specs.Script.{ScriptCall, step_text, call_text, in_range, call_of, lines_of, unread_line, answer_lines, output}
use Rattle.model.specs.Cases.{Expected, holds, Case, dominance, on_store, calls, migrating, script, store_after_all, AllHeld, Holds, marked_cases, further_cases, cases}
use Rattle.model.proofs.Bools.{and_l, and_r, is_true, is_false}
use Rattle.model.proofs.Lists.{same_bytes-eq}
use Rattle.model.proofs.Members.{all_in}
use Rattle.model.proofs.Dominance.{top-label}
use Rattle.model.proofs.Noninterference.{Agree, open-bytes, same_outcome, agree-seen, call-lawful}
use Rattle.model.proofs.Script.{step_guess, call_guess, readable, read_line, prints-all}
use Rattle.model.proofs.Empty.{empty_model, all-remain, agree-empty}

-- ---- a row as a test, of the model

same_whole : ℤ → ℤ → Bool
same_whole (pos a) (pos b) = eqb a b
same_whole (pos a) (negsuc b) = false
same_whole (negsuc a) (pos b) = false
same_whole (negsuc a) (negsuc b) = eqb a b

same_result : Result → Result → Bool
same_result (counts m) (counts n) = eqb m n
same_result (counts m) (graded z r) = false
same_result (graded y q) (counts n) = false
same_result (graded y q) (graded z r) = same_whole y z && eqb q r

same_answer : Answer → Answer → Bool
same_answer a b = eqb a.told.number b.told.number && same_result a.told.result b.told.result && same_bytes a.written b.written

abbrev held_test : Model → List Expected → Bool
held_test m [] = true
held_test m (holds n x ∷ ls) = is_label n && same_bytes (cell_bytes (m.cell n)) (pad partition_size x) && held_test m ls

-- what the runner prints, of a model
abbrev model_output : List (Option ScriptCall) → Model → List ℕ
model_output [] m = []
model_output (none ∷ rs) m = unread_line ++ model_output rs m
model_output (some c ∷ rs) m = answer_lines (outcome (call_of c) m).answer ++ model_output rs (after (call_of c) m)

abbrev same_bool : Bool → Bool → Bool
same_bool b true = b
same_bool b false = not b

abbrev case_test : Case → Bool
case_test (dominance l m b) = same_bool (dominates l m) b
case_test (on_store s c a) = same_answer (answer_of c s) a
case_test (calls cs c a ls) = same_answer (outcome c (feed cs empty_model)).answer a && held_test (after c (feed cs empty_model)) ls
case_test (migrating n x f y) = same_bool (former_well_formed n (pad partition_size x)) f && same_bytes (migrated n (pad partition_size x)) (pad partition_size y)
case_test (script i o) = same_bytes (ascii o) (model_output (map read_line (lines_of (ascii i))) empty_model)

-- ---- a row that passes holds of the bytes

same_bool_lem : (a b : Bool) → T (same_bool a b) → a ≡ b
same_bool_lem a true t = is_true a t
same_bool_lem a false t = is_false a t

same_whole_lem : (a b : ℤ) → T (same_whole a b) → a ≡ b
unfolding same_whole
same_whole_lem (pos a) (pos b) t = ap pos (eqb_yes t)
same_whole_lem (pos a) (negsuc b) t = absurd t
same_whole_lem (negsuc a) (pos b) t = absurd t
same_whole_lem (negsuc a) (negsuc b) t = ap negsuc (eqb_yes t)

same-result : (a b : Result) → T (same_result a b) → a ≡ b
unfolding same_result
same-result (counts m) (counts n) t = ap counts (eqb_yes t)
same-result (counts m) (graded z r) t = absurd t
same-result (graded y q) (counts n) t = absurd t
same-result (graded y q) (graded z r) t =
    ap₂ graded (same_whole_lem y z (and_l (same_whole y z) (eqb q r) t)) (eqb_yes (and_r (same_whole y z) (eqb q r) t))

same_answer_lem : (a b : Answer) → T (same_answer a b) → a ≡ b
unfolding same_answer
same_answer_lem a b t =
    let n : a.told.number ≡ b.told.number = eqb_yes (search (and_l, and_r)) in
    let r : a.told.result ≡ b.told.result = same-result a.told.result b.told.result (search (and_l, and_r)) in
    let w : a.written ≡ b.written = same_bytes-eq a.written b.written (search (and_l, and_r)) in
    λ i. record { told = record { number = n i; result = r i }; written = w i }

all_held : (ls : List Expected) (s : List ℕ) (m : Model) → Agree 31 s m → T (held_test m ls) → AllHeld ls s
all_held [] s m g t = tt
all_held (holds n x ∷ ls) s m g t =
    let label : T (is_label n) = search (and_l, and_r) in
    let bytes : T (same_bytes (cell_bytes (m.cell n)) (pad partition_size x)) = search (and_l, and_r) in (
      sym (open-bytes n (partition n s))
          ∙ ap cell_bytes (g.cells n (top-label n label))
          ∙ same_bytes-eq (cell_bytes (m.cell n)) (pad partition_size x) bytes,
      all_held ls s m g (search (and_l, and_r)),
    )

output-model : (rs : List (Option ScriptCall)) (s : List ℕ) (m : Model) → Agree 31 s m → output rs s ≡ model_output rs m
unfolding answer_of
output-model [] s m g = refl
output-model (none ∷ rs) s m g = ap (λ (l : List ℕ). unread_line ++ l) (output-model rs s m g)
output-model (some c ∷ rs) s m g =
    ap₂ (λ (x : Outcome) (l : List ℕ). answer_lines x.answer ++ l) (same_outcome call-lawful 31 (call_of c) s m (all-remain (call_of c)) g)
    (output-model rs (store_after (call_of c) s) (after (call_of c) m) (agree-seen call-lawful 31 (call_of c) s m (all-remain (call_of c)) g))

case-holds : (r : Case) → T (case_test r) → Holds r
unfolding answer_of
case-holds (dominance l m b) t = same_bool_lem (dominates l m) b t
case-holds (on_store s c a) t = same_answer_lem (answer_of c s) a t
case-holds (calls cs c a ls) t =
    let s : List ℕ = store_after_all cs in
    let m : Model = feed cs empty_model in
    let g : Agree 31 s m = agree-empty cs in (
      ap (λ (x : Outcome). x.answer) (same_outcome call-lawful 31 c s m (all-remain c) g)
          ∙ same_answer_lem (outcome c m).answer a (and_l (same_answer (outcome c m).answer a) (held_test (after c m) ls) t),
      all_held ls (store_after c s) (after c m) (agree-seen call-lawful 31 c s m (all-remain c) g)
          (and_r (same_answer (outcome c m).answer a) (held_test (after c m) ls) t),
    )
case-holds (migrating n x f y) t =
    let b : List ℕ = pad partition_size x in (
      same_bool_lem (former_well_formed n b) f (and_l (same_bool (former_well_formed n b) f) (same_bytes (migrated n b) (pad partition_size y)) t),
      same_bytes-eq (migrated n b) (pad partition_size y) (and_r (same_bool (former_well_formed n b) f) (same_bytes (migrated n b) (pad partition_size y)) t),
    )
case-holds (script i o) t =
    let rs : List (Option ScriptCall) = map read_line (lines_of (ascii i)) in
    rw (same_bytes-eq (ascii o) (model_output rs empty_model) t, ← (output-model rs empty_store empty_model (agree-empty []))) (prints-all (ascii i))

-- ---- the whole table passes

tested : T (all case_test cases)
unfolding same_whole same_result same_answer empty_model cases marked_cases further_cases is_byte pad is_label level sizing fabric cost includes
    dominates same_step valid_step valid_path key is_printable allowed storable bringable valid_element contains closed remove
    path_bytes content_bytes slot_bytes read_path read_content read_slot unused_zero layout slots read_partition well_formed_by has_partition
    partition replace is_held elements open_cell cell_bytes open_model own_set live decimal measure_of signed visible in_view listed
    letter shown path_line head_line listing_of listing shown_below forest escaped start_tag end_tag value_xml outer_tag document xml_of
    xml_view elements_of whole_of measure_at subject_of refusal some_raw good_path view_path caller_rows op_rows table writes changes extending makes replaced effect
    seen_steps own_behind missing_paths with_groups
    refused done outcome after answer_of store_after corrupted empty_store call_text in_range step_text call_of unread_line answer_lines
    is_digit call_guess step_guess readable read_line former_key migrated
tested = tt

-- each row of the table holds
pub cases-hold : (r : Case) → r ∈ cases → Holds r
cases-hold r m = case-holds r (all_in case_test cases tested m)
