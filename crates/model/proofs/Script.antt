-- Script lines are read in one way, and each input has one output.
use mathlib.Core.Path.{◌≡◌, refl, sym, ap, ap₂, ◌∙◌}
use mathlib.Core.Bool.{Bool, true, not, cond, ◌&&◌}
use mathlib.Core.Option.{Option, none, some}
use mathlib.Core.List.{List, [], ◌∷◌, ◌++◌, map}
use Prim.Native.Nat.{ℕ, ◌-◌}
use lib.ListN.{length, get_or, drop}
use lib.Dec.{T, eqb, leb}
use mir.Facts.{T_not, leb_yes, yes_leb, ltb_yes}
use Rattle.model.specs.Lists.{all, same_bytes}
use Rattle.model.specs.Path.{Step}
use Rattle.model.specs.Value.{is_printable}
use Rattle.model.specs.Store.{empty_store}
use Rattle.model.specs.Text.{decimal, signed, is_digit, digits_value}
use Rattle.model.specs.Script.{ScriptValue, group, measure, text, ScriptOp, view, insert, update, delete, ScriptCall}
use Rattle.model.specs.Script.{step_text, path_text, value_fields, op_fields, call_text, path_in_range, value_in_range, op_in_range, in_range}
use Rattle.model.specs.Script.{Reads, Reading, lines_of, output, Readings, Prints}
use Rattle.model.proofs.Bools.{and_l, and_r, both, decide, cond_yes, cond_no}
use Rattle.model.proofs.Lists.{same_bytes-eq, same_bytes-refl}
use Rattle.model.proofs.Fields.{all_map, all-joined, split, split-joined, lacks, lacks-of}
use Rattle.model.proofs.Decimal.{decimal-value, decimal-digits, signed_value, signed-fact, signed-value}

-- ---- the call that a line has to be if it is one

unfoldable pub step_guess : List ℕ → Step
step_guess t = let fs = split 58 t in record { name = digits_value (get_or fs 0 []); label = digits_value (get_or fs 1 []) }

-- from the texts of steps; those of a lone / are empty
abbrev pub step_guesses : List (List ℕ) → List Step
step_guesses [] = []
step_guesses ([] ∷ fs) = []
step_guesses ((x ∷ f) ∷ fs) = map step_guess ((x ∷ f) ∷ fs)

abbrev pub path_guess : List ℕ → List Step
path_guess t = step_guesses (split 47 t)

-- from the fields of a value: kind and text
abbrev pub value_guess : List (List ℕ) → ScriptValue
value_guess fs =
    let k = get_or (get_or fs 0 []) 0 0 in
    let t = get_or fs 1 [] in
    cond (eqb k 71) group (cond (eqb k 77) (measure (signed_value t)) (text t))

-- from the fields after the subject: verb, path and value
abbrev pub op_guess : List (List ℕ) → ScriptOp
op_guess fs =
    let b = get_or (get_or fs 0 []) 0 0 in
    let p = path_guess (get_or fs 1 []) in
    let v = value_guess (drop 2 fs) in
    cond (eqb b 86) (view p) (cond (eqb b 73) (insert p v) (cond (eqb b 85) (update p v) (delete p)))

-- from the fields of a line
unfoldable pub call_guess : List ℕ → ScriptCall
call_guess l = let fs = split 9 l in record { subject = digits_value (get_or fs 0 []); op = op_guess (drop 1 fs) }

-- ---- the guess of a call's text is the call

decimal-lacks : (s n : ℕ) → T (not (is_digit s)) → T (lacks s (decimal n))
decimal-lacks s n h = lacks-of is_digit s h (decimal n) (decimal-digits n)

-- a step's two fields hold digits only
step-fields-lack : (s : ℕ) → T (not (is_digit s)) → (a : Step) → T (all (lacks s) (decimal a.name ∷ decimal a.label ∷ []))
step-fields-lack s h a =
    let n : T (lacks s (decimal a.name)) = decimal-lacks s a.name h in
    let l : T (lacks s (decimal a.label)) = decimal-lacks s a.label h in
    search (both, n, l)

step-split : (a : Step) → split 58 (step_text a) ≡ decimal a.name ∷ decimal a.label ∷ []
unfolding step_text is_digit
step-split a = split-joined 58 (decimal a.name) (decimal a.label ∷ []) (step-fields-lack 58 tt a)

step-guess : (a : Step) → step_guess (step_text a) ≡ a
unfolding step_guess
step-guess a = λ i. record {
  name = (ap (λ (fs : List (List ℕ)). digits_value (get_or fs 0 [])) (step-split a) ∙ decimal-value a.name) i;
  label = (ap (λ (fs : List (List ℕ)). digits_value (get_or fs 1 [])) (step-split a) ∙ decimal-value a.label) i;
}

steps-guess : (p : List Step) → map step_guess (map step_text p) ≡ p
steps-guess [] = refl
steps-guess (a ∷ p) = ap₂ (λ (b : Step) (q : List Step). b ∷ q) (step-guess a) (steps-guess p)

-- fields of which the first is not empty
guesses-begin : (x : List ℕ) (y : ℕ) (z : List ℕ) (fs : List (List ℕ)) →
    step_guesses ((x ++ (y ∷ z)) ∷ fs) ≡ map step_guess ((x ++ (y ∷ z)) ∷ fs)
guesses-begin [] y z fs = refl
guesses-begin (a ∷ x) y z fs = refl

step-lacks : (s : ℕ) → T (not (is_digit s)) → T (not (eqb 58 s)) → (a : Step) → T (lacks s (step_text a))
unfolding step_text
step-lacks s h k a = all-joined (λ x. not (eqb x s)) 58 k (decimal a.name ∷ decimal a.label ∷ []) (step-fields-lack s h a)

path-guess : (p : List Step) → path_guess (path_text p) ≡ p
unfolding step_text is_digit
path-guess [] = refl
path-guess (a ∷ p) =
    ap step_guesses (split-joined 47 (step_text a) (map step_text p) (all_map (lacks 47) step_text (step-lacks 47 tt tt) (a ∷ p)))
    ∙ guesses-begin (decimal a.name) 58 (decimal a.label) (map step_text p)
    ∙ steps-guess (a ∷ p)

path-lacks : (p : List Step) → T (lacks 9 (path_text p))
unfolding is_digit
path-lacks [] = tt
path-lacks (a ∷ p) = all-joined (λ x. not (eqb x 9)) 47 tt (map step_text (a ∷ p)) (all_map (lacks 9) step_text (step-lacks 9 tt tt) (a ∷ p))

signed-lacks : (m : ℕ) → T (lacks 9 (signed m))
unfolding is_digit
signed-lacks m = signed-fact (λ l. T (lacks 9 l)) m (λ k. decimal-lacks 9 m tt) (λ k. decimal-lacks 9 (4294967296 - m) tt)

value-lacks : (v : ScriptValue) → T (value_in_range v) → T (all (lacks 9) (value_fields v))
unfolding is_printable
value-lacks group t = tt
value-lacks (measure m) t = both (lacks 9 (signed m)) true (signed-lacks m) tt
value-lacks (text l) t = both (lacks 9 l) true (lacks-of is_printable 9 tt l t) tt

-- of a path and what follows it
after-path-lacks : (p : List Step) (fs : List (List ℕ)) → T (all (lacks 9) fs) → T (all (lacks 9) (path_text p ∷ fs))
after-path-lacks p fs = both (lacks 9 (path_text p)) (all (lacks 9) fs) (path-lacks p)

op-lacks : (o : ScriptOp) → T (op_in_range o) → T (all (lacks 9) (op_fields o))
op-lacks (view p) t = after-path-lacks p [] tt
op-lacks (insert p v) t = after-path-lacks p (value_fields v) (value-lacks v (and_r (path_in_range p) (value_in_range v) t))
op-lacks (update p v) t = after-path-lacks p (value_fields v) (value-lacks v (and_r (path_in_range p) (value_in_range v) t))
op-lacks (delete p) t = after-path-lacks p [] tt

value-guess : (v : ScriptValue) → T (value_in_range v) → value_guess (value_fields v) ≡ v
value-guess group t = refl
value-guess (measure m) t = ap measure (signed-value m (ltb_yes t))
value-guess (text l) t = refl

op-guess : (o : ScriptOp) → T (op_in_range o) → op_guess (op_fields o) ≡ o
op-guess (view p) t = ap view (path-guess p)
op-guess (insert p v) t = ap₂ insert (path-guess p) (value-guess v (and_r (path_in_range p) (value_in_range v) t))
op-guess (update p v) t = ap₂ update (path-guess p) (value-guess v (and_r (path_in_range p) (value_in_range v) t))
op-guess (delete p) t = ap delete (path-guess p)

call-split : (c : ScriptCall) → T (op_in_range c.op) → split 9 (call_text c) ≡ decimal c.subject ∷ op_fields c.op
unfolding call_text is_digit
call-split c t =
    split-joined 9 (decimal c.subject) (op_fields c.op)
    (both (lacks 9 (decimal c.subject)) (all (lacks 9) (op_fields c.op)) (decimal-lacks 9 c.subject tt) (op-lacks c.op t))

call-guess : (c : ScriptCall) → T (in_range c) → call_guess (call_text c) ≡ c
unfolding call_guess in_range
call-guess c t =
    let o : T (op_in_range c.op) = and_r (leb c.subject 255) (op_in_range c.op) t in
    λ i. record {
      subject = (ap (λ (fs : List (List ℕ)). digits_value (get_or fs 0 [])) (call-split c o) ∙ decimal-value c.subject) i;
      op = (ap (λ (fs : List (List ℕ)). op_guess (drop 1 fs)) (call-split c o) ∙ op-guess c.op o) i;
    }

-- calls with the same text are the same
pub text-injective : (c d : ScriptCall) → T (in_range c) → T (in_range d) → call_text c ≡ call_text d → c ≡ d
text-injective c d s t e = sym (call-guess c s) ∙ ap call_guess e ∙ call-guess d t

-- ---- reading a line

-- the line is short and the text of its guess, which is in range
unfoldable pub readable : List ℕ → Bool
readable l = leb (length l) 256 && in_range (call_guess l) && same_bytes (call_text (call_guess l)) l

unfoldable pub read_line : List ℕ → Option ScriptCall
read_line l = cond (readable l) (some (call_guess l)) none

readable-reads : (l : List ℕ) → T (readable l) → Reads l (call_guess l)
unfolding readable
readable-reads l t = record {
  short = leb_yes (search (and_l, and_r));
  ranges = search (and_l, and_r);
  same = sym (same_bytes-eq (call_text (call_guess l)) l (search (and_l, and_r)));
}

reads-readable : (l : List ℕ) (c : ScriptCall) → Reads l c → T (readable l)
unfolding readable
reads-readable l c r =
    let e : call_guess l ≡ c = ap call_guess r.same ∙ call-guess c r.ranges in
    let s : T (leb (length l) 256) = yes_leb r.short in
    let g : T (in_range (call_guess l)) = rw e r.ranges in
    let b : T (same_bytes (call_text (call_guess l)) l) = rw (e, ← r.same) (same_bytes-refl l) in
    search (both, s, g, b)

pub read_line-reads : (l : List ℕ) → Reading l (read_line l)
unfolding read_line
read_line-reads l =
    decide (readable l)
    (λ (t : T (readable l)). rw (cond_yes (readable l) (some (call_guess l)) none t) (readable-reads l t))
    (λ (t : T (not (readable l))). rw (cond_no (readable l) (some (call_guess l)) none t) (λ c r. T_not (readable l) (reads-readable l c r) t))

pub reading-unique : (l : List ℕ) (r q : Option ScriptCall) → Reading l r → Reading l q → r ≡ q
reading-unique l none none s t = refl
reading-unique l none (some d) s t = absurd (s d t)
reading-unique l (some c) none s t = absurd (t c s)
reading-unique l (some c) (some d) s t = ap some (text-injective c d s.ranges t.ranges (sym s.same ∙ t.same))

-- ---- what the runner prints

readings-all : (ls : List (List ℕ)) → Readings ls (map read_line ls)
readings-all [] = tt
readings-all (l ∷ ls) = (read_line-reads l, readings-all ls)

readings-unique : (ls : List (List ℕ)) (rs qs : List (Option ScriptCall)) → Readings ls rs → Readings ls qs → rs ≡ qs
readings-unique [] [] [] s t = refl
readings-unique [] [] (q ∷ qs) s t = absurd t
readings-unique [] (r ∷ rs) qs s t = absurd s
readings-unique (l ∷ ls) [] qs s t = absurd s
readings-unique (l ∷ ls) (r ∷ rs) [] s t = absurd t
readings-unique (l ∷ ls) (r ∷ rs) (q ∷ qs) s t =
    ap₂ (λ (x : Option ScriptCall) (xs : List (Option ScriptCall)). x ∷ xs)
    (reading-unique l r q s.0 t.0) (readings-unique ls rs qs s.1 t.1)

-- every input has an output
pub prints-all : (i : List ℕ) → Prints i (output (map read_line (lines_of i)) empty_store)
prints-all i = record { readings = map read_line (lines_of i); read = readings-all (lines_of i); printed = refl }

-- and no other
pub prints-unique : (i o p : List ℕ) → Prints i o → Prints i p → o ≡ p
prints-unique i o p s t =
    s.printed
    ∙ ap (λ (rs : List (Option ScriptCall)). output rs empty_store) (readings-unique (lines_of i) s.readings t.readings s.read t.read)
    ∙ sym t.printed
