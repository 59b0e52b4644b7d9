-- The lines of a slot's element: the removed prefixes of its path, and its own; none has more than 64 bytes.
use mathlib.Core.Path.{◌≡◌, refl, sym, ap, ap₂, subst, ◌∙◌}
use mathlib.Core.Bool.{true, ◌&&◌}
use mathlib.Core.Option.{Option, none, some}
use mathlib.Core.List.{List, [], ◌∷◌, ◌++◌}
use Prim.Native.Nat.{ℕ, zero, suc, ◌+◌, ◌-◌, ◌*◌, ◌≤◌, ◌<◌}
use native.Mathlib.Omega.{arith}
use native.Mathlib.Numerals.{add-one}
use lib.ListN.{length, take, drop, length-append, drop_of_length-le}
use lib.Seq.{length-take-le, take_all}
use lib.Dec.{T}
use mir.Syntax.{w32}
use mir.Val.{Fits}
use mir.Facts.{leb_yes, not_T}
use Rattle.model.specs.Lists.{all, gather}
use Rattle.model.specs.Path.{Step, same_path, prefixes, last_step, ends_in, valid_step, valid_path}
use Rattle.model.specs.Value.{Content, allowed, storable}
use Rattle.model.specs.Element.{Element, valid_element}
use Rattle.model.specs.Slot.{depth, step_at, value_length, read_path, read_content, read_slot}
use Rattle.model.specs.View.{content_at, path_line}
use Rattle.model.proofs.Prefixes.{length-prefixes, prefix-at}
use Rattle.model.proofs.Lists.{take_range}
use Rattle.model.proofs.Bools.{and_l, and_r, cond_yes, cond_no, is_true}
use Rattle.model.proofs.Dominance.{label-lt}
use Rattle.model.proofs.Paths.{same-eq, same_refl}
use Rattle.model.proofs.Slots.{valid-fits}
use Rattle.path.proofs.Steps.{last-range}
use Rattle.slot.proofs.Reading.{length-path, storable-short, short-steps}
use Rattle.line.specs.Line.{line_of}
use Rattle.line.proofs.Widths.{line-short}
use Rattle.listing.specs.Used.{Used, lines_from}

-- ---- what is known of a used slot

module _ {b : List ℕ} (used : Used b) where
  path-valid : true ≡ (valid_path (read_path b) && ends_in used.label (read_path b))
  unfolding valid_element read_slot
  path-valid = sym (is_true _ (and_l (valid_path (read_path b) && ends_in used.label (read_path b)) (storable (read_content b)) used.valid))

  content-valid : T (storable (read_content b))
  unfolding valid_element read_slot
  content-valid = and_r (valid_path (read_path b) && ends_in used.label (read_path b)) (storable (read_content b)) used.valid

  pub used-some : 1 ≤ depth b
  unfolding valid_path
  used-some =
      let t : T (valid_path (read_path b) && ends_in used.label (read_path b)) = rw (← path-valid) tt in
      let h : 1 ≤ length (read_path b) = leb_yes (search (and_l, and_r)) in
      rw (length-path b) at h

  pub used-steps : depth b ≤ 6
  used-steps = short-steps used.label b path-valid refl (sym (is_true _ content-valid)) refl

  pub used-value : value_length b ≤ 16
  used-value = storable-short b content-valid used.size

  -- the kind and value as they are read
  pub used-content : {k : ℕ} {v : List ℕ} → k ≡ (read_content b).kind → v ≡ (read_content b).value → T (allowed k v)
  unfolding storable
  used-content e f = rw (e, f) content-valid

-- ---- the first steps of a slot's path

pub last_step_lem : (b : List ℕ) (d : ℕ) → d < depth b → last_step (take (suc d) (read_path b)) ≡ some (step_at b d)
unfolding read_path
last_step_lem b d h =
    let e : 0 + d ≡ d = omega arith in
    ap last_step (take_range (step_at b) (suc d) 0 (depth b) (omega arith)) ∙ last-range (step_at b) 0 d ∙ ap (λ (i : ℕ). some (step_at b i)) e

-- ---- lines by what they show

-- a path with the last step a
path-line : (e : Element) (p : List Step) {d : ℕ} {a : Step} {c : Option Content} → length p ≡ d → last_step p ≡ some a
    → content_at (e ∷ []) p ≡ c → line_of d a c ≡ path_line (e ∷ []) p
unfolding line_of path_line
path-line e p l t s = sym (rw (l, t, s) refl)

-- no content stands at a path that is shorter
pub content-shorter : (e : Element) (p : List Step) → length p < length e.path → content_at (e ∷ []) p ≡ none
content-shorter e p h =
    cond_no (same_path p e.path) (some e.content) none
    (not_T (same_path p e.path) (λ t. let k : length p ≡ length e.path = ap length (same-eq p e.path t) in omega arith))

pub content-own : (e : Element) → content_at (e ∷ []) e.path ≡ some e.content
content-own e = cond_yes (same_path e.path e.path) (some e.content) none (same_refl e.path)

-- the line of the first d + 1 steps, by the numbers read
pub above-line : (b : List ℕ) (d : ℕ) → d + 1 < depth b → {x : ℕ} {a : Step} → x ≡ d + 1 → a ≡ step_at b d
    → line_of x a none ≡ path_line (read_slot b ∷ []) (take (d + 1) (read_path b))
unfolding read_slot
above-line b d h ex e =
    let l : length (read_path b) ≡ depth b = length-path b in
    let k : length (take (d + 1) (read_path b)) ≡ d + 1 = length-take-le (d + 1) (read_path b) (omega arith) in
    let t : last_step (take (d + 1) (read_path b)) ≡ some (step_at b d) =
    ap (λ (n : ℕ). last_step (take n (read_path b))) (add-one d) ∙ last_step_lem b d (omega arith) in
    let c : content_at (read_slot b ∷ []) (take (d + 1) (read_path b)) ≡ none = content-shorter (read_slot b) (take (d + 1) (read_path b)) (omega arith) in
    rw (ex, e) (path-line (read_slot b) (take (d + 1) (read_path b)) k t c)

-- the line of the whole path, by the numbers and the value read
pub own_line : (b : List ℕ) → 1 ≤ depth b → {d x k : ℕ} {a : Step} {v : List ℕ} → (d ≡ depth b) × (d < 256) → x ≡ d
    → a ≡ step_at b (d - 1) → k ≡ (read_content b).kind → v ≡ (read_content b).value
    → line_of x a (some (record { kind = k; value = v })) ≡ path_line (read_slot b ∷ []) (read_path b)
unfolding read_slot
own_line b h {d} ed ex e ek ev =
    let l : length (read_path b) ≡ d = length-path b ∙ sym ed.0 in
    let s : suc (d - 1) ≡ d = omega (arith, ed.0) in
    let t : last_step (read_path b) ≡ some (step_at b (d - 1)) =
    ap last_step (sym (take_all (suc (d - 1)) (read_path b) (omega arith))) ∙ last_step_lem b (d - 1) (omega (arith, ed.0)) in
    rw (ex, e, ek, ev) (path-line (read_slot b) (read_path b) l t (content-own (read_slot b)))

-- ---- the lines from one prefix on

pub lines_more : (b : List ℕ) (d : ℕ) → d < depth b
    → lines_from d b ≡ path_line (read_slot b ∷ []) (take (d + 1) (read_path b)) ++ lines_from (d + 1) b
lines_more b d h =
    let l : length (read_path b) ≡ depth b = length-path b in
    ap (gather (path_line (read_slot b ∷ []))) (prefix-at d (read_path b) (omega arith)) ∙ rw (add-one d)

pub lines-last : (b : List ℕ) (d : ℕ) → d + 1 ≡ depth b → lines_from d b ≡ path_line (read_slot b ∷ []) (read_path b) ++ []
lines-last b d h =
    let l : length (read_path b) ≡ depth b = length-path b in
    let k : length (prefixes (read_path b)) ≡ length (read_path b) = length-prefixes (read_path b) in
    lines_more b d (omega arith)
    ∙ ap₂ (λ (x : List Step) (y : List (List Step)). path_line (read_slot b ∷ []) x ++ gather (path_line (read_slot b ∷ [])) y)
    (take_all (d + 1) (read_path b) (omega arith)) (drop_of_length-le (prefixes (read_path b)) {i = d + 1} (omega arith))

-- ---- how long they are

-- the last of the first d + 1 of valid steps
pub last-valid : (q : List Step) (d : ℕ) → d < length q → T (all valid_step q)
    → (a : Step) × (last_step (take (suc d) q) ≡ some a) × (a.name ≤ 65535) × (a.label < 32)
unfolding valid_step
last-valid [] d h t = absurd (omega arith)
last-valid (a ∷ q) zero h t =
    let n : a.name ≤ 65535 = leb_yes (search (and_l, and_r)) in
    let l : a.label < 32 = label-lt a.label (search (and_l, and_r)) in
    (a, refl, n, l)
last-valid (a ∷ []) (suc d) h t = absurd (omega arith)
last-valid (a ∷ b ∷ q) (suc d) h t = last-valid (b ∷ q) d (omega arith) (and_r (valid_step a) (all valid_step (b ∷ q)) t)

module _ (n : ℕ) (e : Element) (valid : T (valid_element n e)) where
  -- the line of the first d + 1 steps
  path-short : (d : ℕ) → d < length e.path → length (path_line (e ∷ []) (take (suc d) e.path)) ≤ 64
  unfolding valid_element valid_path
  path-short d h =
      let p : List Step = take (suc d) e.path in
      let a = last-valid e.path d h (search (and_l, and_r)) in
      let k : Fits w32 (length p) = record { fits = omega (arith, length-take-le (suc d) e.path h, (valid-fits n e valid).steps) } in
      let c : T (storable e.content) = search (and_l, and_r) in
      subst (λ (l : List ℕ). length l ≤ 64) (path-line e p refl a.1 refl) (line-short k (omega (arith, a.2), omega (arith, a.3)) (same_path p e.path) e.content c)

  -- the lines of the prefixes with more than d steps, k of them
  pub lines-short : (k d : ℕ) → k ≡ length e.path - d → length (gather (path_line (e ∷ [])) (drop d (prefixes e.path))) ≤ 64 * k
  lines-short zero d h = rw (drop_of_length-le (prefixes e.path) {i = d} (omega (arith, length-prefixes e.path))) (omega arith)
  lines-short (suc k) d h =
      rw (prefix-at d e.path (omega arith))
      (rw length-append (omega (arith, path-short d (omega arith), lines-short k (suc d) (omega arith))))

-- the same of a slot
pub above-short : {b : List ℕ} (used : Used b) (d : ℕ) → d < depth b → length (path_line (read_slot b ∷ []) (take (d + 1) (read_path b))) ≤ 64
unfolding read_slot
above-short {b} used d h = rw (add-one d) (path-short used.label (read_slot b) used.valid d (omega (arith, length-path b)))
