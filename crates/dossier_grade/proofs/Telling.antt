-- What an even grade has done, by its rows and by what is seen at its two paths.
use mathlib.Core.Path.{◌≡◌, refl, sym, ap, ap₂, subst, ◌∙◌}
use mathlib.Core.Bool.{Bool, true, false, not, cond, ◌&&◌}
use mathlib.Core.Option.{Option, none, some}
use mathlib.Core.List.{List, [], ◌++◌}
use Prim.Native.Nat.{ℕ, ◌≤◌, ◌<◌}
use native.Mathlib.Omega.{arith}
use lib.IntN.{ℤ, pos, ◌-ℤ◌}
use lib.Dec.{T, eqb, leb}
use mir.Facts.{not_T, T_not, yes_leb, no_leb}
use Rattle.model.specs.Path.{Step, steps_of}
use Rattle.model.specs.Value.{Content}
use Rattle.model.specs.Model.{open_model}
use Rattle.model.specs.Text.{measure_of}
use Rattle.model.specs.View.{visible, in_view, content_at}
use Rattle.model.specs.Grade.{whole_of, measure_in, measure_at, Even, step_of, remainder_of}
use Rattle.model.specs.Rows.{row_code, view_path, view_path_rows, seen_rows, sizes_rows, measure_rows, asked_rows, measured_rows}
use Rattle.model.specs.Call.{Told, grade, op_rows, grade_told, grade_of, writes, effect}
use Rattle.model.specs.Call as told
use Rattle.model.proofs.Bools.{and_l, and_r, both, not-not, yes-not-not}
use Rattle.model.proofs.Rows.{Passes, passes_append, row-applies, rows_behind, rows_pass, rows_end}
use Rattle.model.proofs.Dividing.{even-one}
use Rattle.model.proofs.Grades.{rows-sizes}
use Rattle.store.specs.Opened.{Opened}
use Rattle.promise.specs.Did.{Acted}
use Rattle.promise.proofs.Doing.{gives-told, acted-refused, acted-done}
use Rattle.table.proofs.Walking.{told-yes, told-no}
use Rattle.std.specs.Prelude.{Some, None, Result, Ok, Err}
use Rattle.std.specs.Prelude as plain
use Rattle.promise.specs.declared.Refusal.{Refusal}
use Rattle.promise.specs.declared.Refusal.TheVariants.{NoMeasure}
use Rattle.promise.specs.Refusals.{code}
use Rattle.promise.proofs.Refusing.{code-some, err-stops}
use Rattle.dossier_grade.specs.Sights.{sight_of, sight_at}

-- ---- rows 4 and 11

module _ (p q : List ℕ) (n : ℕ) where
  pub asked-base : (x : Refusal) → code x ≡ row_code (view_path_rows p) → code x ≡ row_code (asked_rows p q n)
  asked-base x e = err-stops (view_path_rows p) (view_path_rows q ++ sizes_rows n) x e

  module _ (e : 0 ≡ row_code (view_path_rows p)) where
    base : Passes (view_path_rows p)
    base = rows_pass (view_path_rows p) tt e refl

    pub asked-top : (x : Refusal) → code x ≡ row_code (view_path_rows q) → code x ≡ row_code (asked_rows p q n)
    asked-top x f = rows_behind (view_path_rows p) (view_path_rows q ++ sizes_rows n) base (err-stops (view_path_rows q) (sizes_rows n) x f)

    module _ (f : 0 ≡ row_code (view_path_rows q)) where
      paths-pass : Passes (view_path_rows p ++ view_path_rows q)
      paths-pass = passes_append (view_path_rows p) (view_path_rows q) base (rows_pass (view_path_rows q) tt f refl)

      sizes-refused : T (not (leb 1 n && leb n 64)) → 11 ≡ row_code (asked_rows p q n)
      sizes-refused t = rows_behind (view_path_rows p ++ view_path_rows q) (sizes_rows n) paths-pass (row-applies _ _ t)

      pub asked-few : n < 1 → 11 ≡ row_code (asked_rows p q n)
      asked-few h = sizes-refused (not_T (leb 1 n && leb n 64) (λ t. T_not (leb 1 n) (and_l (leb 1 n) (leb n 64) t) (no_leb h)))

      pub asked-many : 64 < n → 11 ≡ row_code (asked_rows p q n)
      asked-many h = sizes-refused (not_T (leb 1 n && leb n 64) (λ t. T_not (leb n 64) (and_r (leb 1 n) (leb n 64) t) (no_leb h)))

      pub asked-none : 1 ≤ n → n ≤ 64 → 0 ≡ row_code (asked_rows p q n)
      asked-none h k =
          let sizes : T (leb 1 n && leb n 64) = both (leb 1 n) (leb n 64) (yes_leb h) (yes_leb k) in
          rows_end (asked_rows p q n) (passes_append (view_path_rows p ++ view_path_rows q) (sizes_rows n) paths-pass (yes-not-not (leb 1 n && leb n 64) sizes, tt))

-- ---- rows 7 and 12, and the grade

-- what an even grade tells of the sights of its two paths: 7 before 12, then the grade
abbrev pub told_of : (base top : Result (plain.Option ℕ) Refusal) → ℕ → Told
told_of (Err x) y n = grade_told 7 (pos 0) 0
told_of (Ok u) (Err y) n = grade_told 7 (pos 0) 0
told_of (Ok None) (Ok v) n = grade_told 12 (pos 0) 0
told_of (Ok (Some a)) (Ok None) n = grade_told 12 (pos 0) 0
told_of (Ok (Some a)) (Ok (Some d)) n = grade_told 0 (step_of n (whole_of d -ℤ whole_of a)) (remainder_of n (whole_of d -ℤ whole_of a))

-- what a sight says of the path
abbrev Sees : Result (plain.Option ℕ) Refusal → ℕ → List ℕ → List Step → Type 0
Sees (Err x) s b p = T (not (in_view s (open_model b) p)) × (code x ≡ 7)
Sees (Ok None) s b p = T (in_view s (open_model b) p) × (measure_at (visible s (open_model b)) p ≡ none)
Sees (Ok (Some x)) s b p = T (in_view s (open_model b) p) × (measure_at (visible s (open_model b)) p ≡ some (whole_of x))

sight-says : (s : ℕ) (b : List ℕ) (p : List Step) → Sees (sight_at s b p) s b p
unfolding measure_at
sight-says s b p = go (in_view s (open_model b) p) (content_at (visible s (open_model b)) p) refl refl
  where
    measure : (c : Content) (t : Bool) → eqb c.kind 1 ≡ t → T (in_view s (open_model b) p) → content_at (visible s (open_model b)) p ≡ some c
        → Sees (Ok (cond t (Some (measure_of c.value)) None)) s b p
    measure c true e v k = (v, ap measure_in k ∙ ap (λ (u : Bool). cond u (some (whole_of (measure_of c.value))) none) e)
    measure c false e v k = (v, ap measure_in k ∙ ap (λ (u : Bool). cond u (some (whole_of (measure_of c.value))) none) e)

    go : (v : Bool) (c : Option Content) → in_view s (open_model b) p ≡ v → content_at (visible s (open_model b)) p ≡ c → Sees (sight_of v c) s b p
    go false c e k = (told-no refl e, refl)
    go true none e k = (told-yes refl e, ap measure_in k)
    go true (some c) e k = measure c (eqb c.kind 1) refl (told-yes refl e) k

in-sight : (s : ℕ) (b : List ℕ) (p : List Step) (u : plain.Option ℕ) → Sees (Ok u) s b p → T (in_view s (open_model b) p)
in-sight s b p None w = w.0
in-sight s b p (Some x) w = w.0

sees-as : (s : ℕ) (b : List ℕ) (p : List Step) {r : Result (plain.Option ℕ) Refusal} → r ≡ sight_at s b p → Sees r s b p
sees-as s b p e = subst (λ (x : Result (plain.Option ℕ) Refusal). Sees x s b p) (sym e) (sight-says s b p)

module _ (s : ℕ) (b : List ℕ) (p q : List Step) where
  -- the two paths are in view
  module _ (v : T (in_view s (open_model b) p)) (w : T (in_view s (open_model b) q)) where
    seen-both : Passes (seen_rows s (open_model b) p ++ seen_rows s (open_model b) q)
    seen-both = (yes-not-not (in_view s (open_model b) p) v, (yes-not-not (in_view s (open_model b) q) w, tt))

    twelve-base : measure_at (visible s (open_model b)) p ≡ none → 12 ≡ row_code (measured_rows s (open_model b) p q)
    twelve-base e =
        rows_behind (seen_rows s (open_model b) p ++ seen_rows s (open_model b) q) (measure_rows s (open_model b) p ++ measure_rows s (open_model b) q) seen-both
        (row-applies _ _ (rw e tt))

    module _ {y : ℤ} (f : measure_at (visible s (open_model b)) p ≡ some y) where
      measured-base : Passes (seen_rows s (open_model b) p ++ seen_rows s (open_model b) q ++ measure_rows s (open_model b) p)
      measured-base = (seen-both.0, (seen-both.1.0, (rw f tt, tt)))

      twelve-top : measure_at (visible s (open_model b)) q ≡ none → 12 ≡ row_code (measured_rows s (open_model b) p q)
      twelve-top e =
          rows_behind (seen_rows s (open_model b) p ++ seen_rows s (open_model b) q ++ measure_rows s (open_model b) p) (measure_rows s (open_model b) q)
          measured-base (row-applies _ _ (rw e tt))

      measured-both : {z : ℤ} → measure_at (visible s (open_model b)) q ≡ some z → Passes (measured_rows s (open_model b) p q)
      measured-both e = (seen-both.0, (seen-both.1.0, (measured-base.1.1.0, (rw e tt, tt))))

  seven-base : T (not (in_view s (open_model b) p)) → 7 ≡ row_code (measured_rows s (open_model b) p q)
  seven-base t = row-applies _ _ t

  seven-top : T (in_view s (open_model b) p) → T (not (in_view s (open_model b) q)) → 7 ≡ row_code (measured_rows s (open_model b) p q)
  seven-top v t =
      rows_behind (seen_rows s (open_model b) p) (seen_rows s (open_model b) q ++ measure_rows s (open_model b) p ++ measure_rows s (open_model b) q)
      (yes-not-not (in_view s (open_model b) p) v, tt) (row-applies _ _ t)

-- what is told where a path is not seen
pub told-seven : (s : ℕ) (b : List ℕ) (p : List Step) {x : Refusal} → Err x ≡ sight_at s b p → grade_told (code x) (pos 0) 0 ≡ grade_told 7 (pos 0) 0
told-seven s b p {x} f = let w : Sees (Err x) s b p = sees-as s b p f in ap (λ (k : ℕ). grade_told k (pos 0) 0) w.1

-- what satisfies the equation and the bound is what the definitions tell
pub evenly-told : (a d n : ℕ) → 0 < n → {z : ℤ} {r : ℕ} → Even n (whole_of d -ℤ whole_of a) z r → grade_told 0 z r ≡ told_of (Ok (Some a)) (Ok (Some d)) n
evenly-told a d n h {z} {r} e =
    let f : (z ≡ step_of n (whole_of d -ℤ whole_of a)) × (r ≡ remainder_of n (whole_of d -ℤ whole_of a)) = even-one n h e in
    ap₂ (grade_told 0) f.0 f.1

-- ---- the call

module _ {s : ℕ} {b : List ℕ} (o : Opened b s) (p q : List ℕ) (n : ℕ) where
  -- refused by rows 4 and 11
  pub grade-stops : (x : Refusal) → code x ≡ row_code (asked_rows p q n) → Acted (grade p q n) s b [] (grade_told (code x) (pos 0) 0) b []
  unfolding op_rows
  grade-stops x e =
      acted-refused (grade p q n) s b [] o.formed (err-stops (asked_rows p q n) (measured_rows s (open_model b) (steps_of p) (steps_of q)) x e) (code-some x)

  module _ (e : 0 ≡ row_code (asked_rows p q n)) where
    asked : Passes (asked_rows p q n)
    asked = rows_pass (asked_rows p q n) tt e refl

    -- so both paths may be asked for, and there is a size
    pub asked-paths : T (view_path p) × T (view_path q)
    asked-paths = (not-not (view_path p) asked.0, not-not (view_path q) asked.1.0)

    pub some-sizes : 0 < n
    some-sizes = omega (arith, (rows-sizes n asked.1.1).0)

    -- refused by rows 7 and 12
    unmeasured : (x : Refusal) → code x ≡ row_code (measured_rows s (open_model b) (steps_of p) (steps_of q))
        → Acted (grade p q n) s b [] (grade_told (code x) (pos 0) 0) b []
    unfolding op_rows
    unmeasured x f =
        acted-refused (grade p q n) s b [] o.formed (rows_behind (asked_rows p q n) (measured_rows s (open_model b) (steps_of p) (steps_of q)) asked f) (code-some x)

    pub unseen-base : (x : Refusal) → Err x ≡ sight_at s b (steps_of p) → Acted (grade p q n) s b [] (grade_told (code x) (pos 0) 0) b []
    unseen-base x f = let w : Sees (Err x) s b (steps_of p) = sees-as s b (steps_of p) f in unmeasured x (w.1 ∙ seven-base s b (steps_of p) (steps_of q) w.0)

    module _ {u : plain.Option ℕ} (f : Ok u ≡ sight_at s b (steps_of p)) where
      base-seen : Sees (Ok u) s b (steps_of p)
      base-seen = sees-as s b (steps_of p) f

      pub unseen-top : (x : Refusal) → Err x ≡ sight_at s b (steps_of q) → Acted (grade p q n) s b [] (grade_told (code x) (pos 0) 0) b []
      unseen-top x g =
          let w : Sees (Err x) s b (steps_of q) = sees-as s b (steps_of q) g in
          unmeasured x (w.1 ∙ seven-top s b (steps_of p) (steps_of q) (in-sight s b (steps_of p) u base-seen) w.0)

      module _ {v : plain.Option ℕ} (g : Ok v ≡ sight_at s b (steps_of q)) where
        top-seen : Sees (Ok v) s b (steps_of q)
        top-seen = sees-as s b (steps_of q) g

        -- one of them is no measure
        pub no-base : u ≡ None → Acted (grade p q n) s b [] (grade_told 12 (pos 0) 0) b []
        no-base h =
            let w : Sees (Ok None) s b (steps_of p) = subst (λ (x : plain.Option ℕ). Sees (Ok x) s b (steps_of p)) h base-seen in
            unmeasured NoMeasure (twelve-base s b (steps_of p) (steps_of q) w.0 (in-sight s b (steps_of q) v top-seen) w.1)

        module _ {a : ℕ} (h : u ≡ Some a) where
          base-measure : Sees (Ok (Some a)) s b (steps_of p)
          base-measure = subst (λ (x : plain.Option ℕ). Sees (Ok x) s b (steps_of p)) h base-seen

          pub no-top : v ≡ None → Acted (grade p q n) s b [] (grade_told 12 (pos 0) 0) b []
          no-top k =
              let w : Sees (Ok None) s b (steps_of q) = subst (λ (x : plain.Option ℕ). Sees (Ok x) s b (steps_of q)) k top-seen in
              unmeasured NoMeasure (twelve-top s b (steps_of p) (steps_of q) base-measure.0 w.0 base-measure.1 w.1)

          -- both are measures
          both-measures : {d : ℕ} → v ≡ Some d → Acted (grade p q n) s b [] (told_of (Ok (Some a)) (Ok (Some d)) n) b []
          unfolding op_rows effect writes
          both-measures {d} k =
              let w : Sees (Ok (Some d)) s b (steps_of q) = subst (λ (x : plain.Option ℕ). Sees (Ok x) s b (steps_of q)) k top-seen in
              acted-done (grade p q n) s b [] o.formed
              (passes_append (asked_rows p q n) (measured_rows s (open_model b) (steps_of p) (steps_of q)) asked
              (measured-both s b (steps_of p) (steps_of q) base-measure.0 w.0 base-measure.1 w.1))
              (ap (λ (x : told.Result). writes x []) (ap₂ (grade_of n) base-measure.1 w.1)) refl refl

    -- what is told of the two sights is what the operation tells
    pub grade-acts : {x y : Result (plain.Option ℕ) Refusal} {t : Told} → x ≡ sight_at s b (steps_of p) → y ≡ sight_at s b (steps_of q) → t ≡ told_of x y n
        → Acted (grade p q n) s b [] t b []
    grade-acts {x} {y} f g h = gives-told h (acts x y f g)
      where
        acts : (x y : Result (plain.Option ℕ) Refusal) → x ≡ sight_at s b (steps_of p) → y ≡ sight_at s b (steps_of q) → Acted (grade p q n) s b [] (told_of x y n) b []
        acts (Err x) y f g = gives-told (sym (told-seven s b (steps_of p) f)) (unseen-base x f)
        acts (Ok u) (Err y) f g = gives-told (sym (told-seven s b (steps_of q) g)) (unseen-top f y g)
        acts (Ok None) (Ok v) f g = no-base f g refl
        acts (Ok (Some a)) (Ok None) f g = no-top f g refl refl
        acts (Ok (Some a)) (Ok (Some d)) f g = both-measures f g refl refl
