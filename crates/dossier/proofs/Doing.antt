-- What each operation has done, refused or not, from what its rows and the functions of the store say.
use mathlib.Core.Path.{◌≡◌, refl, ap, ◌∙◌}
use Rattle.model.proofs.Bools.{not-not}
use mathlib.Core.List.{List, []}
use Prim.Native.Nat.{ℕ, ◌-◌, ◌/◌, ◌≤◌, ◌<◌}
use native.Mathlib.Omega.{arith}
use lib.ListN.{length}
use lib.Dec.{T}
use Rattle.model.specs.Path.{valid_path, steps_of}
use Rattle.model.specs.Value.{Content, storable, bringable}
use Rattle.model.specs.Element.{remove}
use Rattle.model.specs.Partition.{layout}
use Rattle.model.specs.Store.{replace}
use Rattle.model.specs.Model.{open_model, own_set}
use Rattle.model.specs.View.{visible, listing}
use Rattle.model.specs.Intake.{with_all}
use Rattle.model.specs.Groups.{seen_steps, missing_paths, with_groups}
use Rattle.model.specs.Rows.{row_code, good_path, path_rows, bring_rows, own_live_rows, place_rows}
use Rattle.model.specs.Call.{view, insert, update, delete, op_rows, counted, changes, extending, makes, replaced, effect}
use Rattle.model.proofs.Slots.{allowed-length}
use Rattle.model.proofs.Rows.{Passes, passes_append, rows_behind, rows_pass}
use Rattle.model.proofs.Keeps.{open-valid}
use Rattle.model.proofs.Groups as model
use Rattle.model.proofs.Groups.{Lacking, rows-placed, placed-lacking}
use Rattle.model.proofs.Operations.{Brought, rows-brought, brought-valid}
use Rattle.path.proofs.Steps.{length-steps, good-path}
use Rattle.store.specs.Opened.{Opened, Vacant}
use Rattle.table.specs.Placed.{Comes}
use Rattle.table.proofs.Walking.{opened-own}
use Rattle.table.proofs.Coming.{missing-lent}
use Rattle.table.proofs.Looking.{Looks}
use Rattle.promise.specs.declared.Refusal.{Refusal}
use Rattle.promise.specs.Did.{Acted}
use Rattle.promise.specs.Refusals.{code}
use Rattle.promise.proofs.Doing.{acted-refused, acted-done}
use Rattle.promise.proofs.Refusing.{code-some, err-stops}

-- ---- a view

pub view-looks : (s : ℕ) (b p o : List ℕ) → Looks (view p (length o)) s b p o (listing s (open_model b) (steps_of p))
unfolding op_rows effect
view-looks s b p o = record { rows = refl; counts = refl; does = refl }

-- ---- what is brought

module _ (p : List ℕ) (c : Content) (e : 0 ≡ row_code (bring_rows p c)) where
  brought-passes : Passes (bring_rows p c)
  brought-passes = rows_pass (bring_rows p c) tt e refl

  pub brought : Brought p c
  brought = rows-brought p c brought-passes

  -- it is short enough to be written
  pub brought-short : (length p ≤ 20) × (length c.value ≤ 16)
  unfolding bringable
  brought-short = (omega (arith, (good-path p brought.path).few), allowed-length c.kind c.value brought.content)

-- ---- an insert

module _ {s : ℕ} {b : List ℕ} (o : Opened b s) (p : List ℕ) (c : Content) where
  pub insert-stops : (x : Refusal) → code x ≡ row_code (bring_rows p c) → Acted (insert p c) s b [] (counted (code x) 0) b []
  unfolding op_rows
  insert-stops x f = acted-refused (insert p c) s b [] o.formed (err-stops (bring_rows p c) _ x f) (code-some x)

  module _ (f : 0 ≡ row_code (bring_rows p c)) where
    pub insert-refused : (x : Refusal) → code x ≡ row_code (place_rows s (open_model b) (steps_of p)) → Acted (insert p c) s b [] (counted (code x) 0) b []
    unfolding op_rows
    insert-refused x q = acted-refused (insert p c) s b [] o.formed (rows_behind (bring_rows p c) _ (brought-passes p c f) q) (code-some x)

    -- the place, and how many steps are in view
    module _ {at n : ℕ} (found : Comes s b (steps_of p) at n) where
      placed-passes : Passes (place_rows s (open_model b) (steps_of p))
      placed-passes = rows_pass (place_rows s (open_model b) (steps_of p)) tt found.0 refl

      rows-show : model.Placed s (open_model b) (steps_of p)
      rows-show = rows-placed s (open_model b) (steps_of p) placed-passes

      ok : T (valid_path (steps_of p)) × T (storable c)
      ok = brought-valid (brought p c f)

      lacks : Lacking s (own_set s (open_model b)) (steps_of p) n
      lacks = rw found.2 (placed-lacking s (open_model b) (open-valid b) (steps_of p) ok.0 rows-show)

      -- the groups are as many as the steps between
      missing : length (missing_paths (seen_steps (visible s (open_model b)) (steps_of p)) (steps_of p)) ≡ length p / 3 - 1 - n
      missing = missing-lent (visible s (open_model b)) p found.2

      pub insert-short : n < length p / 3
      insert-short = omega (arith, lacks.short, length-steps p)

      pub insert-vacant : Vacant b s (steps_of p) at n c
      insert-vacant =
          record {
            own = opened-own o;
            lacking = lacks;
            place = found.1;
            content = ok.1;
            room = omega (arith, rows-show.free, missing, length-steps p, lacks.short);
          }

      pub insert-done : {x : List ℕ} → x ≡ replace s (layout (with_all (with_groups n (steps_of p) c) (own_set s (open_model b)))) b
          → Acted (insert p c) s b [] (counted 0 (length p / 3 - 1 - n)) x []
      unfolding op_rows effect makes changes
      insert-done g =
          rw (← missing)
          (acted-done (insert p c) s b [] o.formed (passes_append (bring_rows p c) (place_rows s (open_model b) (steps_of p)) (brought-passes p c f) placed-passes) refl
          (g ∙ ap (λ (k : ℕ). replace s (layout (with_all (with_groups k (steps_of p) c) (own_set s (open_model b)))) b) found.2) refl)

-- ---- a delete

module _ {s : ℕ} {b : List ℕ} (o : Opened b s) (p : List ℕ) where
  pub delete-stops : (x : Refusal) → code x ≡ row_code (path_rows p) → Acted (delete p) s b [] (counted (code x) 0) b []
  unfolding op_rows
  delete-stops x f = acted-refused (delete p) s b [] o.formed (err-stops (path_rows p) _ x f) (code-some x)

  module _ (f : 0 ≡ row_code (path_rows p)) where
    path-passes : Passes (path_rows p)
    path-passes = rows_pass (path_rows p) tt f refl

    pub delete-path : T (good_path p)
    delete-path = not-not (good_path p) path-passes.0

    pub delete-none : (x : Refusal) → code x ≡ row_code (own_live_rows s (open_model b) (steps_of p)) → Acted (delete p) s b [] (counted (code x) 0) b []
    unfolding op_rows
    delete-none x q = acted-refused (delete p) s b [] o.formed (rows_behind (path_rows p) _ path-passes q) (code-some x)

    pub delete-done : 0 ≡ row_code (own_live_rows s (open_model b) (steps_of p)) → {n : ℕ} {x : List ℕ}
        → (n ≡ extending (steps_of p) (own_set s (open_model b))) × (x ≡ replace s (layout (remove (steps_of p) (own_set s (open_model b)))) b)
        → Acted (delete p) s b [] (counted 0 n) x []
    unfolding op_rows effect changes
    delete-done e g =
        rw g.0 (acted-done (delete p) s b [] o.formed (path-passes.0, rows_pass (own_live_rows s (open_model b) (steps_of p)) tt e refl) refl g.1 refl)

-- ---- an update

module _ {s : ℕ} {b : List ℕ} (o : Opened b s) (p : List ℕ) (c : Content) where
  pub update-stops : (x : Refusal) → code x ≡ row_code (bring_rows p c) → Acted (update p c) s b [] (counted (code x) 0) b []
  unfolding op_rows
  update-stops x f = acted-refused (update p c) s b [] o.formed (err-stops (bring_rows p c) _ x f) (code-some x)

  module _ (f : 0 ≡ row_code (bring_rows p c)) where
    pub update-none : (x : Refusal) → code x ≡ row_code (own_live_rows s (open_model b) (steps_of p)) → Acted (update p c) s b [] (counted (code x) 0) b []
    unfolding op_rows
    update-none x q = acted-refused (update p c) s b [] o.formed (rows_behind (bring_rows p c) _ (brought-passes p c f) q) (code-some x)

    pub update-done : 0 ≡ row_code (own_live_rows s (open_model b) (steps_of p)) → {x : List ℕ}
        → x ≡ replace s (layout (replaced (steps_of p) c (own_set s (open_model b)))) b → Acted (update p c) s b [] (counted 0 1) x []
    unfolding op_rows effect changes
    update-done e g =
        acted-done (update p c) s b [] o.formed
        (passes_append (bring_rows p c) (own_live_rows s (open_model b) (steps_of p)) (brought-passes p c f)
        (rows_pass (own_live_rows s (open_model b) (steps_of p)) tt e refl)) refl g refl
