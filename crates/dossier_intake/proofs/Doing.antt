-- What the call has done, refused or not, from what its rows, the text and the partition say.
use mathlib.Core.Path.{◌≡◌, refl, sym, ap, ap₂, subst, ◌∙◌}
use mathlib.Core.Bool.{true, false, not, ◌&&◌}
use mathlib.Core.Logic.{◌⊎◌, inl, inr}
use mathlib.Core.List.Memᴰ
use mathlib.Core.List.{List, [], ◌∷◌, ◌++◌}
use Prim.Native.Nat.{ℕ, ◌+◌, ◌-◌, ◌/◌, ◌%◌, ◌≤◌, ◌<◌}
use native.Mathlib.Omega.{arith}
use lib.ListN.{length, take, drop, length-append}
use lib.Dec.{T, eqb}
use mir.Facts.{or_yes, eqb_yes}
use Rattle.model.specs.Lists.{◌∈◌}
use Rattle.model.specs.Path.{Step, valid_step, steps_of}
use Rattle.model.specs.Element.{Element}
use Rattle.model.specs.Partition.{layout, read_partition, well_formed}
use Rattle.model.specs.Store.{replace}
use Rattle.model.specs.Model.{open_model, own_set}
use Rattle.model.specs.Tree.{Forest, empty, element, entries}
use Rattle.model.specs.Intake.{siblings, in_form, own_live, is_one, Sends, Sending, elements_of, with_all}
use Rattle.model.specs.Rows.{row, row_code, lent_rows, formed_rows, good_path, view_path, view_path_rows, sent_rows, tree_rows, take_rows}
use Rattle.model.specs.Call.{insert_xml, op_rows, changes, effect}
use Rattle.model.proofs.Bools.{both, yes-not-not, not-not}
use Rattle.model.proofs.Paths.{step-ranges}
use Rattle.model.proofs.Rows.{Passes, passes_append, row-applies, rows_behind, rows_pass}
use Rattle.model.proofs.Keeps.{open-valid}
use Rattle.model.proofs.Sending.{ElementForm, form-parts}
use Rattle.model.proofs.Searching.{sending-exists}
use Rattle.model.proofs.Taking.{elements-count, own-siblings, Taken, rows_taken, taken-coming}
use Rattle.path.proofs.Steps.{length-steps, good-path}
use Rattle.store.specs.Opened.{Opened}
use Rattle.table.proofs.Walking.{told-yes, failed}
use Rattle.table.proofs.Entering.{entry-refused, entry-did}
use Rattle.table.specs.Opening.{Lent}
use Rattle.promise.specs.declared.Refusal.{Refusal}
use Rattle.promise.specs.Did.{InsertedXml}
use Rattle.promise.specs.Refusals.{code}
use Rattle.promise.proofs.Refusing.{code-some, err-stops}
use Rattle.promise.proofs.Doing.{acted-unformed, acted-refused, acted-done}
use Rattle.xml_read.specs.declared.Tree.{Tree}
use Rattle.std.specs.Prelude.{Some, None}
use Rattle.xml_read.specs.declared.Mark.{Mark}
use Rattle.xml_read.proofs.Marking.{length-marks}
use lib.Seq.{take_all}
use Rattle.xml_read.specs.Trees.{size, Sent, SentBy}
use Rattle.xml_read.specs.Records.{marks}
use Rattle.intake.specs.Putting.{above, Comes, Took}
use Rattle.dossier_intake.specs.Taking.{TreeRow, TopPath, Ready, ActedXml}

-- trees have as many entries as elements
size-entries : (r : List Step) (f : Forest) → length (entries r f) ≡ size f
size-entries r empty = refl
size-entries r (element a c i b) =
    let x : length (entries (r ++ (a ∷ [])) i) ≡ size i = size-entries (r ++ (a ∷ [])) i in
    let y : length (entries r b) ≡ size b = size-entries r b in
    let z : length (entries (r ++ (a ∷ [])) i ++ entries r b) ≡ length (entries (r ++ (a ∷ [])) i) + length (entries r b) = length-append (entries (r ++ (a ∷ [])) i) (entries r b) in
    omega arith

-- a path that a view may be asked for has whole steps
pub view-whole : (p : List ℕ) → T (view_path p) → length p % 3 ≡ 0
unfolding view_path
view-whole p t = go (or_yes (eqb (length p) 0) (good_path p) t)
  where
    go : T (eqb (length p) 0) ⊎ T (good_path p) → length p % 3 ≡ 0
    go (inl h) = let n : length p ≡ 0 = eqb_yes h in omega arith
    go (inr h) = (good-path p h).whole

-- what a text sends is sent by it
sends-sending : {d : ℕ} {t : List ℕ} (f : Forest) → Sends d t f → Sending d t f
sends-sending empty s = absurd s.one
sends-sending (element a c i b) s = s

-- and row 13 does not apply
sends-passes : {d : ℕ} {t : List ℕ} {f : Forest} → Sends d t f → T (not (not (is_one f && in_form d f)))
sends-passes {d} {t} {f} s = yes-not-not (is_one f && in_form d f) (both (is_one f) (in_form d f) s.one s.ranges)

-- ---- a text that is not asked for, or sends nothing that may come

module _ (s : ℕ) (b p t : List ℕ) where
  -- some partition is not well formed
  pub take-raw : (x : Refusal) → code x ≡ row_code (formed_rows s (open_model b)) → ActedXml s p t b (code x) 0 b
  take-raw x h =
      let f = sending-exists (length (steps_of p)) t in
      record { sent = f.0; reads = f.1; acted = acted-unformed (insert_xml p f.0) s b [] h (code-some x) }

module _ {s : ℕ} {b : List ℕ} (o : Opened b s) (p t : List ℕ) where
  -- the path is none
  pub take-stray : (x : Refusal) → code x ≡ row_code (view_path_rows p) → ActedXml s p t b (code x) 0 b
  unfolding op_rows
  take-stray x h =
      let f = sending-exists (length (steps_of p)) t in
      record { sent = f.0; reads = f.1; acted = acted-refused (insert_xml p f.0) s b [] o.formed (err-stops (view_path_rows p) _ x h) (code-some x) }

  module _ (e : 0 ≡ row_code (view_path_rows p)) (n : ℕ) (k : n ≡ length p / 3) where
    path-passes : Passes (view_path_rows p)
    path-passes = rows_pass (view_path_rows p) tt e refl

    -- the text sends none
    pub take-unread : SentBy n s t [] None → ActedXml s p t b 13 0 b
    unfolding op_rows
    take-unread w =
        record {
          sent = empty;
          reads = subst (λ (d : ℕ). SentBy d s t [] None) (k ∙ sym (length-steps p)) w;
          acted =
              acted-refused (insert_xml p empty) s b [] o.formed
              (rows_behind (view_path_rows p) _ path-passes (row-applies _ _ tt)) (λ z. absurd (omega arith));
        }

    module _ {b' : List Mark} {y : Tree} (read : SentBy n s t b' (Some y)) where
      tree-sent : Sent (length (steps_of p)) s t b' y
      tree-sent = subst (λ (d : ℕ). SentBy d s t b' (Some y)) (k ∙ sym (length-steps p)) read

      -- an element that is another's, or removed
      pub take-foreign : y.own ≡ false → ActedXml s p t b 14 0 b
      unfolding op_rows
      take-foreign w =
          let f : Forest = tree-sent.trees in
          record {
            sent = f;
            reads = sends-sending f tree-sent.sends;
            acted =
                acted-refused (insert_xml p f) s b [] o.formed
                (rows_behind (view_path_rows p ++ (row 13 _ ∷ [])) _ (path-passes.0, (sends-passes tree-sent.sends, tt)) (row-applies _ _ (failed tree-sent.own w)))
                (λ z. absurd (omega arith));
          }

      -- the tree may be looked for
      pub take-ready : y.own ≡ true → Ready s p t b y.name y.count b'
      take-ready w =
          let f : Forest = tree-sent.trees in
          let own : T (own_live s f) = told-yes tree-sent.own w in
          let a : Step = record { name = y.name; label = y.label } in
          let m : a ∈ siblings f = subst (λ (q : List Step). a ∈ q) (sym tree-sent.step) (Memᴰ.head refl) in
          let l : y.label ≡ s = own-siblings s f own m in
          record {
            opened = o;
            path = not-not (view_path p) path-passes.0;
            sent = f;
            sends = tree-sent.sends;
            own = own;
            step = tree-sent.step ∙ ap (λ (n : ℕ). record { name = y.name; label = n } ∷ []) l;
            counts = tree-sent.counts;
            noted = tree-sent.noted;
          }

-- ---- a tree that is looked for

-- one of whose siblings is known: it is that element, in form
top-form : (d : ℕ) (f : Forest) (a : Step) → T (in_form d f) → siblings f ≡ a ∷ [] → (d < 6) × T (valid_step a)
top-form d empty a t e = let z : ◌≡◌ {A = ℕ} 0 1 = ap length e in absurd (omega arith)
top-form d (element x c i b) a t e =
    let u : ElementForm d x c i b = form-parts d x c i b t in
    let q : x ≡ a = cc in
    (u.shallow, subst (λ (k : Step). T (valid_step k)) q u.step)

module _ {s : ℕ} {p t b : List ℕ} {name n : ℕ} {kept : List Mark} (r : Ready s p t b name n kept) where
  -- the step of its own element
  abbrev top : Step
  top = record { name = name; label = s }

  -- the path above has room for the step
  pub ready-path : (length p % 3 ≡ 0) × (length p ≤ 15) × (name ≤ 65535)
  ready-path =
      let f = top-form (length (steps_of p)) r.sent top r.sends.ranges r.step in
      let e : length (steps_of p) ≡ length p / 3 = length-steps p in
      let w : length p % 3 ≡ 0 = view-whole p r.path in
      (w, omega (arith, f.0), (step-ranges top f.1).1)

  -- the marks of so few elements are all kept
  marks-kept : n ≤ 32 → take n kept ≡ marks (length (steps_of p)) 0 r.sent
  marks-kept h =
      let ms : List Mark = marks (length (steps_of p)) 0 r.sent in
      let m : length ms ≡ size r.sent = length-marks (length (steps_of p)) 0 r.sent in
      let all : take 32 ms ≡ ms = take_all 32 ms (omega (arith, r.counts)) in
      ap (λ (k : ℕ). take k kept) (r.counts ∙ sym m) ∙ ap (λ (l : List Mark). take (length l) kept) (sym all) ∙ r.noted.are ∙ all

  -- rows 4, 13 and 14 have passed
  front-passes : Passes (view_path_rows p ++ sent_rows s (length (steps_of p)) r.sent)
  front-passes = (yes-not-not (view_path p) r.path, (sends-passes r.sends, (yes-not-not (own_live s r.sent) r.own, tt)))

  -- its rows behind them
  rows_same : tree_rows s (open_model b) (steps_of p) (top ∷ []) n ≡ take_rows s (open_model b) (steps_of p) r.sent
  rows_same =
      ap₂ (λ (q : List Step) (k : ℕ). tree_rows s (open_model b) (steps_of p) q k) (sym r.step) (r.counts ∙ sym (size-entries (steps_of p) r.sent))

  module _ {buffer : List ℕ} (w : TopPath p top buffer) {k : ℕ} (e : TreeRow s b p (take (length p + 3 - 0) (drop 0 buffer)) n k) where
    row_is : k ≡ row_code (take_rows s (open_model b) (steps_of p) r.sent)
    row_is =
        let m : length p + 3 - 0 ≡ length p + 3 = omega arith in
        e top refl (ap (λ (j : ℕ). steps_of (take j buffer)) m ∙ w.whole) ∙ ap row_code rows_same

    -- a row refuses it
    pub take-refused : (x : Refusal) → code x ≡ k → ActedXml s p t b (code x) 0 b
    unfolding op_rows
    take-refused x h =
        record {
          sent = r.sent;
          reads = sends-sending r.sent r.sends;
          acted =
              acted-refused (insert_xml p r.sent) s b [] r.opened.formed
              (rows_behind (view_path_rows p ++ sent_rows s (length (steps_of p)) r.sent) _ front-passes (h ∙ row_is)) (code-some x);
        }

    module _ (z : k ≡ 0) where
      all_pass : Passes (op_rows (insert_xml p r.sent) s (open_model b))
      unfolding op_rows
      all_pass =
          passes_append (view_path_rows p ++ sent_rows s (length (steps_of p)) r.sent) (take_rows s (open_model b) (steps_of p) r.sent) front-passes
          (rows_pass (take_rows s (open_model b) (steps_of p) r.sent) tt row_is z)

      taken : Taken s (open_model b) p r.sent
      taken = rows_taken s (open_model b) p r.sent all_pass

      -- they are so few that all marks are kept
      pub few : n ≤ 32
      few = let m : length (entries (steps_of p) r.sent) ≡ size r.sent = size-entries (steps_of p) r.sent in omega (arith, taken.free, r.counts)

      -- its elements may come to the partition x, which holds the set
      pub take-comes : {x : List ℕ} → T (well_formed s x) → read_partition x ≡ own_set s (open_model b) → Comes x t buffer (length p / 3) s (take n kept)
      take-comes {x} g q =
          let u : above (length p / 3) buffer ≡ steps_of p = w.above in
          let c : length (elements_of (steps_of p) r.sent) ≡ length (entries (steps_of p) r.sent) = elements-count s (steps_of p) r.sent r.own in
          let room : length (own_set s (open_model b)) + length (elements_of (steps_of p) r.sent) ≤ 32 = omega (arith, taken.free) in
          record {
            sent = r.sent;
            formed = g;
            size = w.size;
            reads = subst (λ (d : ℕ). Sends d t r.sent) (length-steps p) r.sends;
            own = r.own;
            coming = rw (u, q) (taken-coming (open-valid b) taken);
            room = rw (u, q) room;
            noted = marks-kept few ∙ ap (λ (d : ℕ). marks d 0 r.sent) (length-steps p);
          }

      -- they have come
      pub take_done : (x : List ℕ) {y z' : List ℕ} → read_partition x ≡ own_set s (open_model b) → Took x t buffer (length p / 3) y
          → ((g : List Element → List Element) → y ≡ layout (g (read_partition x)) → z' ≡ replace s (layout (g (own_set s (open_model b)))) b)
          → ActedXml s p t b 0 n z'
      unfolding op_rows effect changes
      take_done x {y} {z'} q took put =
          let u : above (length p / 3) buffer ≡ steps_of p = w.above in
          let d : Sends (length p / 3) t r.sent = subst (λ (d : ℕ). Sends d t r.sent) (length-steps p) r.sends in
          let e : y ≡ layout (with_all (elements_of (steps_of p) r.sent) (read_partition x)) =
          took r.sent d ∙ ap (λ (o : List Step). layout (with_all (elements_of o r.sent) (read_partition x))) u in
          record {
            sent = r.sent;
            reads = sends-sending r.sent r.sends;
            acted =
                rw (r.counts ∙ sym (size-entries (steps_of p) r.sent))
                (acted-done (insert_xml p r.sent) s b [] r.opened.formed all_pass refl (put (with_all (elements_of (steps_of p) r.sent)) e) refl);
          }

-- ---- a bare subject's call

-- rows 1 and 2 refuse it
pub take-shut : (s : ℕ) (b p t : List ℕ) (x : Refusal) → code x ≡ row_code (lent_rows s (open_model b)) → InsertedXml s p t b (code x) 0 b
take-shut s b p t x e =
    let f = sending-exists (length (steps_of p)) t in
    record { sent = f.0; reads = f.1; did = entry-refused s b x e (insert_xml p f.0) [] }

-- it has done what is done for the label
pub take_open : {s l : ℕ} {b : List ℕ} → (l ≡ s) × Lent b s → {p t : List ℕ} {k n : ℕ} {b' : List ℕ} → ActedXml l p t b k n b' → InsertedXml s p t b k n b'
take_open d {p} a = record { sent = a.sent; reads = a.reads; did = entry-did d (insert_xml p a.sent) a.acted }
