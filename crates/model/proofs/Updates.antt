-- What an update does: the content of its element differs afterwards and nothing else in the subject's set, and the paths in view
-- stay, for every subject.
use mathlib.Core.Path.{◌≡◌, refl, sym, ap, ◌∙◌}
use mathlib.Core.Logic.{◌⊎◌, inl, inr}
use mathlib.Core.Bool.{Bool, true, false, not, cond}
use mathlib.Core.Option.{Option, none, some}
use mathlib.Core.List.{List, [], ◌∷◌, ◌++◌, map-append}
use Prim.Native.Nat.{ℕ}
use lib.Dec.{T, eqb}
use mir.Facts.{not_T, T_not, eqb_yes}
use Rattle.model.specs.Lists.{any, keep, gather, ◌∈◌}
use Rattle.model.specs.Sets.{sort}
use Rattle.model.specs.Label.{labels, dominates}
use Rattle.model.specs.Path.{Step, same_path, is_prefix, prefixes, last_step, path_rank, steps_of}
use Rattle.model.specs.Value.{Content}
use Rattle.model.specs.Element.{Element, contains}
use Rattle.model.specs.Model.{Model, own_set, with_set, live_by, live}
use Rattle.model.specs.View.{visible, in_view, listed}
use Rattle.model.specs.Rows.{refusal, bring_rows, own_live_rows}
use Rattle.model.specs.Call.{Caller, subject_of, update, Call, op_rows, table, counted, changes, replaced, effect, Outcome, refused, done, outcome, after}
use Rattle.model.proofs.Bools.{decide, cond_yes, cond_no}
use Rattle.model.proofs.Paths.{same-eq, same_refl}
use Rattle.model.proofs.Rows.{passes-both}
use Rattle.model.proofs.Replacing.{paths_of, any-paths, gather-paths, contains-paths, given, replaced-paths, replaced-others, replaced-in, replaced-here}
use Rattle.model.proofs.Operations.{rows-own-live, Admitted, admitted, outcome-either}
use Rattle.model.proofs.Refusals.{set-with, outcome-by, set-done}

-- ---- two models that have the same paths for each label

pub SamePaths : Model → Model → Type 0
SamePaths m k = (n : ℕ) → paths_of (own_set n m) ≡ paths_of (own_set n k)

paths-gather : (f : ℕ → List Element) (ns : List ℕ) → paths_of (gather f ns) ≡ gather (λ n. paths_of (f n)) ns
paths-gather f [] = refl
paths-gather f (n ∷ ns) =
    map-append (λ (e : Element). e.path) (f n) (gather f ns) ∙ ap (λ (ps : List (List Step)). paths_of (f n) ++ ps) (paths-gather f ns)

module _ (m k : Model) (h : SamePaths m k) where
  -- the paths of what a subject sees
  visible-paths : (t : ℕ) → paths_of (visible t m) ≡ paths_of (visible t k)
  unfolding visible SamePaths
  visible-paths t =
      paths-gather (λ n. cond (dominates t n) (own_set n m) []) labels
      ∙ ap (λ (f : ℕ → List (List Step)). gather f labels) (λ i n. one (dominates t n) n i)
      ∙ sym (paths-gather (λ n. cond (dominates t n) (own_set n k) []) labels)
    where
      one : (d : Bool) (n : ℕ) → paths_of (cond d (own_set n m) []) ≡ paths_of (cond d (own_set n k) [])
      one true n = h n
      one false n = refl

  -- so the paths in view, those that a view lists, and what is live
  pub paths-in-view : (t : ℕ) (p : List Step) → in_view t m p ≡ in_view t k p
  unfolding in_view
  paths-in-view t [] = refl
  paths-in-view t (a ∷ p) =
      any-paths (is_prefix (a ∷ p)) (visible t m) ∙ ap (any (is_prefix (a ∷ p))) (visible-paths t) ∙ sym (any-paths (is_prefix (a ∷ p)) (visible t k))

  pub paths-listed : (t : ℕ) (p : List Step) → listed (visible t m) p ≡ listed (visible t k) p
  unfolding listed
  paths-listed t p =
      ap (λ (ps : List (List Step)). sort path_rank (keep (is_prefix p) ps))
      (gather-paths prefixes (visible t m) ∙ ap (gather prefixes) (visible-paths t) ∙ sym (gather-paths prefixes (visible t k)))

  pub paths-live : (p : List Step) → live m p ≡ live k p
  unfolding live SamePaths
  paths-live p = go (last_step p)
    where
      go : (a : Option Step) → live_by m p a ≡ live_by k p a
      go none = refl
      go (some a) = contains-paths (own_set a.label m) p ∙ ap (any (same_path p)) (h a.label) ∙ sym (contains-paths (own_set a.label k) p)

-- ---- an update

abbrev pub updating : Caller → List ℕ → Content → Call
updating w b c = record { who = w; op = update b c }

module _ (w : Caller) (b : List ℕ) (c : Content) (m : Model) where
  -- the subject's set, with the new content, and the model afterwards
  abbrev own : List Element
  own = own_set (subject_of w) m

  abbrev corrected : List Element
  corrected = replaced (steps_of b) c own

  abbrev next : Model
  next = after (updating w b c) m

  -- done or refused, it leaves the paths of each label
  pub update-paths : SamePaths next m
  unfolding after refused done effect changes SamePaths
  update-paths n =
      outcome-either (updating w b c) m (λ (x : Outcome). paths_of (own_set n (with_set (subject_of w) x.change m)) ≡ paths_of (own_set n m))
      (λ k. refl) (λ a. ap paths_of (set-with (subject_of w) corrected m n) ∙ kept)
    where
      kept : paths_of (cond (eqb n (subject_of w)) corrected (own_set n m)) ≡ paths_of (own_set n m)
      kept =
          decide (eqb n (subject_of w))
          (λ (t : T (eqb n (subject_of w))).
          let e : n ≡ subject_of w = eqb_yes t in
          ap paths_of (cond_yes (eqb n (subject_of w)) corrected (own_set n m) t)
          ∙ replaced-paths (steps_of b) c own
          ∙ ap (λ (j : ℕ). paths_of (own_set j m)) (sym e))
          (λ (t : T (not (eqb n (subject_of w)))). ap paths_of (cond_no (eqb n (subject_of w)) corrected (own_set n m) t))

  -- so every subject has the same paths in view, a view lists the same, and the same elements are live
  pub update-in-view : (t : ℕ) (p : List Step) → in_view t next p ≡ in_view t m p
  update-in-view = paths-in-view next m update-paths

  pub update-listed : (t : ℕ) (p : List Step) → listed (visible t next) p ≡ listed (visible t m) p
  update-listed = paths-listed next m update-paths

  pub update-live : (p : List Step) → live next p ≡ live m p
  update-live = paths-live next m update-paths

  -- one that is done
  module _ (passed : refusal (table (updating w b c) m) ≡ none) where
    -- it tells 0 and 1, and writes nothing
    pub update-tells : (outcome (updating w b c) m).answer ≡ record { told = counted 0 1; written = [] }
    unfolding done effect changes
    update-tells = ap (λ (x : Outcome). x.answer) (outcome-by (updating w b c) m passed)

    own-after : own_set (subject_of w) next ≡ corrected
    unfolding effect changes
    own-after = set-done (updating w b c) m passed refl

    -- the element is in the subject's set with the content
    pub update_here : given (steps_of b) c ∈ own_set (subject_of w) next
    unfolding op_rows
    update_here =
        let a : Admitted (updating w b c) m = admitted (updating w b c) m passed in
        let rows = passes-both (bring_rows b c) (own_live_rows (subject_of w) m (steps_of b)) a.rows in
        let there : T (contains own (steps_of b)) = (rows-own-live (subject_of w) m (steps_of b) rows.1).1 in
        rw own-after (replaced-here (steps_of b) c own there)

    -- what is there afterwards is that element, or it was there and has another path
    after-in : {e : Element} → e ∈ own_set (subject_of w) next → (e ≡ given (steps_of b) c) ⊎ (e ∈ own) × T (not (same_path (steps_of b) e.path))
    after-in k = replaced-in (steps_of b) c own (rw own-after at k)

    -- no other element with the path is there
    pub update-only : {e : Element} → e.path ≡ steps_of b → e ∈ own_set (subject_of w) next → e ≡ given (steps_of b) c
    update-only {e} q k = go (after-in k)
      where
        go : (e ≡ given (steps_of b) c) ⊎ (e ∈ own) × T (not (same_path (steps_of b) e.path)) → e ≡ given (steps_of b) c
        go (inl h) = h
        go (inr h) = absurd (T_not (same_path (steps_of b) e.path) (rw q (same_refl (steps_of b))) h.1)

    -- an element of another path is there, with its content, exactly if it was
    module _ (e : Element) (other : e.path ≡ steps_of b → ⊥) where
      pub update-stays : e ∈ own → e ∈ own_set (subject_of w) next
      update-stays k =
          let t : T (not (same_path (steps_of b) e.path)) =
          not_T (same_path (steps_of b) e.path) (λ u. other (sym (same-eq (steps_of b) e.path u))) in
          rw own-after (replaced-others (steps_of b) c own t k)

      pub update-adds-none : e ∈ own_set (subject_of w) next → e ∈ own
      update-adds-none k = go (after-in k)
        where
          go : (e ≡ given (steps_of b) c) ⊎ (e ∈ own) × T (not (same_path (steps_of b) e.path)) → e ∈ own
          go (inl h) = absurd (other (ap (λ (d : Element). d.path) h))
          go (inr h) = h.0
