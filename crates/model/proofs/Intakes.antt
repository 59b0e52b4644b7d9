-- What taking in a tree does: afterwards the subject's set has what it had, each element of the tree, and nothing else; the tree reads back,
-- and who does not dominate the subject sees what he saw.
use mathlib.Core.Path.{◌≡◌, ap, ◌∙◌}
use mathlib.Core.Logic.{◌⊎◌}
use mathlib.Core.Bool.{not}
use mathlib.Core.Option.{none}
use mathlib.Core.List.{List, ◌++◌}
use Prim.Native.Nat.{ℕ}
use lib.ListN.{length}
use lib.Dec.{T}
use Rattle.model.specs.Lists.{◌∈◌}
use Rattle.model.specs.Label.{dominates}
use Rattle.model.specs.Path.{steps_of}
use Rattle.model.specs.Element.{Element}
use Rattle.model.specs.Model.{Model, own_set, with_set}
use Rattle.model.specs.View.{visible}
use Rattle.model.specs.Tree.{Forest}
use Rattle.model.specs.Xml.{outer_tag, outer_end, document, xml_view}
use Rattle.model.specs.Intake.{siblings, Sends, elements_of, with_all}
use Rattle.model.specs.Rows.{refusal}
use Rattle.model.specs.Call.{Caller, subject_of, insert_xml, Call, table, changes, effect, Outcome, done, after}
use Rattle.model.proofs.Keeps.{ValidSets}
use Rattle.model.proofs.Taking.{with-old, with_in, with-new, Taken, rows_taken, taken-coming}
use Rattle.model.proofs.Operations.{Admitted, admitted}
use Rattle.model.proofs.Refusals.{set_own, outcome-by}
use Rattle.model.proofs.HiddenSets.{unseen-call}
use Rattle.model.proofs.Ordering.{in_order, is_ordered}
use Rattle.model.proofs.Readback.{took, tree-reads-back, ordered-text}

-- the call
abbrev pub taking : Caller → List ℕ → Forest → Call
taking w p f = record { who = w; op = insert_xml p f }

-- one that is done
module _ (w : Caller) (p : List ℕ) (f : Forest) (m : Model) (passed : refusal (table (taking w p f) m) ≡ none) where
  -- the subject's set, the elements of the tree, and the set afterwards
  abbrev own : List Element
  own = own_set (subject_of w) m

  abbrev tree : List Element
  tree = elements_of (steps_of p) f

  abbrev next : List Element
  next = own_set (subject_of w) (after (taking w p f) m)

  -- what its rows show of the call and of the tree
  shown : Admitted (taking w p f) m
  shown = admitted (taking w p f) m passed

  pub taken : Taken (subject_of w) m p f
  taken = rows_taken (subject_of w) m p f shown.rows

  -- the model afterwards has the set with all of them
  model-after : after (taking w p f) m ≡ took (subject_of w) m (steps_of p) f
  unfolding after done effect changes
  model-after = ap (λ (x : Outcome). with_set (subject_of w) x.change m) (outcome-by (taking w p f) m passed)

  own-after : next ≡ with_all tree own
  own-after = ap (own_set (subject_of w)) model-after ∙ set_own (subject_of w) (with_all tree own) m

  -- each element that was there is there, with its content
  pub take-stays : {e : Element} → e ∈ own → e ∈ next
  take-stays k = rw own-after (with-old tree own k)

  -- each element of the tree is there
  pub take-brings : ValidSets m → {e : Element} → e ∈ tree → e ∈ next
  take-brings sets k = rw own-after (with-new (subject_of w) tree own (taken-coming sets taken) k)

  -- and nothing else
  pub take-only : {e : Element} → e ∈ next → (e ∈ own) ⊎ (e ∈ tree)
  take-only k = with_in tree own (rw own-after at k)

  -- the subject's XML of the tree's path is that of the tree, siblings in path order
  pub take-reads-back : ValidSets m → xml_view (subject_of w) (after (taking w p f) m) (steps_of p ++ siblings f) ≡ document (subject_of w) (in_order f)
  take-reads-back sets =
      ap (λ (n : Model). xml_view (subject_of w) n (steps_of p ++ siblings f)) model-after ∙ tree-reads-back f shown.label sets taken

  -- so where they are sent in path order it is the text inside the dossier tag
  pub take-reads-text : ValidSets m → {t : List ℕ} → Sends (length (steps_of p)) t f → T (is_ordered f)
      → xml_view (subject_of w) (after (taking w p f) m) (steps_of p ++ siblings f) ≡ outer_tag (subject_of w) ++ (t ++ outer_end)
  take-reads-text sets sends order = take-reads-back sets ∙ ordered-text (subject_of w) f sends order

-- done or refused, who does not dominate the subject sees what he saw
pub take-unseen : (w : Caller) (p : List ℕ) (f : Forest) (m : Model) (u : ℕ) → T (not (dominates u (subject_of w)))
    → visible u (after (taking w p f) m) ≡ visible u m
take-unseen w p f m u hidden = unseen-call u (taking w p f) m hidden
