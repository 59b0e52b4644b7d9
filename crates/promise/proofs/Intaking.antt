-- What XML that was taken in promises: the text tells the call; one thing only can be told and left; and where 0 is told, the tree reads back on the store that is left.
use mathlib.Core.Path.{◌≡◌, sym, ap, subst, ◌∙◌}
use mathlib.Core.Option.{none}
use mathlib.Core.List.{List, [], ◌++◌}
use Prim.Native.Nat.{ℕ}
use lib.ListN.{length}
use lib.Dec.{T}
use Rattle.model.specs.Path.{steps_of}
use Rattle.model.specs.Model.{open_model}
use Rattle.model.specs.Tree.{Forest}
use Rattle.model.specs.Xml.{outer_tag, outer_end, document, xml_of, xml_view}
use Rattle.model.specs.Element.{Element}
use Rattle.model.specs.Intake.{siblings, is_one}
use Rattle.model.specs.Rows.{refusal}
use Rattle.model.specs.Call.{subject, subject_of, Call, by, insert_xml, caller_rows, op_rows, table, Told, count, counted}
use Rattle.model.proofs.Keeps.{open-valid}
use Rattle.model.proofs.Refusals.{told-done}
use Rattle.model.proofs.Sending.{sending-one, sending-unique}
use Rattle.model.proofs.Ordering.{in_order, is_ordered}
use Rattle.model.proofs.Intakes.{taken, take-reads-back}
use Rattle.model.proofs.Readback.{ordered-text}
use Rattle.model.proofs.Empty.{shows-after}
use Rattle.promise.specs.Did.{Did, InsertedXml}
use Rattle.promise.proofs.Runs.{did-store, did-one}

-- the call of a bare subject
abbrev asked : ℕ → List ℕ → Forest → Call
asked s p f = by s (insert_xml p f)

-- the call that was made is told by the subject, the path and the text
pub took-call : {s : ℕ} {p t b : List ℕ} {k n : ℕ} {b' c : List ℕ} {k2 n2 : ℕ} {c' : List ℕ} (x : InsertedXml s p t b k n b') (y : InsertedXml s p t c k2 n2 c')
    → asked s p x.sent ≡ asked s p y.sent
took-call {s} {p} {t} x y = ap (asked s p) (sending-unique (length (steps_of p)) t x.sent y.sent x.reads y.reads)

-- nothing else can be told or left
pub took_one : {s : ℕ} {p t b : List ℕ} {k n : ℕ} {b' : List ℕ} {k2 n2 : ℕ} {b2 : List ℕ} → InsertedXml s p t b k n b' → InsertedXml s p t b k2 n2 b2
    → (k ≡ k2) × (n ≡ n2) × (b' ≡ b2)
took_one {s} {p} {t} {b} {k} {n} {b'} {k2} {n2} {b2} x y =
    let same = did-one (asked s p x.sent) x.did (subst (λ (c : Call). Did c b [] (counted k2 n2) b2 []) (took-call y x) y.did) in
    let result : count n ≡ count n2 = ap (λ (o : Told). o.result) same.0 in
    let counts : n ≡ n2 = cc in
    (ap (λ (o : Told). o.number) same.0, counts, same.1)

module _ (s : ℕ) (p t b : List ℕ) {n : ℕ} {b' : List ℕ} (x : InsertedXml s p t b 0 n b') where
  -- no row refuses it
  passed : refusal (table (asked s p x.sent) (open_model b)) ≡ none
  unfolding table caller_rows op_rows subject_of
  passed = told-done (asked s p x.sent) (open_model b) tt (sym (ap (λ (o : Told). o.number) x.did.told_is))

  -- on the store that is left, the subject's XML of the tree's path is that of the tree, siblings in path order
  pub took-back : xml_view s (open_model b') (steps_of p ++ siblings x.sent) ≡ document s (in_order x.sent)
  unfolding xml_view subject_of
  took-back =
      ap (λ (c : List ℕ). xml_view s (open_model c) (steps_of p ++ siblings x.sent)) (did-store (asked s p x.sent) x.did)
      ∙ ap (λ (v : List Element). xml_of s v (steps_of p ++ siblings x.sent)) (shows-after (asked s p x.sent) b s)
      ∙ take-reads-back (subject s) p x.sent (open_model b) passed (open-valid b)

  -- so where they are sent in path order it is the text inside the dossier tag
  pub took-text : T (is_ordered x.sent) → xml_view s (open_model b') (steps_of p ++ siblings x.sent) ≡ outer_tag s ++ (t ++ outer_end)
  took-text order =
      let one : T (is_one x.sent) = (taken (subject s) p x.sent (open_model b) passed).one in
      took-back ∙ ordered-text s x.sent (sending-one (length (steps_of p)) t x.sent one x.reads) order
