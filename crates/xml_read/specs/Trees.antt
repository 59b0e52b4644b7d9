-- Trees in a text: what a part of it says that was read, or that there is no such part.
use Rattle.std.specs.Prelude.{◌≡◌, Bool, false, ◌&&◌, List, [], ◌∷◌, ◌++◌, ℕ, suc, ◌+◌, ◌≤◌, ◌<◌, length, drop, T, eqb, Option, Some, None}
use Rattle.std.proofs.Math.Option as logic
use Rattle.model.specs.Path.{Step, valid_step}
use Rattle.model.specs.Value.{Content}
use Rattle.model.specs.Text.{ascii}
use Rattle.model.specs.Tree.{Forest, empty, element}
use Rattle.model.specs.Xml.{start_tag, end_tag, content_xml, xml}
use Rattle.model.specs.Intake.{siblings, differ, may_show, in_form, own_live, Sends, Sending}
use Rattle.scan.specs.Text.{begins, is_front}
use Rattle.scan.specs.Shown.{shows}
use Rattle.kind.specs.declared.Kind.{Kind}
use Rattle.xml_read.specs.Records.{marks, Noted}
use Rattle.xml_read.specs.declared.Mark.{Mark}
use Rattle.xml_read.specs.declared.Head.{Head}
use Rattle.xml_read.specs.declared.Tree.{Tree}
use Rattle.xml_read.specs.declared.Part.{Part}

-- how many elements trees have
abbrev pub size : Forest → ℕ
size empty = 0
size (element a c inside behind) = suc (size inside + size behind)

-- one tree
abbrev pub one : Step → logic.Option Content → Forest → Forest
one a c inside = element a c inside empty

-- ---- an element's tag and value

-- l is the start tag of the step a and the value of the content c, and r, with which the next tag begins
pub record Headed (l : List ℕ) (a : Step) (c : logic.Option Content) (r : List ℕ) : Type 0 where
  pub valid : T (valid_step a)
  pub shows : T (may_show c)
  pub ends : T (begins 60 r)
  pub same : l ≡ start_tag a c ++ (content_xml c ++ r)

-- what a tag and a value read at a place say
abbrev pub HeadAt : List ℕ → ℕ → Option Head → Type 0
HeadAt l at (Some h) =
    (at < h.next) × (h.next ≤ length l) ×
    ((c : logic.Option Content) × (shows c ≡ h.shown) × Headed (drop at l) (record { name = h.name; label = h.label }) c (drop h.next l) ×
    (h.value ≡ at + length (start_tag (record { name = h.name; label = h.label }) c)))
HeadAt l at None = (a : Step) (c : logic.Option Content) (r : List ℕ) → Headed (drop at l) a c r → ⊥

-- an element that shows k, of label n, is live and bears label s, and so do those inside it
abbrev pub own_shown : Option Kind → ℕ → ℕ → Bool → Bool
own_shown None n s inside = false
own_shown (Some k) n s inside = eqb n s && inside

-- ---- one tree

-- below d steps, for label s: the tree, in form, that stands between two places, how many elements it has, whether each is live and of
-- the label, and what w says of the marks of its elements
pub record ReadTree (l : List ℕ) (at d s : ℕ) (w : List Mark → Type 0) (t : Tree) : Type 0 where
  pub content : logic.Option Content
  pub inside : Forest
  pub form : T (in_form d (one (record { name = t.name; label = t.label }) content inside))
  pub same : drop at l ≡ xml (one (record { name = t.name; label = t.label }) content inside) ++ drop t.next l
  pub within : t.next ≤ length l
  pub counts : t.count ≡ size (one (record { name = t.name; label = t.label }) content inside)
  pub fewer : at + t.count ≤ t.next
  pub own : t.own ≡ own_live s (one (record { name = t.name; label = t.label }) content inside)
  pub noted : w (marks d at (one (record { name = t.name; label = t.label }) content inside))

-- what a tree read at a place says
abbrev pub TreeAt : List ℕ → ℕ → ℕ → ℕ → (List Mark → Type 0) → Option Tree → Type 0
TreeAt l at d s w (Some t) = ReadTree l at d s w t
TreeAt l at d s w None =
    (a : Step) (c : logic.Option Content) (inside : Forest) (r : List ℕ) → T (in_form d (one a c inside)) → drop at l ≡ xml (one a c inside) ++ r → ⊥

-- ---- the trees inside an element

-- the same of the trees up to an end tag; they differ in their steps, if it is one
pub record ReadPart (l : List ℕ) (at d s : ℕ) (w : List Mark → Type 0) (p : Part) : Type 0 where
  pub trees : Forest
  pub form : T (in_form d trees)
  pub differs : (n : ℕ) (r : List ℕ) → drop p.next l ≡ end_tag n ++ r → T (differ (siblings trees))
  pub same : drop at l ≡ xml trees ++ drop p.next l
  pub stops : T (is_front (ascii "</") (drop p.next l))
  pub within : p.next ≤ length l
  pub counts : p.count ≡ size trees
  pub fewer : at + p.count ≤ p.next
  pub own : p.own ≡ own_live s trees
  pub noted : w (marks d at trees)

-- what they say, read at a place
abbrev pub PartAt : List ℕ → ℕ → ℕ → ℕ → (List Mark → Type 0) → Option Part → Type 0
PartAt l at d s w (Some p) = ReadPart l at d s w p
PartAt l at d s w None =
    (f : Forest) (n : ℕ) (r : List ℕ) → T (in_form d f) → T (differ (siblings f)) → drop at l ≡ xml f ++ (end_tag n ++ r) → ⊥

-- ---- a whole text

-- the tree that a text sends to its end, its step, how many elements it has, whether each is live and of the label, and the marks of the first of them
pub record Sent (d s : ℕ) (l : List ℕ) (kept : List Mark) (t : Tree) : Type 0 where
  pub trees : Forest
  pub sends : Sends d l trees
  pub ends : t.next ≡ length l
  pub step : siblings trees ≡ record { name = t.name; label = t.label } ∷ []
  pub counts : t.count ≡ size trees
  pub own : t.own ≡ own_live s trees
  pub noted : Noted kept (marks d 0 trees)

-- what a whole text says; it sends one tree, or none
abbrev pub SentBy : ℕ → ℕ → List ℕ → List Mark → Option Tree → Type 0
SentBy d s l kept (Some t) = Sent d s l kept t
SentBy d s l kept None = Sending d l empty
