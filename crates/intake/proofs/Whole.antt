-- All elements of a text: before the first is put in, one after another, and behind the last.
use mathlib.Core.Path.{◌≡◌, sym, ap, subst, ◌∙◌}
use mathlib.Core.List.{List, [], ◌∷◌, map, append-nil}
use native.Mathlib.Numerals.{add-one}
use Prim.Native.Nat.{ℕ, ◌+◌, ◌≤◌, ◌<◌}
use native.Mathlib.Omega.{arith}
use lib.ListN.{length, drop, get_or, length-map, drop_of_length-le}
use lib.Seq.{drop-cons}
use lib.Dec.{T}
use Rattle.model.specs.Path.{key, steps_of}
use Rattle.model.specs.Element.{Element}
use Rattle.model.specs.Partition.{layout, read_partition}
use Rattle.model.specs.Tree.{Forest, empty, element}
use Rattle.model.specs.Xml.{xml}
use Rattle.model.specs.Intake.{is_one, in_form, Sends, elements_of, with_all}
use Rattle.model.proofs.Partitions.{well-formed, layout-read}
use Rattle.model.proofs.Sending.{form-parts, xml-injective}
use Rattle.scan.proofs.Goings.{no-empty}
use Rattle.xml_read.specs.declared.Mark.{Mark}
use Rattle.intake.specs.Putting.{above, Comes}
use Rattle.intake.specs.Progress.{Item, element_of, mark_of, Ready, Going, Left, Way, Went}
use Rattle.intake.proofs.Stepping.{length_above, above-front}
use Rattle.intake.proofs.Listing.{items_of, items-elements, items-marks, items-ready}

-- ---- before the first

-- one tree in form stands below less than six steps
one-shallow : (d : ℕ) (f : Forest) → T (is_one f) → T (in_form d f) → d < 6
one-shallow d empty t u = absurd t
one-shallow d (element a c i b) t u = (form-parts d a c i b u).shallow

module _ {x l path : List ℕ} {d label : ℕ} {ms : List Mark} (c : Comes x l path d label ms) where
  -- the elements of the tree that was told to come
  abbrev items : List Item
  items = items_of (above d path) 0 c.sent

  -- what they bring
  bring : map element_of items ≡ elements_of (above d path) c.sent
  bring = items-elements label (above d path) 0 c.sent c.own

  -- the steps above them
  deep : length (above d path) ≡ d
  deep = length_above d path (omega (arith, c.size, one-shallow d c.sent c.reads.one c.reads.ranges))

  -- so many
  many : length items ≡ length (elements_of (above d path) c.sent)
  many = sym (length-map items element_of) ∙ ap length bring

  -- they are in form and stand in the text
  in-form : Ready label l (steps_of path) items
  in-form =
      subst (Ready label l (steps_of path)) (append-nil items)
      (items-ready label l (above d path) (steps_of path) d 0 c.sent [] [] deep (above-front d path) c.reads.ranges c.own (omega arith)
      (c.reads.same ∙ sym (append-nil (xml c.sent))) (λ q t. tt))

  -- all are left
  sent-start : Left (with_all (elements_of (above d path) c.sent) (read_partition x)) label x l path ms
  sent-start =
      record {
        items = items;
        going =
            record {
              size = c.size;
              ready = in-form;
              formed = c.formed;
              coming = rw bring c.coming;
              room = omega (arith, many, c.room);
              reaches = ap (λ (es : List Element). with_all es (read_partition x)) bring;
            };
        marks-are = c.noted ∙ sym (items-marks label (above d path) d 0 c.sent deep c.own);
      }

  -- it is each tree that the text sends
  pub left-start : (f : Forest) → Sends d l f → Left (with_all (elements_of (above d path) f) (read_partition x)) label x l path ms
  left-start f s =
      subst (λ (g : Forest). Left (with_all (elements_of (above d path) g) (read_partition x)) label x l path ms)
      (xml-injective d c.sent f c.reads.ranges s.ranges (sym c.reads.same ∙ s.same)) sent-start

  -- the partition keeps its length
  pub left-size : {goal : List Element} {x' path' : List ℕ} {ns : List Mark} → Left goal label x' l path' ns → length x' ≡ length x
  left-size {x' = x'} z = (well-formed key label x' z.going.formed).size ∙ sym (well-formed key label x c.formed).size

-- ---- one after another

-- the element whose mark is next, and the others
pub record First (goal : List Element) (s : ℕ) (x l path : List ℕ) (m : Mark) (ms : List Mark) : Type 0 where
  pub item : Item
  pub others : List Item
  pub going : Going goal s x l path (item ∷ others)
  pub tells : m ≡ mark_of item
  pub rest : ms ≡ map mark_of others

module _ {goal : List Element} {s : ℕ} {x l path : List ℕ} where
  -- there is one
  left-first : {m : Mark} {ms : List Mark} → Left goal s x l path (m ∷ ms) → First goal s x l path m ms
  left-first {m} {ms} z = go z.items z.going z.marks-are
    where
      go : (is : List Item) → Going goal s x l path is → m ∷ ms ≡ map mark_of is → First goal s x l path m ms
      go [] g e = absurd (no-empty (sym e))
      go (i ∷ is) g e = record { item = i; others = is; going = g; tells = cc; rest = cc }

  -- that of a place of the buffer
  pub left-at : (ms : List Mark) (k : ℕ) (m : Mark) → k < length ms → Left goal s x l path (drop k ms) → First goal s x l path (get_or ms k m) (drop (k + 1) ms)
  left-at ms k m h z =
      left-first
      (subst (λ (ns : List Mark). Left goal s x l path ns) (drop-cons ms k m h ∙ ap (λ (n : ℕ). get_or ms k m ∷ drop n ms) (sym (add-one k))) z)

  -- it is the way on
  pub first-way : {m : Mark} {ms : List Mark} → First goal s x l path m ms → Way x l path s m
  first-way z = record { goal = goal; item = z.item; others = z.others; going = z.going; tells = z.tells }

  -- its steps are few
  pub first-shallow : {m : Mark} {ms : List Mark} → First goal s x l path m ms → m.steps < 8
  first-shallow z = rw z.tells (omega (arith, z.going.ready.1.shallow))

  -- the others are left when it was put in
  pub first-left : {m : Mark} {ms : List Mark} → First goal s x l path m ms → {x' path' : List ℕ} → Went x l path s m x' path' → Left goal s x' l path' ms
  first-left z w = record { items = z.others; going = w goal z.item z.others z.going z.tells; marks-are = z.rest }

  -- ---- behind the last

  pub left_end : (ms : List Mark) (k : ℕ) → length ms ≤ k → Left goal s x l path (drop k ms) → x ≡ layout goal
  left_end ms k h z = go z.items z.going (sym (drop_of_length-le ms {i = k} h) ∙ z.marks-are)
    where
      go : (is : List Item) → Going goal s x l path is → [] ≡ map mark_of is → x ≡ layout goal
      go [] g e = sym (layout-read key s x (well-formed key s x g.formed)) ∙ ap layout g.reaches
      go (i ∷ is) g e = absurd (no-empty e)
