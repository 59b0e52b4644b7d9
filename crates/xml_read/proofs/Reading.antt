-- Trees at a place of a text: one tree, the trees inside an element, and a whole text.
use mathlib.Core.Path.{◌≡◌, refl, sym, ap, ap₂, subst, ◌∙◌}
use mathlib.Core.Bool.{Bool, true, false, not, ◌&&◌, and_assoc}
use Rattle.std.specs.Prelude.{Option, Some, None}
use Rattle.kind.specs.declared.Kind.{Kind}
use mathlib.Core.Option.{none, some}
use mathlib.Core.Option as logic
use mathlib.Core.List.{List, [], ◌∷◌, ◌++◌, append_assoc, append-nil}
use Prim.Native.Nat.{ℕ, ◌+◌, ◌≤◌, ◌<◌}
use native.Mathlib.Omega.{arith}
use lib.ListN.{length, drop, length-append, length-drop, drop_of_length-le}
use lib.Dec.{T, eqb, leb}
use mir.Facts.{eqb_yes, yes_eqb, leb_yes, leb_no}
use borrow.Author.Tests.{not-false, not-true}
use Rattle.model.specs.Path.{Step, valid_step}
use Rattle.model.specs.Value.{Content}
use Rattle.model.specs.Text.{ascii}
use Rattle.model.specs.Tree.{Forest, empty, element}
use Rattle.model.specs.Xml.{start_tag, end_tag, content_xml, xml}
use Rattle.model.specs.Intake.{siblings, differ, in_form, own_live, is_one, Sends}
use Rattle.model.proofs.Bools.{and_l, and_r, both, decide}
use Rattle.model.proofs.Paths.{step-ranges}
use Rattle.model.proofs.Sending.{onto, xml-onto, xml-element, siblings-onto, form-onto, ElementForm, form-parts, parts-form, ends_inside, ends-opens, end-tag-ends, xml-opens, rest-unique, contents-unique, tree-unique}
use Rattle.scan.specs.Text.{is_front}
use Rattle.scan.proofs.Goings.{neither}
use Rattle.scan_tag.specs.Tags.{EndAt}
use Rattle.siblings.specs.Differing.{Known, Added}
use Rattle.xml_read.specs.Records.{marks, Marked}
use Rattle.xml_read.specs.declared.Mark.{Mark}
use Rattle.xml_read.specs.Trees.{size, one, Headed, HeadAt, own_shown, TreeAt, ReadPart, PartAt, SentBy}
use Rattle.xml_read.specs.declared.Head.{Head}
use Rattle.xml_read.specs.declared.Tree.{Tree}
use Rattle.xml_read.specs.declared.Part.{Part}
use Rattle.xml_read.proofs.Marking.{behind-part, length-marks, marks-one, marks-onto, marked-none, marked_all}
use Rattle.xml_read.proofs.Heads.{opens-begins, headed-unique, live-shown}

-- the step of a head, and of a tree
abbrev head_step : Head → Step
head_step h = record { name = h.name; label = h.label }

abbrev tree_step : Tree → Step
tree_step t = record { name = t.name; label = t.label }

-- where no tree was read, it does not matter what was to be said of its marks
abbrev any-marks : List Mark → Type 0
any-marks ms = Unit {0}

-- ---- how many elements there are, and whether each is live and of the label

-- trees put behind trees
size-onto : (f g : Forest) → size (onto f g) ≡ size f + size g
size-onto empty g = omega arith
size-onto (element a c i b) g = let e : size (onto b g) ≡ size b + size g = size-onto b g in omega arith

own-onto : (s : ℕ) (f g : Forest) → own_live s (onto f g) ≡ (own_live s f && own_live s g)
own-onto s empty g = refl
own-onto s (element a none i b) g = refl
own-onto s (element a (some c) i b) g =
    let t : Bool = eqb a.label s && own_live s i in
    ap (λ (u : Bool). t && u) (own-onto s b g) ∙ sym (and_assoc t (own_live s b) (own_live s g))

-- ---- how a text goes on

-- </ ends what is inside an element
front_ends : (r : List ℕ) → T (is_front (ascii "</") r) → T (ends_inside r)
unfolding is_front
front_ends [] t = absurd t
front_ends (x ∷ []) t = absurd (and_r (eqb 60 x) false t)
front_ends (x ∷ y ∷ r) t =
    let p : 60 ≡ x = eqb_yes (and_l (eqb 60 x) (eqb 47 y && true) t) in
    let q : 47 ≡ y = eqb_yes (and_l (eqb 47 y) true (and_r (eqb 60 x) (eqb 47 y && true) t)) in
    both (eqb x 60) (eqb y 47) (yes_eqb (sym p)) (yes_eqb (sym q))

-- ---- one tree

-- an element that stands at a place is a head, what is inside, an end tag, and what follows
module _ (l : List ℕ) (at d : ℕ) (a : Step) (c : logic.Option Content) (i : Forest) (r : List ℕ) (x : ElementForm d a c i empty) (e : drop at l ≡ xml (one a c i) ++ r) where
  element-text : drop at l ≡ start_tag a c ++ (content_xml c ++ (xml i ++ (end_tag a.name ++ r)))
  element-text = e ∙ xml-element a c i empty r

  element-head : Headed (drop at l) a c (xml i ++ (end_tag a.name ++ r))
  element-head =
      record {
        valid = x.step;
        shows = x.shows;
        ends = opens-begins (xml i ++ (end_tag a.name ++ r)) (xml-opens i (end_tag a.name ++ r) (ends-opens (end_tag a.name ++ r) (end-tag-ends a.name r)));
        same = element-text;
      }

module _ (l : List ℕ) (at d s : ℕ) where
  -- too deep
  pub tree-deep : (w : List Mark → Type 0) → 6 ≤ d → TreeAt l at d s w None
  tree-deep w h a c i r t e = let k : d < 6 = (form-parts d a c i empty t).shallow in omega arith

  -- no tag or no value
  pub tree-headless : HeadAt l at None → TreeAt l at d s any-marks None
  tree-headless f a c i r t e = f a c (xml i ++ (end_tag a.name ++ r)) (element-head l at d a c i r (form-parts d a c i empty t) e)

  module _ {h : Head} (head_read : HeadAt l at (Some h)) where
    -- the place behind it is within the text
    pub head-ends : (at < h.next) × (h.next ≤ length l)
    head-ends = (head_read.0, head_read.1)

    -- the name is one that a step may have
    pub head-name : h.name ≤ 65535
    head-name = (step-ranges (head_step h) head_read.2.2.valid).1

    -- what follows it, if an element stands there
    behind-head : (a : Step) (c : logic.Option Content) (i : Forest) (r : List ℕ) → T (in_form d (one a c i)) → drop at l ≡ xml (one a c i) ++ r
        → (head_step h ≡ a) × (head_read.2.0 ≡ c) × (drop h.next l ≡ xml i ++ (end_tag a.name ++ r))
    behind-head a c i r t e = headed-unique head_read.2.2 (element-head l at d a c i r (form-parts d a c i empty t) e)

    -- where its value ends
    value-ends : h.next ≡ h.value + length (content_xml head_read.2.0)
    value-ends =
        let a : Step = head_step h in
        let c : logic.Option Content = head_read.2.0 in
        let n = behind-part l at h.next (start_tag a c ++ content_xml c) (omega (arith, head_read.0, head_read.1)) head_read.1
        (head_read.2.2.same ∙ sym (append_assoc (start_tag a c) (content_xml c) (drop h.next l))) in
        omega (arith, n, length-append (start_tag a c) (content_xml c), head_read.2.3)

    -- what is inside is not in form
    pub tree-unfilled : PartAt l h.next (d + 1) s any-marks None → TreeAt l at d s any-marks None
    tree-unfilled f a c i r t e =
        let x : ElementForm d a c i empty = form-parts d a c i empty t in
        f i a.name r (subst (λ (n : ℕ). T (in_form n i)) (omega arith) x.within) x.differs (behind-head a c i r t e).2

    module _ (v : List Mark → Type 0) {p : Part} (part-read : PartAt l h.next (d + 1) s v (Some p)) where
      -- the place behind it is within the text
      pub part-ends : p.next ≤ length l
      part-ends = part-read.within

      -- no end tag of the name
      pub tree-unended : EndAt l p.next h.name None → TreeAt l at d s any-marks None
      tree-unended f a c i r t e =
          let x : ElementForm d a c i empty = form-parts d a c i empty t in
          let b = behind-head a c i r t e in
          let u = contents-unique (d + 1) part-read.trees i (drop p.next l) (end_tag a.name ++ r) part-read.form
          (subst (λ (n : ℕ). T (in_form n i)) (omega arith) x.within) (front_ends (drop p.next l) part-read.stops) (end-tag-ends a.name r)
          (sym part-read.same ∙ b.2) in
          f r (u.1 ∙ ap (λ (n : ℕ). end_tag n ++ r) (ap (λ (k : Step). k.name) (sym b.0)))

      module _ {next : ℕ} (end_read : EndAt l p.next h.name (Some next)) where
        -- how many elements there are
        pub tree-fewer : at + (p.count + 1) ≤ next
        tree-fewer = omega (arith, head_read.0, part-read.fewer, end_read.0)

        -- a tree
        pub tree-found : (w : List Mark → Type 0) {n : ℕ} {t : Bool} → n ≡ p.count + 1 → t ≡ own_shown h.shown h.label s p.own
            → d < 6
            → ((ms : List Mark) → v ms → w (record { steps = d; name = h.name; shown = h.shown; place = h.value } ∷ ms))
            → TreeAt l at d s w (Some (record { name = h.name; label = h.label; next = next; count = n; own = t }))
        tree-found w {n} {t} e f k m =
            let a : Step = head_step h in
            let c : logic.Option Content = head_read.2.0 in
            let i : Forest = part-read.trees in
            record {
              content = c;
              inside = i;
              form =
                  parts-form d a c i empty
                  (record {
                    shallow = k;
                    step = head_read.2.2.valid;
                    shows = head_read.2.2.shows;
                    differs = part-read.differs h.name (drop next l) end_read.2;
                    within = subst (λ (n : ℕ). T (in_form n i)) (omega arith) part-read.form;
                    next = tt;
                  });
              same =
                  head_read.2.2.same
                  ∙ ap (λ (w : List ℕ). start_tag a c ++ (content_xml c ++ w)) (part-read.same ∙ ap (λ (w : List ℕ). xml i ++ w) end_read.2)
                  ∙ sym (xml-element a c i empty (drop next l));
              within = end_read.1;
              counts = let u : p.count ≡ size i = part-read.counts in omega arith;
              fewer = omega (arith, tree-fewer);
              own =
                  f
                  ∙ ap₂ (λ (k : Option Kind) (u : Bool). own_shown k h.label s u) (sym head_read.2.1) part-read.own
                  ∙ live-shown s a c i;
              noted = subst w (marks-one d at a c i head_read.2.1 head_read.2.3 value-ends) (m (marks (d + 1) h.next i) part-read.noted);
            }

-- ---- the trees inside an element

-- what was read of them: the trees, what is known of their steps, and what w says of their marks
pub record Reading (l : List ℕ) (at d s : ℕ) (w : List Mark → Type 0) (ks : List ℕ) (n : ℕ) (p : Part) : Type 0 where
  pub trees : Forest
  pub form : T (in_form d trees)
  pub known : Known l at ks n (siblings trees)
  pub same : drop at l ≡ xml trees ++ drop p.next l
  pub within : p.next ≤ length l
  pub counts : p.count ≡ size trees
  pub fewer : at + p.count ≤ p.next
  pub few : at + n ≤ p.next
  pub own : p.own ≡ own_live s trees
  pub noted : w (marks d at trees)

-- nothing
pub reading-start : (l : List ℕ) (at d s : ℕ) (b : List Mark) (k : ℕ) (ks : List ℕ) → at ≤ length l
    → Reading l at d s (Marked b k b) ks 0 (record { next = at; count = 0; own = true })
reading-start l at d s b k ks h =
    record {
      trees = empty;
      form = tt;
      known = record { many = refl; valid = tt; kept = λ h. refl; differs = λ h. tt; others = λ h. absurd (omega arith) };
      same = refl;
      within = h;
      counts = refl;
      fewer = omega arith;
      few = omega arith;
      own = refl;
      noted = marked-none b k;
    }

-- trees f are those that were read and at least one more, and so is what is left of their text, before q
record More (f read : Forest) (x q : List ℕ) : Type 0 where
  step : Step
  content : logic.Option Content
  inside : Forest
  others : Forest
  whole : f ≡ onto read (element step content inside others)
  same : x ≡ xml (one step content inside) ++ (xml others ++ q)

-- an end tag begins with </
end-front : (m : ℕ) (r : List ℕ) → is_front (ascii "</") (end_tag m ++ r) ≡ true
unfolding end_tag is_front
end-front m r = refl

-- one tree of those that are in form is
one_form : (d : ℕ) (a : Step) (c : logic.Option Content) (i b : Forest) → T (in_form d (element a c i b)) → T (in_form d (one a c i))
one_form d a c i b t =
    let x : ElementForm d a c i b = form-parts d a c i b t in
    parts-form d a c i empty
    (record { shallow = x.shallow; step = x.step; shows = x.shows; differs = x.differs; within = x.within; next = tt })

module _ {l : List ℕ} {at d s : ℕ} {w : List Mark → Type 0} {ks : List ℕ} {n : ℕ} {p : Part} (inv : Reading l at d s w ks n p) {u : Bool} (e : u ≡ is_front (ascii "</") (drop p.next l)) where
  -- the trees end here
  pub reading-end : not u ≡ false → ReadPart l at d s w p
  reading-end h =
      record {
        trees = inv.trees;
        form = inv.form;
        differs = λ m r q. known-differ m r q;
        same = inv.same;
        stops = subst T (sym (not-false u h) ∙ e) tt;
        within = inv.within;
        counts = inv.counts;
        fewer = inv.fewer;
        own = inv.own;
        noted = inv.noted;
      }
    where
      known-differ : (m : ℕ) (r : List ℕ) → drop p.next l ≡ end_tag m ++ r → T (differ (siblings inv.trees))
      known-differ m r q =
          decide (leb n 32)
          (λ (t : T (leb n 32)). inv.known.differs (leb_yes t))
          (λ (t : T (not (leb n 32))).
          subst T (inv.known.others (leb_no t) inv.trees
          (record { depth = d; name = m; behind = r; form = inv.form; same = inv.same ∙ ap (λ (w : List ℕ). xml inv.trees ++ w) q })) tt)

  module _ (h : not u ≡ true) where
    -- trees in form go on with one more
    goes_on : (f : Forest) (m : ℕ) (r : List ℕ) → T (in_form d f) → drop at l ≡ xml f ++ (end_tag m ++ r) → More f inv.trees (drop p.next l) (end_tag m ++ r)
    goes_on f m r t q = let z = rest-unique d inv.trees f (drop p.next l) (end_tag m ++ r) inv.form t (end-tag-ends m r) (sym inv.same ∙ q) in go z.rest z.whole z.same
      where
        go : (g : Forest) → f ≡ onto inv.trees g → drop p.next l ≡ xml g ++ (end_tag m ++ r) → More f inv.trees (drop p.next l) (end_tag m ++ r)
        go empty w v = absurd (neither (not-true u h) (e ∙ ap (is_front (ascii "</")) v ∙ end-front m r))
        go (element a c i b) w v =
            record {
              step = a;
              content = c;
              inside = i;
              others = b;
              whole = w;
              same = v ∙ xml-element a c i b (end_tag m ++ r) ∙ sym (xml-element a c i empty (xml b ++ (end_tag m ++ r)));
            }

    -- that one is in form
    more-form : {f : Forest} {x q : List ℕ} → T (in_form d f) → (g : More f inv.trees x q) → T (in_form d (one g.step g.content g.inside))
    more-form {f} t g =
        let k : Forest = element g.step g.content g.inside g.others in
        let w : T (in_form d inv.trees && in_form d k) = subst T (ap (in_form d) g.whole ∙ form-onto d inv.trees k) t in
        one_form d g.step g.content g.inside g.others (and_r (in_form d inv.trees) (in_form d k) w)

    -- no tree in form stands there
    pub inside-none : TreeAt l p.next d s any-marks None → PartAt l at d s w None
    inside-none k f m r t o q = let g = goes_on f m r t q in k g.step g.content g.inside (xml g.others ++ (end_tag m ++ r)) (more-form t g) g.same

    module _ (v : List Mark → Type 0) {t : Tree} (tree-read : TreeAt l p.next d s v (Some t)) where
      -- its step is valid
      pub tree-step : T (valid_step (tree_step t))
      tree-step = (form-parts d (tree_step t) tree-read.content tree-read.inside empty tree-read.form).step

      -- it ends within the text, and the elements are not more than the bytes
      pub tree-ends : (p.next < t.next) × (t.next ≤ length l) × (at + (p.count + t.count) ≤ t.next)
      tree-ends =
          let c : t.count ≡ size (one (tree_step t) tree-read.content tree-read.inside) = tree-read.counts in
          (omega (arith, tree-read.fewer), tree-read.within, omega (arith, inv.fewer, tree-read.fewer))

      module _ (ks' : List ℕ) (b : Bool) (added : Added l at ks n (tree_step t) ks' b) where
        -- its step is one of those before it
        pub inside-same : not b ≡ true → PartAt l at d s w None
        inside-same k f m r y o q =
            let g = goes_on f m r y q in
            let z = tree-unique d (tree_step t) g.step tree-read.content g.content tree-read.inside g.inside (drop t.next l)
            (xml g.others ++ (end_tag m ++ r)) tree-read.form (more-form y g) (sym tree-read.same ∙ g.same) in
            let same : tree_step t ∷ [] ≡ g.step ∷ [] = ap siblings z.0 in
            let a : g.step ≡ tree_step t = cc in
            subst (Added l at ks n (tree_step t) ks') (not-true b k) added (siblings inv.trees) (siblings g.others) f inv.known
            (record { depth = d; name = m; behind = r; form = y; same = q })
            (ap siblings g.whole ∙ siblings-onto inv.trees (element g.step g.content g.inside g.others)
            ∙ ap (λ (i : Step). siblings inv.trees ++ (i ∷ siblings g.others)) a)
            o

        -- what was read with it
        pub reading-next : not b ≡ false → {q : Part} → (q.next ≡ t.next) × (q.count ≡ p.count + t.count) × (q.own ≡ (p.own && t.own))
            → (w' : List Mark → Type 0) → ((ms ns : List Mark) → length ms ≡ p.count → w ms → v ns → w' (ms ++ ns)) → Reading l at d s w' ks' (n + 1) q
        reading-next k {q} sum w' m =
            let o : Forest = one (tree_step t) tree-read.content tree-read.inside in
            let f : Forest = inv.trees in
            let c : t.count ≡ size o = tree-read.counts in
            let c' : p.count ≡ size f = inv.counts in
            let before : p.next ≡ at + length (xml f) = behind-part l at p.next (xml f) (omega (arith, inv.few, inv.within)) inv.within inv.same in
            let j : size (onto f o) ≡ size f + size o = size-onto f o in
            record {
              trees = onto f o;
              form = subst T (sym (form-onto d f o)) (both (in_form d f) (in_form d o) inv.form tree-read.form);
              known =
                  subst (λ (y : List Step). Known l at ks' (n + 1) y) (sym (siblings-onto f o))
                  (subst (Added l at ks n (tree_step t) ks') (not-false b k) added (siblings f) inv.known);
              same =
                  inv.same ∙ ap (λ (y : List ℕ). xml f ++ y) (tree-read.same ∙ ap (λ (y : ℕ). xml o ++ drop y l) (sym sum.0))
                  ∙ sym (append_assoc (xml f) (xml o) (drop q.next l)) ∙ ap (λ (y : List ℕ). y ++ drop q.next l) (sym (xml-onto f o));
              within = omega (arith, tree-ends.1, sum.0);
              counts = omega (arith, sum.1);
              fewer = omega (arith, tree-ends.2, sum.0, sum.1);
              few = omega (arith, inv.few, tree-ends.0, sum.0);
              own = sum.2 ∙ ap₂ (λ (y z : Bool). y && z) inv.own tree-read.own ∙ sym (own-onto s f o);
              noted =
                  subst w' (ap (λ (y : ℕ). marks d at f ++ marks d y o) before ∙ sym (marks-onto d at f o))
                  (m (marks d at f) (marks d p.next o) (length-marks d at f ∙ sym c') inv.noted tree-read.noted);
            }

-- ---- a whole text

-- one tree and no more
abbrev Alone : Forest → Type 0
Alone f = (a : Step) × (c : logic.Option Content) × (i : Forest) × (f ≡ one a c i)

alone : (f : Forest) → T (is_one f) → Alone f
alone empty t = absurd t
alone (element a c i empty) t = (a, c, i, refl)
alone (element a c i (element b e j o)) t = absurd t

-- its text
alone-text : {d : ℕ} {l : List ℕ} {f : Forest} (s : Sends d l f) (w : Alone f)
    → T (in_form d (one w.0 w.1 w.2)) × (l ≡ xml (one w.0 w.1 w.2) ++ [])
alone-text {d} {l} {f} s w = (
  subst (λ (g : Forest). T (in_form d g)) w.3 s.ranges,
  s.same ∙ ap xml w.3 ∙ sym (append-nil (xml (one w.0 w.1 w.2))),
)

module _ (d s : ℕ) (l : List ℕ) (b b' : List Mark) where
  -- no tree begins it
  pub sent-none : TreeAt l 0 d s (Marked b 0 b') None → SentBy d s l b' None
  sent-none k f o =
      let w : Alone f = alone f o.one in
      let v = alone-text o w in
      k w.0 w.1 w.2 [] v.0 v.1

  module _ {t : Tree} (whole-read : TreeAt l 0 d s (Marked b 0 b') (Some t)) where
    -- something stands behind it
    pub sent-more : t.next < length l → SentBy d s l b' None
    sent-more h f o =
        let w : Alone f = alone f o.one in
        let v = alone-text o w in
        let u = tree-unique d (tree_step t) w.0 whole-read.content w.1 whole-read.inside w.2 (drop t.next l) [] whole-read.form v.0
        (sym whole-read.same ∙ v.1) in
        let n : length (drop t.next l) ≡ 0 = ap length u.1 in
        let m = length-drop t.next l in
        omega arith

    -- it is the text
    pub sent-found : length l ≤ t.next → SentBy d s l b' (Some t)
    sent-found h =
        record {
          trees = one (tree_step t) whole-read.content whole-read.inside;
          sends =
              record {
                one = tt;
                ranges = whole-read.form;
                same =
                    whole-read.same
                    ∙ ap (λ (y : List ℕ). xml (one (tree_step t) whole-read.content whole-read.inside) ++ y) (drop_of_length-le l {i = t.next} h)
                    ∙ append-nil (xml (one (tree_step t) whole-read.content whole-read.inside));
              };
          ends = let w : t.next ≤ length l = whole-read.within in omega arith;
          step = refl;
          counts = whole-read.counts;
          own = whole-read.own;
          noted = marked_all whole-read.noted;
        }
