-- The XML of trees in form is read in one way: where it is followed by an end tag, or by nothing, it tells the trees; so a text sends one
-- tree at most.
use mathlib.Core.Path.{◌≡◌, refl, sym, ap, subst, ◌∙◌}
use mathlib.Core.Bool.{Bool, false, ◌&&◌, and_assoc}
use mathlib.Core.Option.{Option}
use mathlib.Core.List.{List, [], ◌∷◌, ◌++◌, append_assoc}
use Prim.Native.Nat.{ℕ, suc, ◌<◌}
use lib.ListN.{drop}
use lib.Dec.{T, eqb, ltb}
use mir.Facts.{ltb_yes, yes_ltb}
use Rattle.model.specs.Path.{Step, valid_step}
use Rattle.model.specs.Value.{Content}
use Rattle.model.specs.Text.{ascii, decimal, is_digit}
use Rattle.model.specs.Tree.{Forest, empty, element}
use Rattle.model.specs.Xml.{start_tag, end_tag, content_xml, xml}
use Rattle.model.specs.Intake.{siblings, differ, may_show, in_form, is_one, Sends, Sending}
use Rattle.model.proofs.Bools.{and_l, and_r, both}
use Rattle.model.proofs.Tagging.{opens_tag, number-unique, tag-unique, content-unique}

-- ---- trees put behind trees

-- the trees g behind the trees f
abbrev pub onto : Forest → Forest → Forest
onto empty g = g
onto (element a c i b) g = element a c i (onto b g)

-- none behind them
pub onto-empty : (f : Forest) → onto f empty ≡ f
onto-empty empty = refl
onto-empty (element a c i b) = ap (element a c i) (onto-empty b)

-- an element's text, with what follows it put behind its parts
pub xml-element : (a : Step) (c : Option Content) (i b : Forest) (r : List ℕ)
    → xml (element a c i b) ++ r ≡ start_tag a c ++ (content_xml c ++ (xml i ++ (end_tag a.name ++ (xml b ++ r))))
xml-element a c i b r = flat (start_tag a c) (content_xml c) (xml i) (end_tag a.name) (xml b) r
  where
    flat : (s v w e x r : List ℕ) → (s ++ (v ++ (w ++ (e ++ x)))) ++ r ≡ s ++ (v ++ (w ++ (e ++ (x ++ r))))
    flat s v w e x r = simp append_assoc

-- their text is that of both
pub xml-onto : (f g : Forest) → xml (onto f g) ≡ xml f ++ xml g
xml-onto empty g = refl
xml-onto (element a c i b) g =
    ap (λ (r : List ℕ). start_tag a c ++ (content_xml c ++ (xml i ++ (end_tag a.name ++ r)))) (xml-onto b g) ∙ sym (xml-element a c i b (xml g))

-- and so are their steps
pub siblings-onto : (f g : Forest) → siblings (onto f g) ≡ siblings f ++ siblings g
siblings-onto empty g = refl
siblings-onto (element a c i b) g = ap (λ (p : List Step). a ∷ p) (siblings-onto b g)

-- they are in form if both are
pub form-onto : (d : ℕ) (f g : Forest) → in_form d (onto f g) ≡ (in_form d f && in_form d g)
form-onto d empty g = refl
form-onto d (element a c i b) g =
    let t : Bool = ltb d 6 && valid_step a && may_show c && differ (siblings i) && in_form (suc d) i in
    ap (λ (u : Bool). t && u) (form-onto d b g) ∙ sym (and_assoc t (in_form d b) (in_form d g))

-- ---- an element in form

-- the facts of it, named
pub record ElementForm (d : ℕ) (a : Step) (c : Option Content) (inside behind : Forest) : Type 0 where
  pub shallow : d < 6
  pub step : T (valid_step a)
  pub shows : T (may_show c)
  pub differs : T (differ (siblings inside))
  pub within : T (in_form (suc d) inside)
  pub next : T (in_form d behind)

module _ (d : ℕ) (a : Step) (c : Option Content) (inside behind : Forest) where
  -- they follow from the test
  pub form-parts : T (in_form d (element a c inside behind)) → ElementForm d a c inside behind
  form-parts t =
      record {
        shallow = ltb_yes (search (and_l, and_r) depth 9);
        step = search (and_l, and_r) depth 9;
        shows = search (and_l, and_r) depth 9;
        differs = search (and_l, and_r) depth 9;
        within = search (and_l, and_r) depth 9;
        next = search (and_l, and_r) depth 9;
      }

  -- and it follows from them
  pub parts-form : ElementForm d a c inside behind → T (in_form d (element a c inside behind))
  parts-form f =
      let s : T (ltb d 6) = yes_ltb f.shallow in
      let t : T (valid_step a) = f.step in
      let u : T (may_show c) = f.shows in
      let v : T (differ (siblings inside)) = f.differs in
      let w : T (in_form (suc d) inside) = f.within in
      let x : T (in_form d behind) = f.next in
      search both depth 9

-- ---- how a text goes on

-- with </
abbrev pub ends_inside : List ℕ → Bool
ends_inside [] = false
ends_inside (x ∷ []) = false
ends_inside (x ∷ y ∷ l) = eqb x 60 && eqb y 47

-- then with <
pub ends-opens : (r : List ℕ) → T (ends_inside r) → T (opens_tag r)
ends-opens [] t = absurd t
ends-opens (x ∷ []) t = absurd t
ends-opens (x ∷ y ∷ l) t = and_l (eqb x 60) (eqb y 47) t

-- an end tag does
pub end-tag-ends : (n : ℕ) (r : List ℕ) → T (ends_inside (end_tag n ++ r))
unfolding end_tag
end-tag-ends n r = tt

-- trees open a tag if what follows them does
pub xml-opens : (f : Forest) (r : List ℕ) → T (opens_tag r) → T (opens_tag (xml f ++ r))
unfolding start_tag
xml-opens empty r t = t
xml-opens (element a c i b) r t = tt

-- a tree's text does not begin with </
pub tree-begins : (a : Step) (c : Option Content) (i b : Forest) (r : List ℕ) → T (ends_inside (xml (element a c i b) ++ r)) → ⊥
unfolding start_tag
tree-begins a c i b r t = t

-- ---- trees in form are determined by their text

-- an end tag and what follows it
pub end-text : (n : ℕ) (r : List ℕ) → end_tag n ++ r ≡ ascii "</e" ++ (decimal n ++ (ascii ">" ++ r))
unfolding end_tag
end-text n r = ap (λ (l : List ℕ). ascii "</e" ++ l) (append_assoc (decimal n) (ascii ">") r)

-- of two texts that are the same, what follows the end tags is the same
end-unique : (m n : ℕ) (x y : List ℕ) → end_tag m ++ x ≡ end_tag n ++ y → x ≡ y
unfolding is_digit
end-unique m n x y e =
    ap (drop 1) (number-unique m n (ascii ">" ++ x) (ascii ">" ++ y) tt tt (ap (drop 3) (sym (end-text m x) ∙ e ∙ end-text n y))).1

-- trees that are told by their texts, where the end of those that they stand inside follows
abbrev Told : Forest → Forest → Type 0
Told f g = (u v : List ℕ) → T (ends_inside u) → T (ends_inside v) → xml f ++ u ≡ xml g ++ v → (f ≡ g) × (u ≡ v)

-- elements whose texts are the same, if the trees inside them are told by their texts
element-unique : (a b : Step) (c e : Option Content) (i j o p : Forest) (u v : List ℕ) → T (may_show c) → T (may_show e) → Told i j
    → xml (element a c i o) ++ u ≡ xml (element b e j p) ++ v → (a ≡ b) × (c ≡ e) × (i ≡ j) × (xml o ++ u ≡ xml p ++ v)
element-unique a b c e i j o p u v s t f h =
    let x : List ℕ = end_tag a.name ++ (xml o ++ u) in
    let y : List ℕ = end_tag b.name ++ (xml p ++ v) in
    let q : T (ends_inside x) = end-tag-ends a.name (xml o ++ u) in
    let r : T (ends_inside y) = end-tag-ends b.name (xml p ++ v) in
    let tag = tag-unique a b c e (content_xml c ++ (xml i ++ x)) (content_xml e ++ (xml j ++ y)) s t (sym (xml-element a c i o u) ∙ h ∙ xml-element b e j p v) in
    let content = content-unique c e (xml i ++ x) (xml j ++ y) s t tag.1 (xml-opens i x (ends-opens x q)) (xml-opens j y (ends-opens y r)) tag.2 in
    let inside = f x y q r content.1 in
    (tag.0, content.0, inside.0, end-unique a.name b.name (xml o ++ u) (xml p ++ v) inside.1)

-- trees g, up to the end of those that they stand inside, begin with the trees f that were read, and go on with what is left
pub record Rest (f g : Forest) (u r : List ℕ) : Type 0 where
  pub rest : Forest
  pub whole : g ≡ onto f rest
  pub same : u ≡ xml rest ++ r

-- nothing is left where the end follows
rest-none : (f g : Forest) (u r : List ℕ) → T (ends_inside u) → Rest f g u r → (f ≡ g) × (u ≡ r)
rest-none f g u r t s = go s.rest s.whole s.same
  where
    go : (k : Forest) → g ≡ onto f k → u ≡ xml k ++ r → (f ≡ g) × (u ≡ r)
    go empty p q = (sym (p ∙ onto-empty f), q)
    go (element a c i b) p q = absurd (tree-begins a c i b r (subst (λ (l : List ℕ). T (ends_inside l)) q t))

-- of two texts that are the same, whatever follows the trees that were read
pub rest-unique : (d : ℕ) (f g : Forest) (u r : List ℕ) → T (in_form d f) → T (in_form d g) → T (ends_inside r) → xml f ++ u ≡ xml g ++ r → Rest f g u r
rest-unique d empty g u r s t h e = record { rest = g; whole = refl; same = e }
rest-unique d (element a c i b) empty u r s t h e = absurd (tree-begins a c i b u (subst (λ (l : List ℕ). T (ends_inside l)) (sym e) h))
rest-unique d (element a c i o) (element b k j p) u r s t h e =
    let x = form-parts d a c i o s in
    let y = form-parts d b k j p t in
    let same = element-unique a b c k i j o p u r x.shows y.shows
    (λ v w m n l. rest-none i j v w m (rest-unique (suc d) i j v w x.within y.within n l)) e in
    let z = rest-unique d o p u r x.next y.next h same.3 in
    record { rest = z.rest; whole = λ n. element (sym same.0 n) (sym same.1 n) (sym same.2 n) (z.whole n); same = z.same }

-- the trees up to the end of those that they stand inside
pub contents-unique : (d : ℕ) (f g : Forest) (u v : List ℕ) → T (in_form d f) → T (in_form d g) → T (ends_inside u) → T (ends_inside v) → xml f ++ u ≡ xml g ++ v
    → (f ≡ g) × (u ≡ v)
contents-unique d f g u v s t h k e = rest-none f g u v h (rest-unique d f g u v s t k e)

-- one tree, whatever follows it
pub tree-unique : (d : ℕ) (a b : Step) (c e : Option Content) (i j : Forest) (u v : List ℕ) → T (in_form d (element a c i empty)) → T (in_form d (element b e j empty))
    → xml (element a c i empty) ++ u ≡ xml (element b e j empty) ++ v → (element a c i empty ≡ element b e j empty) × (u ≡ v)
tree-unique d a b c e i j u v s t h =
    let x = form-parts d a c i empty s in
    let y = form-parts d b e j empty t in
    let same = element-unique a b c e i j empty empty u v x.shows y.shows
    (λ k l m n p. contents-unique (suc d) i j k l x.within y.within m n p) h in
    (λ n. element (same.0 n) (same.1 n) (same.2 n) empty, same.3)

-- on trees in form the text is injective
pub xml-injective : (d : ℕ) (f g : Forest) → T (in_form d f) → T (in_form d g) → xml f ≡ xml g → f ≡ g
xml-injective d f g s t e = (contents-unique d f g (ascii "</") (ascii "</") s t tt tt (ap (λ (l : List ℕ). l ++ ascii "</") e)).0

-- so a text sends one tree at most
pub sending-unique : (d : ℕ) (t : List ℕ) (f g : Forest) → Sending d t f → Sending d t g → f ≡ g
sending-unique d t empty empty r s = refl
sending-unique d t empty (element a c i b) r s = absurd (r (element a c i b) s)
sending-unique d t (element a c i b) empty r s = absurd (s (element a c i b) r)
sending-unique d t (element a c i o) (element b e j p) r s =
    xml-injective d (element a c i o) (element b e j p) r.ranges s.ranges (sym r.same ∙ s.same)

-- a text that sends a tree sends it in form
pub sending-one : (d : ℕ) (t : List ℕ) (f : Forest) → T (is_one f) → Sending d t f → Sends d t f
sending-one d t empty one s = absurd one
sending-one d t (element a c i b) one s = s
