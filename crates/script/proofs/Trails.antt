-- Steps and paths as they stand in a line.
use mathlib.Core.Path.{◌≡◌, refl, sym, ap, ap₂, ◌∙◌}
use mathlib.Core.Bool.{Bool, true, false, not, ◌&&◌}
use mathlib.Core.List.{List, [], ◌∷◌, ◌++◌, append_assoc}
use Prim.Native.Nat.{ℕ, suc, ◌+◌, ◌-◌, ◌*◌, ◌≤◌, ◌<◌}
use native.Mathlib.Omega.{arith}
use lib.ListN.{length, take, drop}
use lib.Seq.{append_snoc}
use lib.Dec.{T, leb}
use mir.Facts.{T_not, leb_yes, yes_leb, eqb_yes}
use borrow.Author.Tests.{not-false}
use Rattle.model.specs.Path.{Step, steps_of}
use Rattle.model.specs.Text.{decimal, is_digit}
use Rattle.model.specs.Script.{step_text, path_text, path_in_range}
use Rattle.model.proofs.Bools.{and_l, and_r, both}
use Rattle.scan.specs.Text.{begins, no_digit}
use Rattle.scan.specs.Numbers.{Numbered, NumberAt}
use Rattle.std.specs.Prelude.{Option, Some, None}
use Rattle.scan.proofs.Goings.{Here, begins-yes, begins-no}
use Rattle.scan.proofs.Numerals.{numbered-unique, decimal-begins}
use Rattle.script.specs.Text.{closes}
use Rattle.script.specs.Paths.{Stepped, StepAt, Pathed, StepsAt, PathAt}
use Rattle.path.specs.Steps.{put_step}
use Rattle.path.proofs.Buffers.{length-put, steps-put}

-- ---- a step

step-name : {l r : List ℕ} {a : Step} → Stepped l a r → Numbered 65535 l a.name (58 ∷ (decimal a.label ++ r))
unfolding is_digit step_text
step-name {r = r} {a = a} s =
    record { small = s.name-fits; ends = tt; same = s.same ∙ append_assoc (decimal a.name) (58 ∷ decimal a.label) r }

step_label : {l r : List ℕ} {a : Step} → Stepped l a r → Numbered 255 (decimal a.label ++ r) a.label r
step_label s = record { small = s.label-fits; ends = s.ends; same = refl }

stepped-unique : {l r q : List ℕ} {a b : Step} → Stepped l a r → Stepped l b q → (a ≡ b) × (r ≡ q)
stepped-unique {r = r} {q = q} {a = a} {b = b} s t =
    let n = numbered-unique (step-name s) (step-name t) in
    let e : decimal a.label ++ r ≡ decimal b.label ++ q = cc n.1 in
    let m = numbered-unique (step_label s) (record { small = t.label-fits; ends = t.ends; same = e }) in
    (λ i. record { name = n.0 i; label = m.0 i }, m.1)

-- ---- a step at a place of a line

module _ (l : List ℕ) (at : ℕ) where
  -- no name there
  pub step-nameless : NumberAt 65535 l at None → StepAt l at None
  step-nameless f a r s = f a.name (58 ∷ (decimal a.label ++ r)) (step-name s)

  module _ {n colon : ℕ} (named : NumberAt 65535 l at (Some (n, colon))) {t : Bool} (e : t ≡ begins 58 (drop colon l)) where
    -- what follows the name of a step there
    behind-name : (a : Step) (r : List ℕ) → Stepped (drop at l) a r → drop colon l ≡ 58 ∷ (decimal a.label ++ r)
    behind-name a r s = (numbered-unique named.2 (step-name s)).1

    -- no colon behind it
    pub step-alone : not t ≡ true → StepAt l at None
    step-alone h a r s = begins-no l colon 58 e h (decimal a.label ++ r) (behind-name a r s)

    module _ (h : not t ≡ false) where
      -- no label behind the colon
      pub step-unlabelled : NumberAt 255 l (colon + 1) None → StepAt l at None
      step-unlabelled f a r s =
          let q : drop (colon + 1) l ≡ decimal a.label ++ r = cc (sym (begins-yes l colon 58 e h).is ∙ behind-name a r s) in
          f a.label r (record { small = s.label-fits; ends = s.ends; same = q })

      -- a name, a colon and a label
      pub step-found : {m next : ℕ} → NumberAt 255 l (colon + 1) (Some (m, next)) → StepAt l at (Some (n, m, next))
      unfolding step_text
      step-found {m} {next} k = (
        omega (arith, named.0, k.0),
        k.1,
        record {
          name-fits = named.2.small;
          label-fits = k.2.small;
          ends = k.2.ends;
          same =
              named.2.same ∙ ap (λ (r : List ℕ). decimal n ++ r) ((begins-yes l colon 58 e h).is ∙ ap (λ (r : List ℕ). 58 ∷ r) k.2.same)
              ∙ sym (append_assoc (decimal n) (58 ∷ decimal m) (drop next l));
        },
      )

-- ---- steps parted by /

-- a field's end is no digit
closes-digit : (r : List ℕ) → T (closes r) → T (no_digit r)
unfolding is_digit
closes-digit [] t = tt
closes-digit (x ∷ r) t = let e : x ≡ 9 = eqb_yes t in rw e tt

-- what follows the first step of a path
abbrev after : List Step → List ℕ → List ℕ
after [] r = r
after (b ∷ p) r = 47 ∷ (path_text (b ∷ p) ++ r)

after-digit : (p : List Step) (r : List ℕ) → T (closes r) → T (no_digit (after p r))
unfolding is_digit
after-digit [] r t = closes-digit r t
after-digit (b ∷ p) r t = tt

after_text : (a : Step) (p : List Step) (r : List ℕ) → path_text (a ∷ p) ++ r ≡ step_text a ++ after p r
after_text a [] r = refl
after_text a (b ∷ p) r = append_assoc (step_text a) (47 ∷ path_text (b ∷ p)) r

abbrev fits : Step → Bool
fits a = leb a.name 65535 && leb a.label 255

-- the first step of a path, and a path of a step and more
path-first : {l r : List ℕ} (a : Step) (p : List Step) → Pathed l (a ∷ p) r → Stepped l a (after p r)
path-first {r = r} a p s =
    let f : T (fits a) = and_l (fits a) (path_in_range p) s.ranges in
    record {
      name-fits = leb_yes (and_l (leb a.name 65535) (leb a.label 255) f);
      label-fits = leb_yes (and_r (leb a.name 65535) (leb a.label 255) f);
      ends = after-digit p r s.ends;
      same = s.same ∙ after_text a p r;
    }

path-of : {l r : List ℕ} (a : Step) (p : List Step) → Stepped l a (after p r) → T (path_in_range p) → T (closes r) → Pathed l (a ∷ p) r
path-of {r = r} a p s t k = record {
  ranges =
      both (fits a) (path_in_range p) (both (leb a.name 65535) (leb a.label 255) (yes_leb s.name-fits) (yes_leb s.label-fits)) t;
  ends = k;
  same = s.same ∙ sym (after_text a p r);
}

-- the path behind the first step and a /
path-others : {l m r : List ℕ} {a b : Step} {p : List Step} → Pathed l (a ∷ b ∷ p) r → m ≡ path_text (b ∷ p) ++ r → Pathed m (b ∷ p) r
path-others {a = a} {b = b} {p = p} x e = record { ranges = and_r (fits a) (path_in_range (b ∷ p)) x.ranges; ends = x.ends; same = e }

-- a path of which the steps q are passed and l is left: its first step b and those after it
pub record Rest (q : List Step) (l : List ℕ) (p : List Step) (r : List ℕ) : Type 0 where
  pub first : Step
  pub others : List Step
  pub is : p ≡ q ++ (first ∷ others)
  pub left : Pathed l (first ∷ others) r

-- of the text k the steps q are passed, and l is left
pub record Walk (k : List ℕ) (q : List Step) (l : List ℕ) : Type 0 where
  pub forth : (a : Step) (p : List Step) (r : List ℕ) → Pathed l (a ∷ p) r → Pathed k (q ++ (a ∷ p)) r
  pub back : (a : Step) (p : List Step) (r : List ℕ) → Pathed k (a ∷ p) r → Rest q l (a ∷ p) r

walk_start : (l : List ℕ) → Walk l [] l
walk_start l = record { forth = λ a p r s. s; back = λ a p r s. record { first = a; others = p; is = refl; left = s } }

module _ {k l : List ℕ} {q : List Step} (inv : Walk k q l) where
  -- no step is left
  walk_none : ((a : Step) (r : List ℕ) → Stepped l a r → ⊥) → (a : Step) (p : List Step) (r : List ℕ) → Pathed k (a ∷ p) r → ⊥
  walk_none f a p r s = let b = inv.back a p r s in f b.first (after b.others r) (path-first b.first b.others b.left)

  module _ {c : Step} {m : List ℕ} (step : Stepped l c m) where
    -- the step is the last
    walk_end : T (closes m) → Pathed k (q ++ (c ∷ [])) m
    walk_end t = inv.forth c [] m (path-of c [] step tt t)

    -- it is followed by neither
    walk-stop : closes m ≡ false → ((r : List ℕ) → m ≡ 47 ∷ r → ⊥) → (a : Step) (p : List Step) (r : List ℕ) → Pathed k (a ∷ p) r → ⊥
    walk-stop f g a p r s = go b.others b.left
      where
        b : Rest q l (a ∷ p) r
        b = inv.back a p r s

        go : (o : List Step) → Pathed l (b.first ∷ o) r → ⊥
        go [] x =
            let e : m ≡ r = (stepped-unique step (path-first b.first [] x)).1 in
            T_not (closes r) x.ends (rw (← e, f) tt)
        go (d ∷ o) x = g (path_text (d ∷ o) ++ r) (stepped-unique step (path-first b.first (d ∷ o) x)).1

module _ {k l : List ℕ} {q : List Step} (inv : Walk k q l) {c : Step} {m : List ℕ} (step : Stepped l c (47 ∷ m)) where
  -- another step follows
  walk-next : Walk k (q ++ (c ∷ [])) m
  walk-next = record { forth = ahead; back = behind }
    where
      ahead : (a : Step) (p : List Step) (r : List ℕ) → Pathed m (a ∷ p) r → Pathed k (q ++ (c ∷ []) ++ (a ∷ p)) r
      ahead a p r s =
          let x : Stepped l c (after (a ∷ p) r) = rw (← s.same) step in
          rw (append_snoc q c (a ∷ p)) (inv.forth c (a ∷ p) r (path-of c (a ∷ p) x s.ranges s.ends))

      behind : (a : Step) (p : List Step) (r : List ℕ) → Pathed k (a ∷ p) r → Rest (q ++ (c ∷ [])) m (a ∷ p) r
      behind a p r s = go b.others b.is b.left
        where
          b : Rest q l (a ∷ p) r
          b = inv.back a p r s

          go : (o : List Step) → a ∷ p ≡ q ++ (b.first ∷ o) → Pathed l (b.first ∷ o) r → Rest (q ++ (c ∷ [])) m (a ∷ p) r
          go [] i x =
              let e : 47 ∷ m ≡ r = (stepped-unique step (path-first b.first [] x)).1 in
              absurd (rw (← e) at x.ends)
          go (d ∷ o) i x =
              let u = stepped-unique step (path-first b.first (d ∷ o) x) in
              record {
                first = d;
                others = o;
                is = i ∙ rw (← u.0) (sym (append_snoc q c (d ∷ o)));
                left = path-others x (cc u.1);
              }

-- ---- steps at a place of a line, written into a buffer

-- n steps from at to i stand in the buffer b, which was c
pub record Trail (l : List ℕ) (at : ℕ) (c b : List ℕ) (i n : ℕ) : Type 0 where
  pub walk : Walk (drop at l) (steps_of (take (3 * n) b)) (drop i l)
  pub within : i ≤ length l
  pub passed : at + 4 * n ≤ i
  pub size : length b ≡ length c

-- no step is passed
pub trail-start : (l : List ℕ) (at : ℕ) (b : List ℕ) → at ≤ length l → Trail l at b b at 0
trail-start l at b h = record { walk = walk_start (drop at l); within = h; passed = omega arith; size = refl }

module _ {l : List ℕ} {at : ℕ} {c b : List ℕ} {i n : ℕ} (inv : Trail l at c b i n) where
  -- no step is left
  pub trail-none : StepAt l i None → (a : Step) (p : List Step) (r : List ℕ) → Pathed (drop at l) (a ∷ p) r → ⊥
  trail-none = walk_none inv.walk

  module _ (short : length l ≤ 256) (room : 192 ≤ length c) {name label next : ℕ} (step : StepAt l i (Some (name, label, next))) where
    -- the buffer has room for the step, whose numbers fit
    pub trail-room : (3 * n + 3 ≤ length b) × ((name ≤ 65535) × (label ≤ 255))
    trail-room = (omega (arith, inv.passed, inv.size, step.0, step.1), (step.2.name-fits, step.2.label-fits))

    -- less of the line is left behind it
    pub trail-less : suc (length l) - (next + 1) < suc (length l) - i
    trail-less = omega (arith, step.0, step.1)

    module _ {d : List ℕ} (put : d ≡ put_step b n name label) where
      put-steps : steps_of (take (3 * (n + 1)) d) ≡ steps_of (take (3 * n) b) ++ (record { name = name; label = label } ∷ [])
      put-steps = rw put (steps-put b n name label trail-room.0)

      -- the buffer keeps its length
      pub trail-size : length d ≡ length c
      trail-size = ap length put ∙ length-put b n name label ∙ inv.size

      module _ {t : Bool} (e : t ≡ closes (drop next l)) where
        -- the step is the last
        pub trail-end : t ≡ true → StepsAt l at d (Some (n + 1, next))
        trail-end h =
            let k : T (closes (drop next l)) = rw (← e, h) tt in
            (omega (arith, inv.passed, step.0, step.1), step.1, rw put-steps (walk_end inv.walk step.2 k))

        module _ (h : t ≡ false) {u : Bool} (f : u ≡ begins 47 (drop next l)) where
          -- neither the end nor a / follows it
          pub trail-stop : not u ≡ true → (a : Step) (p : List Step) (r : List ℕ) → Pathed (drop at l) (a ∷ p) r → ⊥
          trail-stop g = walk-stop inv.walk step.2 (sym e ∙ h) (begins-no l next 47 f g)

          -- a / follows it
          pub trail-next : not u ≡ false → Trail l at c d (next + 1) (n + 1)
          trail-next g =
              let y : Here l next 47 = begins-yes l next 47 f g in
              let s : Stepped (drop i l) (record { name = name; label = label }) (47 ∷ drop (next + 1) l) = rw (← y.is) step.2 in
              record {
                walk = rw put-steps (walk-next inv.walk s);
                within = omega (arith, y.within);
                passed = omega (arith, inv.passed, step.0);
                size = trail-size;
              }

-- ---- a path

-- a number does not begin with /
number-slash : {m n : ℕ} {l r : List ℕ} → Numbered m l n r → begins 47 l ≡ true → ⊥
unfolding is_digit
number-slash {n = n} {r = r} s e = decimal-begins 47 tt n r (ap (begins 47) (sym s.same) ∙ e)

module _ (l : List ℕ) (at : ℕ) {t : Bool} (e : t ≡ begins 47 (drop at l)) where
  -- no / there: the path is its steps
  pub path-steps : not t ≡ true → (b : List ℕ) (x : Option (ℕ × ℕ)) → StepsAt l at b x → PathAt l at b x
  path-steps h b x s = go x s
    where
      go : (x : Option (ℕ × ℕ)) → StepsAt l at b x → PathAt l at b x
      go (Some (n, next)) s = s
      go None s = none
        where
          none : (p : List Step) (r : List ℕ) → Pathed (drop at l) p r → ⊥
          none [] r k = begins-no l at 47 e h r k.same
          none (a ∷ p) r k = s a p r k

  module _ (h : not t ≡ false) {u : Bool} (f : u ≡ closes (drop (at + 1) l)) where
    slash : Here l at 47
    slash = begins-yes l at 47 e h

    -- a / that something other than the end follows
    pub path-open : not u ≡ true → (p : List Step) (r : List ℕ) → Pathed (drop at l) p r → ⊥
    path-open g [] r k =
        let q : drop (at + 1) l ≡ r = cc (sym slash.is ∙ k.same) in
        T_not (closes r) k.ends (rw (← q, ← f, g) tt)
    path-open g (a ∷ p) r k = number-slash (step-name (path-first a p k)) (sym e ∙ not-false t h)

    -- a lone /
    pub path-root : not u ≡ false → (b : List ℕ) → PathAt l at b (Some (0, (at + 1)))
    path-root g b = (omega arith, omega (arith, slash.within), record { ranges = tt; ends = rw (← f, not-false u g) tt; same = slash.is })

-- ---- a path is read in one way

-- what follows the first step tells what the path is
pub pathed-unique : {l : List ℕ} (p q : List Step) {r s : List ℕ} → Pathed l p r → Pathed l q s → (p ≡ q) × (r ≡ s)
pathed-unique [] [] {r} {s} x y = let e : 47 ∷ r ≡ 47 ∷ s = sym x.same ∙ y.same in (refl, cc)
pathed-unique [] (b ∷ q) x y = absurd (number-slash (step-name (path-first b q y)) (ap (begins 47) x.same))
pathed-unique (a ∷ p) [] x y = absurd (number-slash (step-name (path-first a p x)) (ap (begins 47) y.same))
pathed-unique (a ∷ []) (b ∷ []) x y =
    let u = stepped-unique (path-first a [] x) (path-first b [] y) in
    (ap (λ (c : Step). c ∷ []) u.0, u.1)
pathed-unique (a ∷ []) (b ∷ d ∷ q) x y = absurd (rw (stepped-unique (path-first a [] x) (path-first b (d ∷ q) y)).1 at x.ends)
pathed-unique (a ∷ c ∷ p) (b ∷ []) x y = absurd (rw (stepped-unique (path-first b [] y) (path-first a (c ∷ p) x)).1 at y.ends)
pathed-unique {l = l} (a ∷ c ∷ p) (b ∷ d ∷ q) {r = r} {s = s} x y =
    let u = stepped-unique (path-first a (c ∷ p) x) (path-first b (d ∷ q) y) in
    let e : path_text (c ∷ p) ++ r ≡ path_text (d ∷ q) ++ s = cc u.1 in
    let w = pathed-unique {l = path_text (c ∷ p) ++ r} (c ∷ p) (d ∷ q) (path-others x refl) (path-others y e) in
    (ap₂ (λ (k : Step) (o : List Step). k ∷ o) u.0 w.0, w.1)
