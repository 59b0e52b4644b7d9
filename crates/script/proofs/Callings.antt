-- Calls as they stand in a line.
use mathlib.Core.Path.{◌≡◌, refl, sym, ap, ap₂, ◌∙◌}
use mathlib.Core.Bool.{Bool, true, false, not}
use mathlib.Core.Option.{none}
use mathlib.Core.List.{List, [], ◌∷◌, ◌++◌, append-nil}
use Prim.Native.Nat.{ℕ, ◌+◌, ◌*◌, ◌≤◌}
use native.Mathlib.Omega.{arith}
use lib.ListN.{length, take, drop, get_or, drop_of_length-le}
use lib.Dec.{T, leb}
use mir.Facts.{leb_yes, yes_leb, eqb_yes}
use Rattle.model.specs.Lists.{joined}
use Rattle.model.specs.Path.{Step, steps_of}
use Rattle.model.specs.Text.{decimal, is_digit}
use Rattle.model.specs.Script.{ScriptValue, group, measure, text, ScriptOp, ScriptCall, view, insert, update, delete}
use Rattle.model.specs.Script.{path_text, value_fields, call_text, path_in_range, value_in_range, op_in_range, in_range, Reads, Reading}
use Rattle.model.proofs.Bools.{and_l, and_r, both}
use Rattle.scan.specs.Text.{begins}
use Rattle.scan.specs.Numbers.{Numbered, NumberAt}
use Rattle.std.specs.Prelude.{Option, Some, None}
use Rattle.scan.proofs.Goings.{no-empty, drop_here, drop-within, Here, begins-yes, begins-no}
use Rattle.scan.proofs.Numerals.{numbered-unique}
use Rattle.script.specs.Text.{closes}
use Rattle.script.specs.Paths.{Pathed, PathAt}
use Rattle.script.specs.Values.{value_of, Valued, ValueAt}
use Rattle.script.specs.Calls.{op_of, text_in, Headed, HeadAt, Brought, Ended, BareAs, CallAt}
use Rattle.script.specs.declared.Call.{Call}
use Rattle.script.specs.declared.Call.TheVariants.{View, Insert, Update, Delete}
use Rattle.script.specs.declared.Value.{Value}
use Rattle.script.proofs.Trails.{pathed-unique}

-- ---- subject and verb

head-number : {l r : List ℕ} {s b : ℕ} → Headed l s b r → Numbered 255 l s (9 ∷ b ∷ 9 ∷ r)
unfolding is_digit
head-number h = record { small = h.small; ends = tt; same = h.same }

headed-unique : {l r q : List ℕ} {s b t c : ℕ} → Headed l s b r → Headed l t c q → (s ≡ t) × (b ≡ c) × (r ≡ q)
headed-unique {r = r} {q = q} {b = b} {c = c} x y =
    let u = numbered-unique (head-number x) (head-number y) in
    let e : ◌≡◌ {A = List ℕ} (9 ∷ b ∷ 9 ∷ r) (9 ∷ c ∷ 9 ∷ q) = u.1 in
    (u.0, cc, cc)

module _ (l : List ℕ) where
  -- no subject
  pub head-none : NumberAt 255 l 0 None → HeadAt l None
  head-none f s b q h = f s (9 ∷ b ∷ 9 ∷ q) (head-number h)

  module _ {n tab : ℕ} (numbered : NumberAt 255 l 0 (Some (n, tab))) where
    -- the subject, where it is read
    subject : Numbered 255 l n (drop tab l)
    subject = numbered.2

    -- what follows the subject
    behind-subject : (o b : ℕ) (q : List ℕ) → Headed l o b q → drop tab l ≡ 9 ∷ b ∷ 9 ∷ q
    behind-subject o b q h = (numbered-unique subject (head-number h)).1

    module _ {t : Bool} (e : t ≡ begins 9 (drop tab l)) where
      -- no tab behind the subject
      pub head-untabbed : not t ≡ true → HeadAt l None
      head-untabbed h o b q k = begins-no l tab 9 e h (b ∷ 9 ∷ q) (behind-subject o b q k)

      module _ (h : not t ≡ false) {u : Bool} (f : u ≡ begins 9 (drop (tab + 2) l)) where
        -- no tab behind the verb
        pub head-unparted : not u ≡ true → HeadAt l None
        head-unparted g o b q k =
            let w : tab + 1 + 1 ≡ tab + 2 = omega arith in
            let p : drop (tab + 1) l ≡ b ∷ 9 ∷ q = (drop-within l tab 9 (b ∷ 9 ∷ q) (behind-subject o b q k)).1 in
            begins-no l (tab + 2) 9 f g q (rw (← w) (drop-within l (tab + 1) b (9 ∷ q) p).1)

        -- subject and verb, each with its tab
        pub head-found : not u ≡ false → HeadAt l (Some (n, (get_or l (tab + 1) 0), (tab + 3)))
        head-found g =
            let y : Here l (tab + 2) 9 = begins-yes l (tab + 2) 9 f g in
            let w : tab + 1 + 1 ≡ tab + 2 = omega arith in
            let z : tab + 2 + 1 ≡ tab + 3 = omega arith in
            let p : drop (tab + 1) l ≡ get_or l (tab + 1) 0 ∷ 9 ∷ drop (tab + 3) l =
            drop_here l (tab + 1) (omega (arith, y.within)) ∙ ap (λ (q : List ℕ). get_or l (tab + 1) 0 ∷ q) (rw (w, ← z) y.is) in
            (omega (arith, y.within), record { small = subject.small; same = subject.same ∙ rw ((begins-yes l tab 9 e h).is, p) })

-- ---- what follows the path

-- no value follows
pub bare-other : (b : ℕ) → (b ≡ 86 → ⊥) → (b ≡ 68 → ⊥) → (o : ScriptOp) → Ended o b [] → ⊥
bare-other b f g (view p) h = f h.0
bare-other b f g (insert p v) h = no-empty h.1.same
bare-other b f g (update p v) h = no-empty h.1.same
bare-other b f g (delete p) h = g h.0

module _ (l : List ℕ) (b at : ℕ) where
  -- the path ends the line: the call has no value
  pub call-bare : at ≡ length l → (x : Option Call) → BareAs b x → CallAt l b at x
  call-bare h x s = go x s
    where
      end : drop at l ≡ []
      end = drop_of_length-le l {i = at} (omega arith)

      go : (x : Option Call) → BareAs b x → CallAt l b at x
      go (Some View) s = (omega arith, λ p. rw end (s p l))
      go (Some (Insert v)) s = absurd (no-empty (s [] l).1.same)
      go (Some (Update v)) s = absurd (no-empty (s [] l).1.same)
      go (Some Delete) s = (omega arith, λ p. rw end (s p l))
      go None s = λ o k. s o (rw end at k)

  -- a value follows
  module _ (within : at ≤ length l) (t : T (closes (drop at l))) (h : at ≡ length l → ⊥) where
    tabbed : drop at l ≡ 9 ∷ drop (at + 1) l
    tabbed =
        let d : drop at l ≡ get_or l at 0 ∷ drop (at + 1) l = drop_here l at (omega arith) in
        let k : T (closes (get_or l at 0 ∷ drop (at + 1) l)) = rw d at t in
        let e : get_or l at 0 ≡ 9 = eqb_yes k in
        d ∙ ap (λ (x : ℕ). x ∷ drop (at + 1) l) e

    -- a call that ends so has one of two verbs, and brings a value
    value-brought : ((v : ScriptValue) → Valued (drop (at + 1) l) v → b ≡ 73 → ⊥) → ((v : ScriptValue) → Valued (drop (at + 1) l) v → b ≡ 85 → ⊥)
        → CallAt l b at None
    value-brought f g (view p) k = no-empty (sym k.1 ∙ tabbed)
    value-brought f g (insert p v) k = f v (record { ranges = k.1.ranges; same = cc (sym tabbed ∙ k.1.same) }) k.0
    value-brought f g (update p v) k = g v (record { ranges = k.1.ranges; same = cc (sym tabbed ∙ k.1.same) }) k.0
    value-brought f g (delete p) k = no-empty (sym k.1 ∙ tabbed)

    -- a verb that takes no value
    pub call-other : (b ≡ 73 → ⊥) → (b ≡ 85 → ⊥) → CallAt l b at None
    call-other f g = value-brought (λ v k. f) (λ v k. g)

    -- no value behind the tab
    pub call-valueless : ValueAt l (at + 1) None → CallAt l b at None
    call-valueless f = value-brought (λ v k q. f v k) (λ v k q. f v k)

    module _ (v : Value) (valued : ValueAt l (at + 1) (Some v)) where
      bringing : Brought (drop at l) (value_of v l)
      bringing = record { ranges = valued.1.ranges; same = tabbed ∙ ap (λ (r : List ℕ). 9 ∷ r) valued.1.same }

      -- the verb of an insertion
      pub call-insert : b ≡ 73 → CallAt l b at (Some (Insert v))
      call-insert q = (valued.0, λ p. (q, bringing))

      -- the verb of an update
      pub call-update : b ≡ 85 → CallAt l b at (Some (Update v))
      call-update q = (valued.0, λ p. (q, bringing))

-- ---- a line and the call that it reads as

abbrev verb_of : ScriptOp → ℕ
verb_of (view p) = 86
verb_of (insert p v) = 73
verb_of (update p v) = 85
verb_of (delete p) = 68

-- the path of a call
abbrev pub path_of : ScriptOp → List Step
path_of (view p) = p
path_of (insert p v) = p
path_of (update p v) = p
path_of (delete p) = p

-- what follows the path
abbrev tail_of : ScriptOp → List ℕ
tail_of (view p) = []
tail_of (insert p v) = 9 ∷ joined 9 (value_fields v)
tail_of (update p v) = 9 ∷ joined 9 (value_fields v)
tail_of (delete p) = []

-- fields before those of a value
before-value : (f : List ℕ) (v : ScriptValue) → joined 9 (f ∷ value_fields v) ≡ f ++ (9 ∷ joined 9 (value_fields v))
before-value f group = refl
before-value f (measure m) = refl
before-value f (text t) = refl

call-text : (s : ℕ) (o : ScriptOp) → call_text (record { subject = s; op = o }) ≡ decimal s ++ (9 ∷ verb_of o ∷ 9 ∷ (path_text (path_of o) ++ tail_of o))
unfolding call_text
call-text s (view p) = ap (λ (r : List ℕ). decimal s ++ (9 ∷ 86 ∷ 9 ∷ r)) (sym (append-nil (path_text p)))
call-text s (insert p v) = ap (λ (r : List ℕ). decimal s ++ (9 ∷ 73 ∷ 9 ∷ r)) (before-value (path_text p) v)
call-text s (update p v) = ap (λ (r : List ℕ). decimal s ++ (9 ∷ 85 ∷ 9 ∷ r)) (before-value (path_text p) v)
call-text s (delete p) = ap (λ (r : List ℕ). decimal s ++ (9 ∷ 68 ∷ 9 ∷ r)) (sym (append-nil (path_text p)))

-- what is in range of a call: its path, what follows it, and how it ends
op-parts : (o : ScriptOp) → T (op_in_range o) → T (path_in_range (path_of o)) × T (closes (tail_of o)) × Ended o (verb_of o) (tail_of o)
op-parts (view p) t = (t, tt, (refl, refl))
op-parts (insert p v) t = (and_l (path_in_range p) (value_in_range v) t, tt, (refl, record { ranges = and_r (path_in_range p) (value_in_range v) t; same = refl }))
op-parts (update p v) t = (and_l (path_in_range p) (value_in_range v) t, tt, (refl, record { ranges = and_r (path_in_range p) (value_in_range v) t; same = refl }))
op-parts (delete p) t = (t, tt, (refl, refl))

-- what a line has that reads as a call
module _ {l : List ℕ} {c : ScriptCall} (s : Reads l c) where
  reads-parts : T (path_in_range (path_of c.op)) × T (closes (tail_of c.op)) × Ended c.op (verb_of c.op) (tail_of c.op)
  unfolding in_range
  reads-parts = op-parts c.op (and_r (leb c.subject 255) (op_in_range c.op) s.ranges)

  reads-head : Headed l c.subject (verb_of c.op) (path_text (path_of c.op) ++ tail_of c.op)
  unfolding in_range
  reads-head = record {
    small = leb_yes (and_l (leb c.subject 255) (op_in_range c.op) s.ranges);
    same = s.same ∙ call-text c.subject c.op;
  }

  reads-path : Pathed (path_text (path_of c.op) ++ tail_of c.op) (path_of c.op) (tail_of c.op)
  reads-path = record { ranges = reads-parts.0; ends = reads-parts.1; same = refl }

-- and the call of a line that has it
ended-parts : (b : ℕ) (r : List ℕ) (o : ScriptOp) → Ended o b r → T (path_in_range (path_of o)) → (b ≡ verb_of o) × (r ≡ tail_of o) × T (op_in_range o)
ended-parts b r (view p) h t = (h.0, h.1, t)
ended-parts b r (insert p v) h t = (h.0, h.1.same, both (path_in_range p) (value_in_range v) t h.1.ranges)
ended-parts b r (update p v) h t = (h.0, h.1.same, both (path_in_range p) (value_in_range v) t h.1.ranges)
ended-parts b r (delete p) h t = (h.0, h.1, t)

reads_of : {l q r : List ℕ} {s b : ℕ} → length l ≤ 256 → (o : ScriptOp) → Headed l s b q → Pathed q (path_of o) r → Ended o b r
    → Reads l (record { subject = s; op = o })
unfolding in_range
reads_of {r = r} {s = s} {b = b} m o h k e =
    let p = ended-parts b r o e k.ranges in
    record {
      short = m;
      ranges = both (leb s 255) (op_in_range o) (yes_leb h.small) p.2;
      same =
          h.same
          ∙ ap₂ (λ (v : ℕ) (t : List ℕ). decimal s ++ (9 ∷ v ∷ 9 ∷ t)) p.0 (k.same ∙ ap (λ (t : List ℕ). path_text (path_of o) ++ t) p.1)
          ∙ sym (call-text s o);
    }

-- the path of a call that is read
pub path-of-call : (k : Call) (p : List Step) (l : List ℕ) → path_of (op_of k p l) ≡ p
path-of-call View p l = refl
path-of-call (Insert v) p l = refl
path-of-call (Update v) p l = refl
path-of-call Delete p l = refl

-- no call, by the first part that is missing
module _ (l : List ℕ) where
  -- no subject or no verb
  pub reads-headless : HeadAt l None → Reading l none
  reads-headless f c s = f c.subject (verb_of c.op) (path_text (path_of c.op) ++ tail_of c.op) (reads-head s)

  module _ {s b at : ℕ} (headed : HeadAt l (Some (s, b, at))) where
    -- the path of a call that the line reads as begins behind the head
    path-behind : (c : ScriptCall) → Reads l c → Pathed (drop at l) (path_of c.op) (tail_of c.op)
    path-behind c r = rw (headed-unique headed.1 (reads-head r)).2 (reads-path r)

    module _ (d : List ℕ) where
      -- no path
      pub reads-pathless : PathAt l at d None → Reading l none
      reads-pathless f c r = f (path_of c.op) (tail_of c.op) (path-behind c r)

      module _ (n : ℕ) {next : ℕ} (pathed : PathAt l at d (Some (n, next))) where
        -- no call behind the path
        pub reads-verbless : CallAt l b next None → Reading l none
        reads-verbless f c r =
            let v : b ≡ verb_of c.op = (headed-unique headed.1 (reads-head r)).1 in
            let t : drop next l ≡ tail_of c.op = (pathed-unique (steps_of (take (3 * n) d)) (path_of c.op) pathed.2 (path-behind c r)).1 in
            f c.op (rw (v, t) (reads-parts r).2)

        -- a line that has all three reads as the call of them
        pub reads-call : length l ≤ 256 → (c : Call) → CallAt l b next (Some c)
            → Reads l (record { subject = s; op = op_of c (steps_of (take (3 * n) d)) l }) × ((3 * n ≤ 192) × (text_in c ≤ length l))
        reads-call m c o =
            let p : List Step = steps_of (take (3 * n) d) in
            (reads_of m (op_of c p l) headed.1 (rw (path-of-call c p l) pathed.2) (o.1 p), (pathed.0, o.0))
