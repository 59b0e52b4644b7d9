-- The elements of a group, one at a time and a block at a time.
use mathlib.Core.Path.{◌≡◌, refl, sym, ap, ◌∙◌}
use mathlib.Core.Bool.{Bool, true, false, not, ◌&&◌}
use mathlib.Core.Option as logic
use mathlib.Core.List.{List, [], ◌∷◌, ◌++◌}
use Prim.Native.Nat.{ℕ, ◌+◌, ◌≤◌, ◌<◌}
use native.Mathlib.Omega.{arith}
use lib.ListN.{length, take, drop, set}
use lib.Seq.{append_snoc, take_all}
use lib.Dec.{eqb}
use borrow.Author.Tests.{not-true, not-false}
use Rattle.model.specs.Lists.{any}
use Rattle.model.specs.Path.{Step}
use Rattle.model.specs.Value.{Content}
use Rattle.model.specs.Tree.{Forest, empty, element}
use Rattle.model.specs.Xml.{end_tag}
use Rattle.model.specs.Intake.{siblings, differ}
use Rattle.model.proofs.Sending.{form-parts}
use Rattle.siblings.specs.Differing.{Inside, DifferAt}
use Rattle.siblings.specs.Keys.{keys_of, fresh, distinct, Opens, KeyAt}
use Rattle.siblings.specs.Skips.{skipped, Skipped}
use Rattle.siblings.specs.Blocks.{Kept, BlockAt, OthersDiffer}
use Rattle.std.specs.Prelude.{Some, None}
use Rattle.siblings.proofs.Distinct.{distinct_append, fresh-not, fresh-yes, distinct-not, distinct_more, put-more, form-differ}
use Rattle.siblings.proofs.Passing.{over-element}

-- ---- the first tree at a place

-- the first one's key is k, and the others stand where it ends
record Led (l : List ℕ) (at k : ℕ) (f : Forest) : Type 0 where
  rest : Forest
  keys : keys_of f ≡ k ∷ keys_of rest
  inside : (next : ℕ) → Skipped l at next → Inside l next rest

module _ (l : List ℕ) (at : ℕ) where
  -- it opens with its step
  first-opens : (a : Step) (c : logic.Option Content) (i b : Forest) → Inside l at (element a c i b) → Opens (drop at l) a
  first-opens a c i b s =
      record { content = c; inside = i; behind = b; rest = end_tag s.name ++ s.behind; valid = (form-parts s.depth a c i b s.form).step; same = s.same }

  -- no key is read: there is none
  none-there : KeyAt l at None → (f : Forest) → Inside l at f → f ≡ empty
  none-there r empty s = refl
  none-there r (element a c i b) s = absurd (r a (first-opens a c i b s))

  -- a key is read: it is the first one's
  one-there : (k : ℕ) → KeyAt l at (Some k) → (f : Forest) → Inside l at f → Led l at k f
  one-there k r empty s = absurd (r.1 s.name s.behind s.same)
  one-there k r (element a c i b) s =
      record {
        rest = b;
        keys = ap (λ (x : ℕ). x ∷ keys_of b) (sym (r.2 a (first-opens a c i b s)));
        inside =
            λ next t.
            record {
              depth = s.depth;
              name = s.name;
              behind = s.behind;
              form = (form-parts s.depth a c i b s.form).next;
              same = t.same ∙ ap (skipped 0) s.same ∙ over-element a c i b (end_tag s.name ++ s.behind);
            };
      }

-- ---- a block

-- n keys are kept, of the trees up to i
pub record Filled (l : List ℕ) (at : ℕ) (ks : List ℕ) (i n : ℕ) : Type 0 where
  pub from : at + n ≤ i
  pub within : i ≤ length l
  pub few : n ≤ 512
  pub kept : (f : Forest) → Inside l at f → Kept l ks n i f

-- none is
pub filled-start : (l : List ℕ) (at : ℕ) (ks : List ℕ) → at ≤ length l → Filled l at ks at 0
filled-start l at ks h =
    record {
      from = omega arith;
      within = h;
      few = omega arith;
      kept = λ f s. record { rest = f; inside = s; whole = refl; differs = tt };
    }

module _ {l : List ℕ} {at : ℕ} {ks : List ℕ} {i n : ℕ} (inv : Filled l at ks i n) where
  -- as many are as a block has
  pub filled-full : 512 ≤ n → BlockAt l at ks (Some (n, i))
  filled-full h = (inv.from, inv.within, inv.few, inv.kept, λ less. absurd (omega arith))

  -- no tree is left
  pub filled-all : KeyAt l i None → BlockAt l at ks (Some (n, i))
  filled-all read = (inv.from, inv.within, inv.few, inv.kept, λ less. none-there l i read)

  module _ {k : ℕ} (read : KeyAt l i (Some k)) {t : Bool} (e : t ≡ any (eqb k) (take n ks)) where
    -- the keys of the trees: those kept, k, and those of the trees behind
    keys-split : (f : Forest) → Inside l at f → (g : Kept l ks n i f) × (o : Led l i k g.rest) × (keys_of f ≡ take n ks ++ (k ∷ keys_of o.rest))
    keys-split f s =
        let g = inv.kept f s in
        let o = one-there l i k read g.rest g.inside in
        (g, o, g.whole ∙ ap (λ (q : List ℕ). take n ks ++ q) o.keys)

    -- k is kept
    pub filled-clash : t ≡ true → BlockAt l at ks None
    filled-clash h f s =
        let w = keys-split f s in
        ap distinct w.2 ∙ distinct-not (take n ks) k e w.0.differs h (keys_of w.1.rest)

    -- it is put to them
    pub filled_next : t ≡ false → length ks ≡ 512 → n < 512 → {j : ℕ} → Skipped l i j → Filled l at (set ks n k) j (n + 1)
    filled_next h size m {j} u =
        record {
          from = omega (arith, inv.from, u.from);
          within = u.within;
          few = omega arith;
          kept = more;
        }
      where
        put : take (n + 1) (set ks n k) ≡ take n ks ++ (k ∷ [])
        put = put-more ks n k (omega arith)

        more : (f : Forest) → Inside l at f → Kept l (set ks n k) (n + 1) j f
        more f s =
            let w = keys-split f s in
            record {
              rest = w.1.rest;
              inside = w.1.inside j u;
              whole = w.2 ∙ sym (ap (λ (q : List ℕ). q ++ keys_of w.1.rest) put ∙ append_snoc (take n ks) k (keys_of w.1.rest));
              differs = rw put (distinct_more (take n ks) k e w.0.differs h);
            }

-- ---- the trees behind a block

-- of the trees f, those up to i have none of the keys
pub record Others (l ks : List ℕ) (i : ℕ) (f : Forest) : Type 0 where
  pub rest : Forest
  pub inside : Inside l i rest
  pub same : fresh ks (keys_of f) ≡ fresh ks (keys_of rest)

-- so for all trees that may stand at a place
pub record Cleared (l : List ℕ) (at : ℕ) (ks : List ℕ) (i : ℕ) : Type 0 where
  pub within : i ≤ length l
  pub others : (f : Forest) → Inside l at f → Others l ks i f

-- none is passed
pub cleared-start : (l : List ℕ) (at : ℕ) (ks : List ℕ) → at ≤ length l → Cleared l at ks at
cleared-start l at ks h = record { within = h; others = λ f s. record { rest = f; inside = s; same = refl } }

module _ {l : List ℕ} {at : ℕ} {ks : List ℕ} {i : ℕ} (inv : Cleared l at ks i) where
  -- none is left
  pub cleared-all : KeyAt l i None → OthersDiffer l at ks true
  cleared-all read f s =
      let g = inv.others f s in
      sym (g.same ∙ ap (λ (h : Forest). fresh ks (keys_of h)) (none-there l i read g.rest g.inside))

  module _ {k : ℕ} (read : KeyAt l i (Some k)) {t : Bool} (e : t ≡ any (eqb k) ks) where
    -- the next one's key is kept
    pub cleared-clash : t ≡ true → OthersDiffer l at ks false
    cleared-clash h f s =
        let g = inv.others f s in
        let o = one-there l i k read g.rest g.inside in
        sym (g.same ∙ ap (fresh ks) o.keys ∙ fresh-not ks k e h (keys_of o.rest))

    -- it is not
    pub cleared-next : t ≡ false → {j : ℕ} → Skipped l i j → Cleared l at ks j
    cleared-next h {j} u =
        record {
          within = u.within;
          others =
              λ f s.
              let g = inv.others f s in
              let o = one-there l i k read g.rest g.inside in
              record { rest = o.rest; inside = o.inside j u; same = g.same ∙ ap (fresh ks) o.keys ∙ fresh-yes ks k e h (keys_of o.rest) };
        }

-- ---- the whole group

-- the trees f differ if those from i on do
pub record Behind (l : List ℕ) (i : ℕ) (f : Forest) : Type 0 where
  pub rest : Forest
  pub inside : Inside l i rest
  pub same : differ (siblings f) ≡ distinct (keys_of rest)

-- so for all trees that may stand at a place
pub record Compared (l : List ℕ) (at i : ℕ) : Type 0 where
  pub within : i ≤ length l
  pub behind : (f : Forest) → Inside l at f → Behind l i f

-- none is compared
pub compared-start : (l : List ℕ) (at : ℕ) → at ≤ length l → Compared l at at
compared-start l at h =
    record { within = h; behind = λ f s. record { rest = f; inside = s; same = sym (form-differ s.depth f s.form) } }

module _ {l : List ℕ} {at i : ℕ} (inv : Compared l at i) (ks : List ℕ) where
  -- two of a block are equal
  pub compared-clash : BlockAt l i ks None → DifferAt l at false
  compared-clash read f s = let g = inv.behind f s in sym (g.same ∙ read g.rest g.inside)

  module _ {n next : ℕ} (block-known : BlockAt l i ks (Some (n, next))) where
    -- the trees behind the block are fresh to it and differ
    block-splits : (f : Forest) → Inside l at f → (r : Forest) × Inside l next r × (differ (siblings f) ≡ (fresh (take n ks) (keys_of r) && distinct (keys_of r)))
    block-splits f s =
        let g = inv.behind f s in
        let k = block-known.3 g.rest g.inside in
        (k.rest, k.inside, g.same ∙ ap distinct k.whole ∙ distinct_append (take n ks) (keys_of k.rest) k.differs)

    -- there are none
    pub compared-all : n < 512 → DifferAt l at true
    compared-all h f s =
        let b = block-splits f s in
        sym (b.2 ∙ ap (λ (r : Forest). fresh (take n ks) (keys_of r) && distinct (keys_of r)) (block-known.4 h b.0 b.1))

    module _ (full : 512 ≤ n) (size : length ks ≡ 512) {t : Bool} (e : OthersDiffer l next ks t) where
      -- whether the trees behind the block have none of its keys
      others-fresh : (r : Forest) → Inside l next r → fresh (take n ks) (keys_of r) ≡ t
      others-fresh r s =
          ap (λ (k : List ℕ). fresh k (keys_of r)) (take_all n ks (omega arith)) ∙ sym (e r s)

      -- one has a key of the block
      pub compared-other : not t ≡ true → DifferAt l at false
      compared-other h f s =
          let b = block-splits f s in
          sym (b.2 ∙ ap (λ (c : Bool). c && distinct (keys_of b.0)) (others-fresh b.0 b.1 ∙ not-true t h))

      -- none has
      pub compared-next : not t ≡ false → Compared l at next
      compared-next h =
          record {
            within = block-known.1;
            behind =
                λ f s.
                let b = block-splits f s in
                record {
                  rest = b.0;
                  inside = b.1;
                  same = b.2 ∙ ap (λ (c : Bool). c && distinct (keys_of b.0)) (others-fresh b.0 b.1 ∙ not-false t h);
                };
          }
