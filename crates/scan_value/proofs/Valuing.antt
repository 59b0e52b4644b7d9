-- Values between two tags: measures, none, and what tells them apart.
use mathlib.Core.Path.{◌≡◌, refl, sym, ap, subst, ◌∙◌}
use mathlib.Core.Bool.{Bool, true, false, not}
use mathlib.Core.Option.{none, some}
use mathlib.Core.Option as logic
use mathlib.Core.List.{List, [], ◌∷◌, ◌++◌}
use Prim.Native.Nat.{ℕ, ◌/◌, ◌%◌, ◌≤◌, ◌<◌}
use native.Mathlib.Omega.{arith}
use lib.ListN.{length, take, drop}
use lib.Dec.{T, eqb}
use mir.Facts.{T_not, eqb_yes, yes_ltb}
use borrow.Author.Tests.{not-true, not-false}
use Rattle.model.specs.Lists.{all, is_byte}
use Rattle.model.specs.Value.{Content, allowed, bringable}
use Rattle.model.specs.Text.{measure_of, signed, is_digit}
use Rattle.model.specs.Xml.{value_xml, content_xml}
use Rattle.model.specs.Intake.{may_show}
use Rattle.model.proofs.Bools.{and_l, and_r, both}
use Rattle.model.proofs.Tagging.{measure-back}
use Rattle.octets.specs.Joined.{word_bytes}
use Rattle.scan.specs.Text.{begins, no_digit}
use Rattle.scan.specs.Numbers.{SignedAt}
use Rattle.scan.specs.Shown.{content_in, kind_at, shows}
use Rattle.scan.proofs.Showing.{shown-code}
use Rattle.scan.proofs.Signs.{signed-unique}
use Rattle.scan_value.specs.Values.{Valued, ValueAt, NothingAt}
use Rattle.std.specs.Prelude.{Option, Some, None}
use Rattle.std.proofs.lemmas.Option.{none-some}
use Rattle.kind.specs.Code.{code}
use Rattle.kind.specs.declared.Kind.{Kind}
use Rattle.kind.specs.declared.Kind.TheVariants.{Group, Measure}

-- ---- a content by its kind

-- what no value of a kind shows, no content of that kind shows
pub unvalued : (k : Kind) → {l : List ℕ} → ((v r : List ℕ) → T (allowed (code k) v) → T (begins 60 r) → l ≡ value_xml (code k) v ++ r → ⊥)
    → (c : logic.Option Content) (r : List ℕ) → shows c ≡ Some k → Valued l c r → ⊥
unfolding bringable
unvalued k f none r e s = none-some k e
unvalued k {l} f (some c) r e s =
    let q : c.kind ≡ code k = shown-code c k s.shows e in
    f c.value r (subst (λ i. T (allowed i c.value)) q s.shows) s.ends (subst (λ i. l ≡ value_xml i c.value ++ r) q s.same)

-- ---- measures

-- < is no digit
opens-undigit : (r : List ℕ) → T (begins 60 r) → T (no_digit r)
unfolding is_digit
opens-undigit [] t = tt
opens-undigit (x ∷ r) t = let e : x ≡ 60 = eqb_yes t in rw e tt

-- the four bytes of a number of 32 bits are a measure's, which it is
word-measure : (m : ℕ) → m < 4294967296 → T (allowed 1 (word_bytes m)) × (measure_of (word_bytes m) ≡ m)
unfolding allowed is_byte measure_of
word-measure m h =
    let a : m / 65536 ≡ m / 256 / 256 = omega arith in
    let b : m / 16777216 ≡ m / 256 / 256 / 256 = omega arith in
    let c : m % 256 < 256 = omega arith in
    let d : m / 256 % 256 < 256 = omega arith in
    let e : m / 65536 % 256 < 256 = omega arith in
    let f : m / 16777216 < 256 = omega arith in
    (search (both, yes_ltb) depth 9, omega arith)

-- a measure is a number of 32 bits
measure-small : (v : List ℕ) → T (allowed 1 v) → measure_of v < 4294967296
unfolding allowed
measure-small v t = (measure-back v (eqb_yes (and_l (eqb (length v) 4) (all is_byte v) t)) (and_r (eqb (length v) 4) (all is_byte v) t)).1

module _ (l : List ℕ) (at : ℕ) where
  -- no number there
  pub measure-none : SignedAt l at None → (b : List ℕ) → ValueAt l at (Some Measure) b None
  unfolding value_xml
  measure-none f b = unvalued Measure (λ v r t o. f (measure_of v) r (measure-small v t) (opens-undigit r o))

  module _ {m next : ℕ} (there : SignedAt l at (Some (m, next))) where
    -- the number fits into a word
    pub measure-fits : m < 4294967296
    measure-fits = there.2

    module _ {t : Bool} (f : t ≡ begins 60 (drop next l)) where
      -- no tag behind it
      pub measure-more : not t ≡ true → (b : List ℕ) → ValueAt l at (Some Measure) b None
      unfolding value_xml
      measure-more h b =
          unvalued Measure λ v r a o q.
          let u = signed-unique m (measure_of v) (drop next l) r there.2 (measure-small v a) there.3 (opens-undigit r o) (sym there.4 ∙ q) in
          T_not (begins 60 (drop next l)) (rw u.1 o) (rw (← f, not-true t h) tt)

      -- a tag behind it
      pub measure-found : not t ≡ false → (b : List ℕ) {r : List ℕ} → b ≡ word_bytes m ++ r → ValueAt l at (Some Measure) b (Some (4, next))
      unfolding value_xml bringable
      measure-found h b w =
          let u = word-measure m there.2 in (
            omega (arith, there.0),
            there.1,
            omega arith,
            record {
              shows = rw w u.0;
              ends = rw (← f, not-false t h) tt;
              same = there.4 ∙ ap (λ (i : ℕ). signed i ++ drop next l) (sym (ap (λ (y : List ℕ). measure_of (take 4 y)) w ∙ u.1));
            },
          )

-- ---- no value

module _ (l : List ℕ) (at : ℕ) {t : Bool} (e : t ≡ begins 60 (drop at l)) where
  -- no tag
  pub nothing-other : not t ≡ true → NothingAt l at None
  nothing-other h k = T_not (begins 60 (drop at l)) k (rw (← e, h) tt)

  -- a tag
  pub nothing-found : at ≤ length l → not t ≡ false → NothingAt l at (Some (0, at))
  nothing-found k h = (refl, refl, k, rw (← e, not-false t h) tt)

module _ (l : List ℕ) (at : ℕ) (b : List ℕ) where
  -- a content that shows nothing is read where a tag is
  bare-found : (k : Option Kind) (n next : ℕ) → T (may_show (content_in k [])) → content_xml (content_in k []) ≡ [] → NothingAt l at (Some (n, next)) → ValueAt l at k b (Some (n, next))
  bare-found k n next s e t =
      rw (t.0, t.1)
      (omega arith, t.2, omega arith, record { shows = s; ends = t.3; same = ap (λ (q : List ℕ). q ++ drop at l) (sym e) })

  -- what says so for none says so for a group
  pub bare-group : (x : Option (ℕ × ℕ)) → NothingAt l at x → ValueAt l at (Some Group) b x
  unfolding bringable allowed value_xml
  bare-group (Some (n, next)) t = bare-found (Some Group) n next tt refl t
  bare-group None t = unvalued Group (λ v r a o q. t (rw q o))

  -- and for a removed element
  pub bare-removed : (x : Option (ℕ × ℕ)) → NothingAt l at x → ValueAt l at None b x
  bare-removed (Some (n, next)) t = bare-found None n next tt refl t
  bare-removed None t = removed
    where
      removed : (c : logic.Option Content) (r : List ℕ) → shows c ≡ None → Valued (drop at l) c r → ⊥
      removed none r e s = t (rw s.same s.ends)
      removed (some c) r e s = none-some (kind_at c.kind) (sym e)
