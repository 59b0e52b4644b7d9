-- One step more than those known.
use mathlib.Core.Path.{◌≡◌, sym, ap, ◌∙◌}
use mathlib.Core.Bool.{Bool, true, false}
use mathlib.Core.List.{List, [], ◌∷◌, ◌++◌, map, map-append}
use Prim.Native.Nat.{ℕ, ◌+◌, ◌≤◌, ◌<◌}
use native.Mathlib.Omega.{arith}
use lib.ListN.{length, take, set, length-append}
use lib.Dec.{T, eqb}
use Rattle.model.specs.Lists.{all, any}
use Rattle.model.specs.Path.{Step, valid_step}
use Rattle.model.specs.Intake.{siblings, differ}
use Rattle.model.proofs.Bools.{both, is_true}
use Rattle.model.proofs.Lists.{all_append}
use Rattle.scan.proofs.Goings.{neither}
use Rattle.siblings.specs.Differing.{key_of, DifferAt, Known, Added}
use Rattle.siblings.specs.Keys.{distinct}
use Rattle.siblings.proofs.Distinct.{distinct-not, distinct_more, put-more, keys-differ, form-differ}

module _ (l : List ℕ) (at : ℕ) (ks : List ℕ) (n : ℕ) (a : Step) (good : T (valid_step a)) where
  -- with one step more: how many they are
  many_more : (p : List Step) → Known l at ks n p → n + 1 ≡ length (p ++ (a ∷ []))
  many_more p known = omega (arith, length-append p (a ∷ []), known.many)

  -- and that all are valid
  valid-more : (p : List Step) → Known l at ks n p → T (all valid_step (p ++ (a ∷ [])))
  valid-more p known = all_append valid_step p (a ∷ []) known.valid (both (valid_step a) true good tt)

  -- behind 32 all are known to differ
  known-others : {m : List ℕ} → 32 ≤ n → DifferAt l at true → (p : List Step) → Known l at ks n p → Known l at m (n + 1) (p ++ (a ∷ []))
  known-others h d p known =
      record {
        many = many_more p known;
        valid = valid-more p known;
        kept = λ less. absurd (omega arith);
        differs = λ less. absurd (omega arith);
        others = λ more. d;
      }

  -- there are more than 32
  pub added-over : 32 < n → Added l at ks n a ks true
  added-over h p known = known-others (omega arith) (known.others h) p known

  -- there are 32, and the text is asked
  pub added-asked : n ≡ 32 → (r : Bool) → DifferAt l at r → Added l at ks n a ks r
  added-asked h true d = known-others (omega arith) d
  added-asked h false d = λ p q f known s e t. neither (sym (d f s)) (is_true (differ (siblings f)) t)

  -- there are fewer
  module _ (h : n < 32) {k : ℕ} (same : k ≡ key_of a) {t : Bool} (e : t ≡ any (eqb k) (take n ks)) where
    module _ (p : List Step) (known : Known l at ks n p) where
      -- whether the step's key is among theirs
      among : t ≡ any (eqb (key_of a)) (map key_of p)
      among = e ∙ rw (same, known.kept (omega arith))

      -- which are distinct
      keys-known : T (distinct (map key_of p))
      keys-known = rw (keys-differ p known.valid) (known.differs (omega arith))

    -- its key is kept: it is equal to one of them
    pub added-clash : t ≡ true → Added l at ks n a ks false
    added-clash x p q f known s w d =
        let c : distinct (map key_of (siblings f)) ≡ false =
        ap distinct (ap (map key_of) w ∙ map-append key_of p (a ∷ q))
        ∙ distinct-not (map key_of p) (key_of a) (among p known) (keys-known p known) x (map key_of q) in
        neither c (form-differ s.depth f s.form ∙ is_true (differ (siblings f)) d)

    -- it is not: it is put to them
    pub added-kept : t ≡ false → length ks ≡ 32 → Added l at ks n a (set ks n k) true
    added-kept x size p known =
        record {
          many = many_more p known;
          valid = valid-more p known;
          kept = λ less. put-more ks n k (omega arith) ∙ rw (same, known.kept (omega arith), map-append key_of p (a ∷ []));
          differs =
              λ less.
              rw (← (keys-differ (p ++ (a ∷ [])) (valid-more p known)), map-append key_of p (a ∷ []))
              (distinct_more (map key_of p) (key_of a) (among p known) (keys-known p known) x);
          others = λ more. absurd (omega arith);
        }
