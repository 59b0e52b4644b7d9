-- The next element is put in.
use mathlib.Core.Path.{◌≡◌, refl, sym, ap, ap₂, subst, ◌∙◌}
use mathlib.Core.Option.{some}
use mathlib.Core.List.{List, [], ◌∷◌, ◌++◌}
use Prim.Native.Nat.{ℕ, suc, ◌≤◌}
use native.Mathlib.Omega.{arith}
use lib.ListN.{length, take, drop}
use lib.Dec.{T}
use Rattle.model.specs.Sets.{put}
use Rattle.model.specs.Path.{Step, is_prefix, key, steps_of}
use Rattle.model.specs.Value.{Content}
use Rattle.model.specs.Element.{Element, rank}
use Rattle.model.specs.Partition.{layout, read_partition}
use Rattle.model.specs.Call.{added}
use Rattle.model.proofs.Partitions.{ValidSet, well-formed, yes-well-formed, read-valid, read-layout, layout-well-formed}
use Rattle.model.proofs.Order.{length-put}
use Rattle.model.proofs.Paths.{prefix_trans}
use Rattle.model.proofs.Sets.{fresh, put-valid}
use Rattle.partition.specs.Place.{Formed}
use Rattle.partition.proofs.Layouts.{length-elements}
use Rattle.scan_value.specs.Values.{Valued, ValueAt}
use Rattle.std.specs.Prelude.{Some, None}
use Rattle.std.proofs.lemmas.List.{length-take}
use Rattle.std.proofs.lemmas.Option.{none-some}
use Rattle.kind.specs.Code.{code}
use Rattle.kind.specs.declared.Kind.{Kind}
use Rattle.scan.specs.Shown.{content_in, kind_at}
use Rattle.scan.proofs.Showing.{shown-code}
use Rattle.xml_read.specs.declared.Mark.{Mark}
use Rattle.intake.specs.Putting.{above}
use Rattle.intake.specs.Progress.{step_of, Below, Stepped, Item, path_of, element_of, mark_of, Fit, Ready, Going}
use Rattle.intake.proofs.Reading.{value_read}
use Rattle.intake.proofs.Stepping.{above-front, front_above}

-- elements that may follow a path may follow one that begins with it
ready-more : (s : ℕ) (l : List ℕ) (p q : List Step) (is : List Item) → T (is_prefix p q) → Ready s l p is → Ready s l q is
ready-more s l p q [] t r = tt
ready-more s l p q (i ∷ is) t r = (prefix_trans i.over p q r.0 t, r.1, r.2)

module _ {goal : List Element} {s : ℕ} {x l path : List ℕ} {i : Item} {is : List Item} (g : Going goal s x l path (i ∷ is)) where
  -- it is in form and stands in the text
  fit : Fit s l i
  fit = g.ready.1

  -- the steps above it are the first of the path
  over-is : above (length i.over) path ≡ i.over
  over-is = front_above i.over path (omega (arith, g.size, fit.shallow)) g.ready.0

  -- the set as it is
  valid : ValidSet key s (read_partition x)
  valid = read-valid key s x (well-formed key s x g.formed)

  -- the set with it is valid
  more-valid : ValidSet key s (put rank (element_of i) (read_partition x))
  more-valid = let c = g.coming.0 in put-valid (element_of i) (read_partition x) c.lacks s valid c.valid (omega (arith, g.room)) c.closes

  -- the others are left when it was put in
  next-going : {x' path' : List ℕ} → length path' ≡ 18 → above (suc (length i.over)) path' ≡ path_of i → x' ≡ layout (put rank (element_of i) (read_partition x))
      → Going goal s x' l path' is
  next-going {x'} {path'} size steps e =
      let es : List Element = put rank (element_of i) (read_partition x) in
      let back : read_partition x' ≡ es = ap read_partition e ∙ read-layout key s es more-valid in
      let begins : T (is_prefix (path_of i) (steps_of path')) =
      subst (λ (p : List Step). T (is_prefix p (steps_of path'))) steps (above-front (suc (length i.over)) path') in
      record {
        size = size;
        ready = ready-more s l (path_of i) (steps_of path') is begins g.ready.2;
        formed = rw e (yes-well-formed key s (layout es) (layout-well-formed key s es more-valid));
        coming = rw back g.coming.1;
        room = rw back (omega (arith, g.room, length-put rank (element_of i) (read_partition x) (fresh (element_of i) (read_partition x) g.coming.0.lacks)));
        reaches = rw back g.reaches;
      }

  module _ {m : Mark} (t : m ≡ mark_of i) where
    -- its value is within the text
    pub next-asked : m.place ≤ length l
    next-asked = rw t fit.within

    -- it shows a kind
    pub next-shows : m.shown ≡ None → ⊥
    next-shows e = none-some (kind_at i.content.kind) (sym e ∙ ap (λ (m : Mark). m.shown) t)

    -- its step
    step-is : step_of s m ≡ i.step
    step-is = ap₂ (λ (n k : ℕ). record { name = n; label = k }) (ap (λ (m : Mark). m.name) t) (sym fit.own)

    -- its path
    path-is : above m.steps path ++ (step_of s m ∷ []) ≡ path_of i
    path-is = ap₂ (λ (p : List Step) (a : Step). p ++ (a ∷ [])) (ap (λ (m : Mark). above m.steps path) t ∙ over-is) step-is

    -- it may be put in
    pub next-below : Below x path m.steps (step_of s m)
    next-below =
        let formed : Formed x = record { label = s; is = g.formed } in
        record {
          size = g.size;
          shallow = rw t fit.shallow;
          step = rw step-is fit.step;
          room =
              rw path-is (record { formed = formed; free = omega (arith, g.room, length-elements formed); place = refl; lacks = g.coming.0.lacks });
        }

    -- its value stands there
    valued : Valued (drop m.place l) (some i.content) fit.rest
    valued = rw t fit.value

    module _ {q : Kind} (shown : m.shown ≡ Some q) where
      -- its kind
      kind-is : i.content.kind ≡ code q
      kind-is = shown-code i.content q fit.value.shows (sym (ap (λ (m : Mark). m.shown) t) ∙ shown)

      module _ (b : List ℕ) where
        -- its value is read
        pub next-value : ValueAt l m.place m.shown b None → ⊥
        next-value none-read = none-read (some i.content) fit.rest (sym (ap (λ (m : Mark). m.shown) t)) valued

        module _ {k next : ℕ} (found : ValueAt l m.place m.shown b (Some (k, next))) where
          -- it has 16 bytes at most
          pub next-size : length (take k b) ≤ 16
          next-size = omega (arith, found.2, length-take k b)

          -- the others are left, when the element was put in
          pub next-on : {x' path' : List ℕ} → Stepped path m.steps (step_of s m) path'
              → x' ≡ layout (added (above m.steps path ++ (step_of s m ∷ [])) (record { kind = code q; value = take k b }) (read_partition x))
              → Going goal s x' l path' is
          unfolding added
          next-on {x'} {path'} z e =
              let read : Valued (drop m.place l) (content_in (Some q) (take k b)) (drop next l) = rw shown at found.3 in
              let content : i.content ≡ record { kind = code q; value = take k b } = value_read valued q kind-is read in
              next-going (z.size ∙ g.size) (ap (λ (m : Mark). above (suc m.steps) path') (sym t) ∙ z.steps ∙ path-is)
              (e ∙ ap₂ (λ (p : List Step) (c : Content). layout (put rank (record { path = p; content = c }) (read_partition x))) path-is (sym content))
