-- What the references name is what the subject sees at or below the path; the listing is the walk over it, with at most 64 bytes a line.
use mathlib.Core.Path.{◌≡◌, refl, ap, ap₂}
use mathlib.Core.List.Memᴰ
use mathlib.Core.List.{List, [], ◌∷◌, ◌++◌}
use Prim.Native.Nat.{ℕ, ◌+◌, ◌-◌, ◌*◌, ◌≤◌, ◌<◌}
use native.Mathlib.Omega.{arith}
use lib.ListN.{length, length-append}
use lib.Dec.{T, leb}
use mir.Facts.{leb_yes}
use Rattle.model.specs.Lists.{gather, ◌∈◌}
use Rattle.model.specs.Path.{Step, parent, path_rank, valid_path}
use Rattle.model.specs.Element.{Element, valid_element}
use Rattle.model.specs.Model.{open_model, own_set}
use Rattle.model.specs.View.{visible, path_line, head_line, listing_of, listing, seen_below}
use Rattle.model.proofs.Bools.{and_l, and_r}
use Rattle.model.proofs.Members.{all_in}
use Rattle.model.proofs.Keeps.{open-valid, visible-in}
use Rattle.model.proofs.Marks.{own-one}
use Rattle.model.proofs.Slots.{valid-fits}
use Rattle.path.specs.Common.{common}
use Rattle.line.proofs.Widths.{head-short}
use Rattle.listing.specs.Walk.{walk, element_lines, walk_lines}
use Rattle.listing.proofs.Newer.{newer-drop}
use Rattle.listing.proofs.Walks.{Distinct, rest-start, length-walk, walk-listed}
use Rattle.listing.proofs.Printed.{walk-printed}
use Rattle.listing.proofs.Drawing.{lines-short}

pub valid-some : (n : ℕ) (e : Element) → T (valid_element n e) → 1 ≤ length e.path
unfolding valid_element valid_path
valid-some n e v = let t : T (leb 1 (length e.path)) = search (and_l, and_r) in leb_yes t

-- the lines of valid elements: at most 64 bytes each, and six of an element
walk-short : (r : List Step) (es : List Element) → ((e : Element) → e ∈ es → (n : ℕ) × T (valid_element n e))
    → (length (walk_lines r es) ≤ 64 * length (walk r es)) × (length (walk r es) ≤ 6 * length es)
walk-short r [] h = (omega arith, omega arith)
walk-short r (e ∷ es) h =
    let v = h e (Memᴰ.head refl) in
    let rest = walk-short e.path es (λ d m. h d (Memᴰ.tail m)) in
    let own = lines-short v.0 e v.1 (length e.path - common r e.path) (common r e.path) refl in
    let new = ap (λ (l : List (List Step)). length (gather (path_line (e ∷ [])) l)) (newer-drop r e.path) in (
      omega (arith, length-append (element_lines r e) (walk_lines e.path es), new, own, length-walk r e es, rest.0),
      omega (arith, length-walk r e es, (valid-fits v.0 e v.1).steps, rest.1),
    )

module _ (s : ℕ) (b : List ℕ) where
  -- what is seen is valid
  pub visible-valid : {e : Element} → e ∈ visible s (open_model b) → (n : ℕ) × T (valid_element n e)
  visible-valid m = let x = visible-in s (open_model b) m in (x.0, all_in (valid_element x.0) (own_set x.0 (open_model b)) (open-valid b x.0).valid x.2)

  pub visible-distinct : Distinct (visible s (open_model b))
  visible-distinct =
      record {
        one = λ d e h k q.
            let x = visible-in s (open_model b) h in
            let y = visible-in s (open_model b) k in
            own-one (open_model b) (open-valid b) x.0 y.0 x.2 y.2 (ap path_rank q);
        some = λ e h. let v = visible-valid h in valid-some v.0 e v.1;
      }

  -- the lines of what is seen at or below the path
  pub below-short : (p : List Step)
      → (length (walk_lines (parent p) (seen_below s (open_model b) p)) ≤ 64 * length (walk (parent p) (seen_below s (open_model b) p)))
      × (length (walk (parent p) (seen_below s (open_model b) p)) ≤ 6 * length (seen_below s (open_model b) p))
  below-short p = walk-short (parent p) (seen_below s (open_model b) p) (λ e m. visible-valid ((rest-start p visible-distinct).inside e m))

  -- the listing, read off the walk
  pub listing-walk : (p : List Step) → listing s (open_model b) p
      ≡ head_line s (length (walk (parent p) (seen_below s (open_model b) p))) ++ walk_lines (parent p) (seen_below s (open_model b) p)
  unfolding listing listing_of
  listing-walk p =
      ap₂ (λ (k : ℕ) (l : List ℕ). head_line s k ++ l)
      (ap length (walk-listed (visible s (open_model b)) p visible-distinct)) (walk-printed (visible s (open_model b)) p visible-distinct)

  -- the listing of n lines
  pub listing-short : (p : List Step) {n : ℕ} → s < 256 → n ≤ 6144 → n ≡ length (walk (parent p) (seen_below s (open_model b) p)) → length (listing s (open_model b) p) ≤ 64 * n + 64
  listing-short p {n} h k e =
      let head : length (head_line s n) ≤ 64 = head-short (record { fits = omega arith }) (record { fits = omega arith }) in
      rw (listing-walk p, ← e) (rw length-append (omega (arith, head, (below-short p).0, e)))
