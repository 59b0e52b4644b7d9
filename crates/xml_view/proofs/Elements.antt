-- The element of a place: its tag and value, its contents and its end tag are the tree of what is left there.
use mathlib.Core.Path.{◌≡◌, ap}
use mathlib.Core.List.{List, ◌∷◌}
use Prim.Native.Nat.{ℕ, ◌+◌, ◌*◌, ◌≤◌, ◌<◌}
use native.Mathlib.Omega.{arith}
use lib.ListN.{length, get_or, drop}
use Rattle.model.specs.Slot.{slot_size, step_at}
use Rattle.model.specs.Xml.{end_tag, xml}
use Rattle.text.specs.declared.output.Output.{Output}
use Rattle.text.specs.Overlay.{Wrote}
use Rattle.text.proofs.Overlays.{wrote_as}
use Rattle.order.specs.Refs.{slot_of}
use Rattle.xml_view.specs.Nested.{inner, contents, tree, size}
use Rattle.xml_view.specs.Places.{opening, left, entry_of, Place, Room, Put}
use Rattle.xml_view.proofs.Nesting.{inside-room, end-room, element-end}
use Rattle.xml_view.proofs.Places.{At, here-first, here-steps, here-content, here-last, here-step, here-used}
use Rattle.xml_view.proofs.Opening.{content_of, opening-short, end_short}

module _ {s : ℕ} {b rs : List ℕ} {i d a : ℕ} (p : At s b rs i d) (h : i < length rs) (room : Room b rs i d a) where
  pub tag-room : a + 144 < 4294967296
  tag-room = omega (arith, room.fits, ap length (here-first p h).1)

  module _ {x : List ℕ} (g : x ≡ slot_of b (get_or rs i 0)) (w : length x ≡ slot_size) {row step : ℕ}
      (next : (left b rs i d ≡ entry_of b rs i d ∷ left b rs row step) × Place b rs row step) where
    short : length (opening (step_at x d) (entry_of b rs i d).content) ≤ 127
    short =
        omega (arith, opening-short (here-used p h g w) d (here-step p h g), ap (λ (c : _). length (opening (step_at x d) c)) (here-content p h g))

    -- the tag and the value are those of the entry
    opened : {o o' : List ℕ} {m : ℕ} → Wrote o a (opening (step_at x d) (content_of x d)) o' m
        → Wrote o a (opening (step_at x d) (entry_of b rs i d).content) o' m
    opened tag = wrote_as (ap (opening (step_at x d)) (here-content p h g)) tag

    pub contents-room : {o o' : List ℕ} {m : ℕ} → Wrote o a (opening (step_at x d) (content_of x d)) o' m → Room b rs row step m
    contents-room tag = record { fits = inside-room next.0 (here-last p h g) (opened tag) (omega (arith, short)) room.fits }

    module _ {t u : Output} {r k : ℕ} (body : Put (contents (d + 1)) (inner (d + 1)) b rs row step t u r k)
        {o : List ℕ} (tag : Wrote o a (opening (step_at x d) (content_of x d)) t.bytes.now t.at) where
      pub end-tag-room : u.at + 14 < 4294967296
      end-tag-room =
          end-room next.0 (here-last p h g) (opened tag) (here-steps p h) body.wrote.1 body.rest body.room (omega (arith, short)) room.fits

      -- what is written, what is left and its room
      pub element-put : {n : ℕ} → (n ≡ (step_at x d).name) × (n < 65536) → {o' : List ℕ} {to : ℕ} → Wrote u.bytes.now u.at (end_tag n) o' to
          → Wrote o a (xml (tree (left b rs i d))) o' to
          × (left b rs r k ≡ drop (size (left b rs i d)) (left b rs i d))
          × (to + 160 * length (left b rs r k) ≤ a + 160 * length (left b rs i d))
      element-put {n} e f =
          let narrow : length (end_tag n) ≤ 9 = omega (arith, ap (λ (j : ℕ). length (end_tag j)) e.0, end_short (here-used p h g w) d (here-step p h g)) in
          element-end next.0 (here-last p h g) (opened tag) (here-steps p h) body.wrote.1 body.rest body.room e.0 (omega (arith, short)) f
