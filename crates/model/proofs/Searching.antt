-- Every text sends something: a search through all trees that it could send finds the one or shows that there is none. The lists searched
-- are shut, since they are far too long to compute; only what their members are is said of them.
use mathlib.Core.Path.{◌≡◌, refl, ap}
use mathlib.Core.Bool.{Bool, not, ◌&&◌}
use mathlib.Core.Option.{Option, none, some}
use mathlib.Core.List.Memᴰ
use mathlib.Core.List.{List, [], ◌∷◌, ◌++◌, map}
use Prim.Native.Nat.{ℕ, zero, suc, ◌+◌, ◌≤◌, ◌<◌}
use native.Mathlib.Omega.{arith}
use lib.ListN.{length, length-append}
use lib.Dec.{T}
use mir.Facts.{ltb_yes, leb_yes, T_not}
use Rattle.model.specs.Lists.{◌∈◌, all, any, gather, range, is_byte, same_bytes}
use Rattle.model.specs.Label.{is_label}
use Rattle.model.specs.Path.{Step, valid_step}
use Rattle.model.specs.Value.{Content, bringable}
use Rattle.model.specs.Tree.{Forest, empty, element}
use Rattle.model.specs.Xml.{start_tag, end_tag, content_xml, xml}
use Rattle.model.specs.Intake.{may_show, in_form, is_one, Sends, Sending}
use Rattle.model.proofs.Bools.{and_l, and_r, both, decide}
use Rattle.model.proofs.Members.{any-in, not-any, in-gather, in_map}
use Rattle.model.proofs.Lists.{same_bytes-eq, same_bytes-refl}
use Rattle.model.proofs.Walks.{in-range}
use Rattle.model.proofs.Slots.{allowed-length, allowed-bytes}
use Rattle.model.proofs.Sending.{form-parts}

-- ---- numbers and lists of bytes

-- the numbers below n
unfoldable numbers : ℕ → List ℕ
numbers n = range (λ x. x) 0 n

in-numbers : (n x : ℕ) → x < n → x ∈ numbers n
unfolding numbers
in-numbers n x h = in-range (λ y. y) 0 n x (omega arith) (omega arith)

-- the lists of n bytes
abbrev values : ℕ → List (List ℕ)
values zero = [] ∷ []
values (suc n) = gather (λ x. map (λ v. x ∷ v) (values n)) (numbers 256)

in-values : (v : List ℕ) → T (all is_byte v) → v ∈ values (length v)
unfolding is_byte
in-values [] t = Memᴰ.head refl
in-values (x ∷ v) t =
    in-gather (λ y. map (λ w. y ∷ w) (values (length v))) (numbers 256) (in-numbers 256 x (ltb_yes (and_l (is_byte x) (all is_byte v) t)))
    (in_map (λ w. x ∷ w) (values (length v)) (in-values v (and_r (is_byte x) (all is_byte v) t)))

-- ---- steps and contents

-- all steps in range
unfoldable steps : List Step
steps = gather (λ n. map (λ l. record { name = n; label = l }) (numbers 32)) (numbers 65536)

in-steps : (a : Step) → T (valid_step a) → a ∈ steps
unfolding steps valid_step is_label
in-steps a t =
    let n : a.name ≤ 65535 = leb_yes (search (and_l, and_r)) in
    let l : a.label < 32 = ltb_yes (search (and_l, and_r)) in
    in-gather (λ n. map (λ l. record { name = n; label = l }) (numbers 32)) (numbers 65536) (in-numbers 65536 a.name (omega arith))
    (in_map (λ l. record { name = a.name; label = l }) (numbers 32) (in-numbers 32 a.label l))

-- all contents with a byte as kind and at most 16 bytes as value
abbrev of_kind : ℕ → ℕ → List (Option Content)
of_kind k n = map (λ v. some (record { kind = k; value = v })) (values n)

unfoldable contents : List (Option Content)
contents = none ∷ gather (λ k. gather (of_kind k) (numbers 17)) (numbers 256)

in-contents : (c : Option Content) → T (may_show c) → c ∈ contents
unfolding contents bringable is_byte
in-contents none t = Memᴰ.head refl
in-contents (some c) t =
    let b = allowed-bytes c.kind c.value t in
    let k : c.kind < 256 = ltb_yes b.0 in
    let n : length c.value ≤ 16 = allowed-length c.kind c.value t in
    Memᴰ.tail (in-gather (λ k. gather (of_kind k) (numbers 17)) (numbers 256) (in-numbers 256 c.kind k)
    (in-gather (of_kind c.kind) (numbers 17) (in-numbers 17 (length c.value) (omega arith))
    (in_map (λ v. some (record { kind = c.kind; value = v })) (values (length c.value)) (in-values c.value b.1))))

-- ---- trees

-- all trees nested and put behind each other at most n times
abbrev forests : ℕ → List Forest
forests zero = empty ∷ []
forests (suc n) = empty ∷ gather (λ a. gather (λ c. gather (λ i. map (element a c i) (forests n)) (forests n)) contents) steps

-- an element's text is longer than those of the trees inside and behind it, since its start tag is not empty
text-longer : (a : Step) (c : Option Content) (i b : Forest) → length (xml i) + length (xml b) < length (xml (element a c i b))
unfolding start_tag
text-longer a c i b = longer (start_tag a c) (content_xml c) (xml i) (end_tag a.name) (xml b) (omega arith)
  where
    longer : (s v w e x : List ℕ) → 0 < length s → length w + length x < length (s ++ (v ++ (w ++ (e ++ x))))
    longer s v w e x h = simp length-append (omega arith)

-- those in form whose text has at most n bytes are among them
in-forests : (n d : ℕ) (f : Forest) → T (in_form d f) → length (xml f) ≤ n → f ∈ forests n
in-forests zero d empty t h = Memᴰ.head refl
in-forests (suc n) d empty t h = Memᴰ.head refl
in-forests zero d (element a c i b) t h = let l = text-longer a c i b in absurd (omega arith)
in-forests (suc n) d (element a c i b) t h =
    let p = form-parts d a c i b t in
    let l = text-longer a c i b in
    Memᴰ.tail (in-gather (λ a. gather (λ c. gather (λ i. map (element a c i) (forests n)) (forests n)) contents) steps (in-steps a p.step)
    (in-gather (λ c. gather (λ i. map (element a c i) (forests n)) (forests n)) contents (in-contents c p.shows)
    (in-gather (λ i. map (element a c i) (forests n)) (forests n) (in-forests n (suc d) i p.within (omega arith))
    (in_map (element a c i) (forests n) (in-forests n d b p.next (omega arith))))))

-- ---- the search

-- the test whether t sends f
abbrev sends : ℕ → List ℕ → Forest → Bool
sends d t f = is_one f && in_form d f && same_bytes t (xml f)

module _ (d : ℕ) (t : List ℕ) where
  test-sends : (f : Forest) → T (sends d t f) → Sends d t f
  test-sends f k = record { one = search (and_l, and_r); ranges = search (and_l, and_r); same = same_bytes-eq t (xml f) (search (and_l, and_r)) }

  sends-test : (f : Forest) → Sends d t f → T (sends d t f)
  sends-test f s =
      let k : T (same_bytes t (xml f)) = rw s.same (same_bytes-refl (xml f)) in
      let m : T (is_one f) = s.one in
      let n : T (in_form d f) = s.ranges in
      search both

  -- what is sent is not empty
  sends-sending : (f : Forest) → Sends d t f → Sending d t f
  sends-sending empty s = absurd s.one
  sends-sending (element a c i b) s = s

  -- and it is among those searched
  sends-in : (f : Forest) → Sends d t f → f ∈ forests (length t)
  sends-in f s = let e : length t ≡ length (xml f) = ap length s.same in in-forests (length t) d f s.ranges (omega arith)

-- every text sends a tree or none
pub sending-exists : (d : ℕ) (t : List ℕ) → (f : Forest) × Sending d t f
sending-exists d t =
    let fs : List Forest = forests (length t) in
    decide (any (sends d t) fs)
    (λ (k : T (any (sends d t) fs)). let r = any-in (sends d t) fs k in (r.0, sends-sending d t r.0 (test-sends d t r.0 r.2)))
    (λ (k : T (not (any (sends d t) fs))). (empty, λ f s. T_not (sends d t f) (sends-test d t f s) (not-any (sends d t) fs k (sends-in d t f s))))
