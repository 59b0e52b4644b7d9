-- The bytes of a partition in which some slots are replaced by others: taken out, put in, written over.
use mathlib.Core.Path.{◌≡◌, refl, sym, ap, ap₂, ◌∙◌}
use mathlib.Core.List.{List, [], ◌∷◌, ◌++◌, append_assoc, append-nil}
use Prim.Native.Nat.{ℕ, zero, suc, ◌+◌, ◌-◌, ◌*◌, ◌%◌, ◌≤◌, ◌<◌}
use native.Mathlib.Omega.{arith}
use lib.ListN.{length, take, drop, get_or, set, replicate, length-append, length-drop, length-replicate, drop_of_length-le, take-append-drop, replicate-append-replicate}
use lib.Seq.{take_all, take_at, drop_at, drop-drop, drop-cons, length-take-le, take-append-add}
use borrow.Rule.Slice.PartMut.{put_mid, mid_len, Post-is}
use Rattle.model.specs.Lists.{gather, pad}
use Rattle.model.specs.Path.{Step, key}
use Rattle.model.specs.Value.{Content}
use Rattle.model.specs.Element.{Element}
use Rattle.model.specs.Slot.{kind_at, slot_size, path_bytes, content_bytes, slot_bytes}
use Rattle.model.specs.Partition.{partition_size, layout, count, slot_start, slot_at, read_partition}
use Rattle.model.specs.Call.{added}
use Rattle.model.proofs.Lists.{length-pad, pad-short, take-replicate}
use Rattle.model.proofs.Members.{gather_append}
use Rattle.model.proofs.Slots.{length-slot}
use Rattle.model.proofs.Partitions.{length-slots, layout-read}
use Rattle.partition.specs.Place.{Formed, Room, replaced_at}
use Rattle.partition.proofs.Placing.{put-place}
use Rattle.partition.proofs.Finding.{facts, length-read, place-count}

-- the four bytes before the slots
abbrev head : ℕ → List ℕ
head c = c ∷ 0 ∷ 0 ∷ 0 ∷ []

-- n elements laid out, at most 32: the head, the slots, zeros
pub layout-joined : (l xs r : List Element) (n : ℕ) → length (l ++ (xs ++ r)) ≡ n → n ≤ 32
    → layout (l ++ (xs ++ r)) ≡ (head n ++ gather slot_bytes l) ++ (gather slot_bytes xs ++ (gather slot_bytes r ++ replicate (1280 - slot_size * n) 0))
unfolding layout pad
layout-joined l xs r n e h =
    let es : List Element = l ++ (xs ++ r) in
    let z : length (gather slot_bytes es) ≡ slot_size * n = length-slots es ∙ ap (λ (m : ℕ). slot_size * m) e in
    let g : gather slot_bytes es ≡ gather slot_bytes l ++ (gather slot_bytes xs ++ gather slot_bytes r) =
    gather_append slot_bytes l (xs ++ r) ∙ ap (λ (s : List ℕ). gather slot_bytes l ++ s) (gather_append slot_bytes xs r) in
    ap₂ (λ (m : ℕ) (s : List ℕ). head m ++ s) e (pad-short 1280 (gather slot_bytes es) (omega arith))
    ∙ rw (z, g) (simp append_assoc)

-- ---- a content replaced

-- the element whose content is replaced stands between the others
replaced-cut : (i : ℕ) (c : Content) (d : Element) (es : List Element) → i < length es
    → replaced_at i c es ≡ take i es ++ (record { path = (get_or es i d).path; content = c } ∷ drop (suc i) es)
replaced-cut i c d [] h = absurd (omega arith)
replaced-cut zero c d (e ∷ es) h = refl
replaced-cut (suc i) c d (e ∷ es) h = ap (λ (l : List Element). e ∷ l) (replaced-cut i c d es (omega arith))

-- the path's bytes of a slot, and the new content's
slot-replaced : (e : Element) (c : Content) → take kind_at (slot_bytes e) ++ content_bytes c ≡ slot_bytes (record { path = e.path; content = c })
unfolding slot_bytes path_bytes
slot-replaced e c =
    ap (λ (l : List ℕ). l ++ content_bytes c) (take_at (path_bytes e.path) (content_bytes e.content) kind_at (simp (length-append, length-pad)))

-- ---- a well-formed partition

module _ {b : List ℕ} (f : Formed b) where
  -- it has as many elements as its count says
  pub length-elements : length (read_partition b) ≡ count b
  length-elements = length-read b

  -- cut at slot k
  module _ (k : ℕ) (within : k ≤ count b) where
    length-first : length (take k (read_partition b)) ≡ k
    length-first = length-take-le k (read_partition b) (omega (arith, length-read b))

    length-others : length (drop k (read_partition b)) ≡ count b - k
    length-others = length-drop k (read_partition b) ∙ ap (λ (n : ℕ). n - k) (length-read b)

    -- the bytes before slot k, and those from it on
    abbrev bytes-before : List ℕ
    bytes-before = head (count b) ++ gather slot_bytes (take k (read_partition b))

    abbrev bytes-from : List ℕ
    bytes-from = gather slot_bytes (drop k (read_partition b)) ++ replicate (1280 - slot_size * count b) 0

    length_before : length bytes-before ≡ slot_start k
    length_before = simp length-slots (omega (arith, length-first))

    parts : b ≡ bytes-before ++ bytes-from
    parts =
        sym (layout-read key f.label b (facts f))
        ∙ ap layout (sym (take-append-drop k (read_partition b)))
        ∙ layout-joined (take k (read_partition b)) [] (drop k (read_partition b)) (count b) (ap length (take-append-drop k (read_partition b)) ∙ length-read b) (facts f).few

    front : take (slot_start k) b ≡ bytes-before
    front = ap (take (slot_start k)) parts ∙ take_at bytes-before bytes-from (slot_start k) length_before

    back : drop (slot_start k) b ≡ bytes-from
    back = ap (drop (slot_start k)) parts ∙ drop_at bytes-before bytes-from (slot_start k) length_before

    -- the count written again changes nothing
    counted : (x : List ℕ) → take (slot_start k) b ++ x ≡ set (take (slot_start k) b ++ x) 0 (count b)
    counted x = rw front

    -- the part from slot k on, as it is lent
    lent : take (partition_size - slot_start k) (drop (slot_start k) b) ≡ drop (slot_start k) b
    lent = take_all (partition_size - slot_start k) (drop (slot_start k) b) (rw (length-drop (slot_start k) b) (omega (arith, (facts f).size)))

    -- its length
    pub lent-size : length (take (partition_size - slot_start k) (drop (slot_start k) b)) ≡ partition_size - slot_start k
    lent-size = mid_len (slot_start k) partition_size b (omega (arith, (facts f).size))

    -- and another put in its place
    put_back : (y : List ℕ) → put_mid (slot_start k) (partition_size - slot_start k) b y ≡ take (slot_start k) b ++ y
    put_back y =
        let n : slot_start k ≤ partition_size = omega (arith, (facts f).few) in
        let z : drop partition_size b ≡ [] = drop_of_length-le b {i = partition_size} (omega (arith, (facts f).size)) in
        rw (Post-is (slot_start k) partition_size b n, z, append-nil y)

  -- ---- slots replaced by others

  -- those from slot at up to slot to replaced by those of xs, so that there are n: behind them stand the others, and zeros
  spliced : (at to : ℕ) → at ≤ to → to ≤ count b → (xs : List Element) (n : ℕ) → n + to ≡ at + length xs + count b → n ≤ 32 → {w y : List ℕ}
      → w ≡ gather slot_bytes xs → y ≡ gather slot_bytes (drop to (read_partition b)) ++ replicate (1280 - slot_size * n) 0
      → set (take (slot_start at) b ++ (w ++ y)) 0 n ≡ layout (take at (read_partition b) ++ (xs ++ drop to (read_partition b)))
  spliced at to h k xs n size few {w} {y} p q =
      let l : List Element = take at (read_partition b) in
      let r : List Element = drop to (read_partition b) in
      let number : length (l ++ (xs ++ r)) ≡ n = simp length-append (omega (arith, length-first at (omega arith), length-others to k)) in
      ap (λ (u : List ℕ). set (u ++ (w ++ y)) 0 n) (front at (omega arith))
      ∙ ap₂ (λ (u v : List ℕ). (head n ++ gather slot_bytes l) ++ (u ++ v)) p q
      ∙ sym (layout-joined l xs r n number few)

  -- k slots taken out: those behind move up, and zeros come in
  pub taken_out : (at k : ℕ) → at + k ≤ count b → {y : List ℕ}
      → y ≡ drop (slot_size * k) (take (partition_size - slot_start at) (drop (slot_start at) b)) ++ replicate (slot_size * k) 0
      → set (put_mid (slot_start at) (partition_size - slot_start at) b y) 0 (count b - k % 256)
      ≡ layout (take at (read_partition b) ++ drop (at + k) (read_partition b))
  taken_out at k within {y} e =
      let r : List ℕ = gather slot_bytes (drop (at + k) (read_partition b)) in
      let m : count b - k % 256 ≡ count b - k = omega (arith, (facts f).few) in
      let n : 1280 - slot_size * count b + slot_size * k ≡ 1280 - slot_size * (count b - k) = omega (arith, (facts f).few) in
      let s : slot_start at + slot_size * k ≡ slot_start (at + k) = omega arith in
      let moved : drop (slot_size * k) (take (partition_size - slot_start at) (drop (slot_start at) b)) ++ replicate (slot_size * k) 0 ≡ r ++ replicate (1280 - slot_size * (count b - k)) 0 =
      rw (lent at (omega arith), drop-drop, s, back (at + k) within, append_assoc, replicate-append-replicate, n) in
      ap₂ (λ (l : List ℕ) (i : ℕ). set l 0 i) (put_back at (omega arith) y) m
      ∙ spliced at (at + k) (omega arith) within [] (count b - k) (omega arith) (omega (arith, (facts f).few)) refl (e ∙ moved)

  -- the zeros behind the first unused slot
  zeros-behind : count b < 32 → drop (slot_start (count b + 1)) b ≡ replicate (1280 - slot_size * (count b + 1)) 0
  zeros-behind free =
      let k : ℕ = 1280 - slot_size * (count b + 1) in
      let n : 1280 - slot_size * count b ≡ slot_size + k = omega arith in
      let s : slot_start (count b) + slot_size ≡ slot_start (count b + 1) = omega arith in
      let none : drop (count b) (read_partition b) ≡ [] = drop_of_length-le (read_partition b) {i = count b} (omega (arith, length-read b)) in
      sym (drop-drop slot_size (slot_start (count b)) b ∙ ap (λ (i : ℕ). drop i b) s)
      ∙ ap (drop slot_size) (back (count b) (omega arith) ∙ ap₂ (λ (l : List Element) (i : ℕ). gather slot_bytes l ++ replicate i 0) none n ∙ sym (replicate-append-replicate slot_size k 0))
      ∙ drop_at (replicate slot_size 0) (replicate k 0) slot_size (length-replicate {A = ℕ} slot_size 0)

  -- one slot put in: those from there on move down, into the first unused slot
  pub put_in : (e : Element) (at : ℕ) → at ≤ count b → count b < 32 → {last : ℕ} → last ≡ slot_start (count b + 1)
      → {x y w : List ℕ} → x ≡ take (last - slot_start at) (drop (slot_start at) b) → y ≡ take slot_size x ++ take (length x - slot_size) x → w ≡ slot_bytes e
      → set (put_mid (slot_start at) (slot_start at + slot_size - slot_start at) (put_mid (slot_start at) (last - slot_start at) b y) w) 0 (count b + 1)
      ≡ layout (take at (read_partition b) ++ (e ∷ drop at (read_partition b)))
  put_in e at within free {last} z {x} {y} {w} p q r =
      let n : slot_start at + slot_size - slot_start at ≡ slot_size = omega arith in
      let lf : length (take (slot_start at) b) ≡ slot_start at = length-take-le (slot_start at) b (omega (arith, (facts f).size)) in
      let d : List ℕ = gather slot_bytes (drop at (read_partition b)) in
      let k : ℕ = 1280 - slot_size * (count b + 1) in
      let ld : length d ≡ slot_size * (count b - at) = length-slots (drop at (read_partition b)) ∙ ap (λ (n : ℕ). slot_size * n) (length-others at within) in
      let lx : last - slot_start at ≡ length d + slot_size = omega arith in
      let was : x ≡ d ++ replicate slot_size 0 =
      p
      ∙ ap₂ (λ (i : ℕ) (l : List ℕ). take i l) lx (back at within)
      ∙ take-append-add d (replicate (1280 - slot_size * count b) 0) slot_size
      ∙ ap (λ (l : List ℕ). d ++ l) (take-replicate slot_size (1280 - slot_size * count b) (omega arith)) in
      let size : length x ≡ length d + slot_size = ap length was ∙ length-append d (replicate slot_size 0) ∙ ap (λ (i : ℕ). length d + i) (length-replicate {A = ℕ} slot_size 0) in
      let less : length x - slot_size ≡ length d = omega arith in
      let kept : take (length x - slot_size) x ≡ d = ap₂ (λ (i : ℕ) (l : List ℕ). take i l) less was ∙ take_at d (replicate slot_size 0) (length d) refl in
      let whole : put_mid (slot_start at) (last - slot_start at) b y ≡ take (slot_start at) b ++ (y ++ replicate k 0) =
      ap (λ (l : List ℕ). take (slot_start at) b ++ (y ++ l)) (Post-is (slot_start at) last b (omega arith) ∙ ap (λ (i : ℕ). drop i b) z ∙ zeros-behind free) in
      let moved : drop slot_size (y ++ replicate k 0) ≡ d ++ replicate k 0 =
      ap (λ (l : List ℕ). drop slot_size (l ++ replicate k 0)) (q ∙ ap (λ (l : List ℕ). take slot_size x ++ l) kept)
      ∙ ap (drop slot_size) (append_assoc (take slot_size x) d (replicate k 0))
      ∙ drop_at (take slot_size x) (d ++ replicate k 0) slot_size (length-take-le slot_size x (omega arith)) in
      ap (λ (l : List ℕ). set (put_mid (slot_start at) (slot_start at + slot_size - slot_start at) l w) 0 (count b + 1)) whole
      ∙ rw (n, take_at (take (slot_start at) b) (y ++ replicate k 0) (slot_start at) lf, drop_at (take (slot_start at) b) (y ++ replicate k 0) (slot_start at) lf)
      (spliced at at (omega arith) within (e ∷ []) (count b + 1) (omega arith) (omega arith) (r ∙ sym (append-nil (slot_bytes e))) moved)

  -- one slot written over with another content
  pub put-over : (at : ℕ) (c : Content) → at < count b → {w : List ℕ} → w ≡ take kind_at (slot_at b at) ++ content_bytes c
      → put_mid (slot_start at) (slot_start at + slot_size - slot_start at) b w ≡ layout (replaced_at at c (read_partition b))
  put-over at c within {w} q =
      let d : Element = record { path = []; content = c } in
      let e : Element = get_or (read_partition b) at d in
      let r : List ℕ = gather slot_bytes (drop (suc at) (read_partition b)) ++ replicate (1280 - slot_size * count b) 0 in
      let h : at < length (read_partition b) = omega (arith, length-read b) in
      let n : slot_start at + slot_size - slot_start at ≡ slot_size = omega arith in
      let s : slot_start at + slot_size ≡ slot_start (suc at) = omega arith in
      let slot : slot_at b at ≡ slot_bytes e =
      rw (n, back at (omega arith), drop-cons (read_partition b) at d h, append_assoc) (take_at (slot_bytes e) r slot_size (length-slot e)) in
      counted at (omega arith) _
      ∙ spliced at (suc at) (omega arith) within (record { path = e.path; content = c } ∷ []) (count b) (omega arith) (facts f).few
      (q ∙ ap (λ (l : List ℕ). take kind_at l ++ content_bytes c) slot ∙ slot-replaced e c ∙ sym (append-nil _))
      (Post-is (slot_start at) (slot_start at + slot_size) b (omega arith) ∙ ap (λ (i : ℕ). drop i b) s ∙ back (suc at) within)
      ∙ ap layout (sym (replaced-cut at c d (read_partition b) h))

-- ---- a partition with room

-- the place is at most the count
pub room_within : {b : List ℕ} {at : ℕ} {p : List Step} → Room b at p → at ≤ count b
room_within {b} {p = p} r = omega (arith, r.place, place-count p b)

-- the sizes that the steps of an insert stay within
pub room-sizes : {b : List ℕ} {at : ℕ} {p : List Step} → Room b at p → (length b ≡ partition_size) × (at ≤ count b) × (count b < 32)
room-sizes r = ((facts r.formed).size, room_within r, r.free)

-- an element put in at the place is one added to the set
pub room-put : {b : List ℕ} {at : ℕ} (p : List Step) (c : Content) → Room b at p → {x : List ℕ}
    → x ≡ layout (take at (read_partition b) ++ (record { path = p; content = c } ∷ drop at (read_partition b))) → x ≡ layout (added p c (read_partition b))
unfolding added
room-put {b} p c r g =
    g
    ∙ ap (λ (k : ℕ). layout (take k (read_partition b) ++ (record { path = p; content = c } ∷ drop k (read_partition b)))) r.place
    ∙ ap layout (sym (put-place (record { path = p; content = c }) (read_partition b) r.lacks))
