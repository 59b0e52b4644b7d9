-- A slot moved behind others, as bytes and as elements, and put to its place so.
use mathlib.Core.Path.{◌≡◌, sym, ap, ap₂, ◌∙◌}
use mathlib.Core.List.{List, [], ◌∷◌, ◌++◌, append_assoc, append-nil}
use Prim.Native.Nat.{ℕ, ◌+◌, ◌-◌, ◌*◌, ◌≤◌, ◌<◌}
use native.Mathlib.Omega.{arith}
use borrow.Rule.Slice.PartMut.{put_mid, Post-is}
use lib.ListN.{length, take, drop, replicate, length-append, length-drop, take-append-drop}
use lib.Seq.{take_at, drop_at, drop-drop, length-take-le}
use Rattle.model.specs.Lists.{gather, between}
use Rattle.model.specs.Sets.{put, sort}
use Rattle.model.specs.Element.{Element, rank}
use Rattle.model.specs.Slot.{slot_size, slot_bytes, read_slot}
use Rattle.model.specs.Partition.{layout, count, slot_start, read_partition}
use Rattle.model.proofs.Members.{gather_append}
use Rattle.model.proofs.Order.{sort_sorted}
use Rattle.model.proofs.Partitions.{length-slots}
use Rattle.model.proofs.Walks.{rest_more}
use Rattle.partition.specs.Place.{place_of}
use Rattle.partition.proofs.Placing.{put-place}
use Rattle.partition.proofs.Finding.{element_at, elements-from, length-read}
use Rattle.partition.proofs.Layouts.{layout-joined}
use Rattle.sorting.specs.Sorting.{Laid, SortedBehind, place_behind, moved}

-- ---- elements

module _ (i to : ℕ) (es : List Element) (h : i < to) where
  -- element i, and those between
  abbrev one : List Element
  one = between i (i + 1) es

  abbrev others : List Element
  others = between (i + 1) to es

  -- the elements, cut there
  cut : es ≡ take i es ++ ((one ++ others) ++ drop to es)
  cut =
      let w : i + 1 - i ≡ 1 = omega arith in
      let n : i + 1 + (to - (i + 1)) ≡ to = omega arith in
      let b : take 1 (drop i es) ++ drop (i + 1) es ≡ drop i es =
      ap (λ (l : List Element). take 1 (drop i es) ++ l) (sym (drop-drop 1 i es)) ∙ take-append-drop 1 (drop i es) in
      let c : others ++ drop to es ≡ drop (i + 1) es =
      ap (λ (l : List Element). others ++ l) (ap (λ (m : ℕ). drop m es) (sym n) ∙ sym (drop-drop (to - (i + 1)) (i + 1) es))
      ∙ take-append-drop (to - (i + 1)) (drop (i + 1) es) in
      sym (take-append-drop i es)
      ∙ ap (λ (l : List Element). take i es ++ l)
      (sym (append_assoc one others (drop to es)
      ∙ ap₂ (λ (m : ℕ) (l : List Element). take m (drop i es) ++ l) w c
      ∙ b))

  length-one : i < length es → length one ≡ 1
  length-one k =
      let w : i + 1 - i ≡ 1 = omega arith in
      ap (λ (m : ℕ). length (take m (drop i es))) w ∙ length-take-le 1 (drop i es) (rw (length-drop i es) (omega arith))

  length-others : to ≤ length es → length others ≡ to - (i + 1)
  length-others k = length-take-le (to - (i + 1)) (drop (i + 1) es) (rw (length-drop (i + 1) es) (omega arith))

-- where nothing stands between, nothing moves
pub moved_none : (i : ℕ) (es : List Element) → moved i (i + 1) es ≡ es
moved_none i es =
    let h : i < i + 1 = omega arith in
    let z : i + 1 - (i + 1) ≡ 0 = omega arith in
    sym
    (cut i (i + 1) es h
    ∙ ap (λ (l : List Element). take i es ++ (l ++ drop (i + 1) es)) (ap (λ (m : ℕ). between i (i + 1) es ++ take m (drop (i + 1) es)) z ∙ append-nil (between i (i + 1) es))
    ∙ ap (λ (m : ℕ). take i es ++ (take m (drop (i + 1) es) ++ (between i (i + 1) es ++ drop (i + 1) es))) (sym z))

-- ---- a partition

module _ {b : List ℕ} (f : Laid b) (i to : ℕ) (h : i < to) (k : to ≤ count b) where
  abbrev es : List Element
  es = read_partition b

  few : to ≤ length es
  few = omega (arith, length-read b)

  -- the bytes before slot i, and those from slot to on
  abbrev before : List ℕ
  before = (count b ∷ 0 ∷ 0 ∷ 0 ∷ []) ++ gather slot_bytes (take i es)

  abbrev after : List ℕ
  after = gather slot_bytes (drop to es) ++ replicate (1280 - slot_size * count b) 0

  length_before : length before ≡ slot_start i
  length_before = simp length-slots (omega (arith, length-take-le i es (omega (arith, few))))

  -- what is laid out with as many elements between
  laid_out : (xs : List Element) → length xs ≡ to - i → layout (take i es ++ (xs ++ drop to es)) ≡ before ++ (gather slot_bytes xs ++ after)
  laid_out xs e =
      layout-joined (take i es) xs (drop to es) (count b)
      (length-append (take i es) (xs ++ drop to es)
      ∙ ap₂ (λ (x y : ℕ). x + y) (length-take-le i es (omega (arith, few))) (length-append xs (drop to es))
      ∙ omega (arith, length-drop to es, length-read b, few))
      f.few

  whole : length (one i to es h ++ others i to es h) ≡ to - i
  whole =
      length-append (one i to es h) (others i to es h)
      ∙ omega (arith, length-one i to es h (omega (arith, few)), length-others i to es h few)

  length_part : length (gather slot_bytes (one i to es h ++ others i to es h)) ≡ slot_start to - slot_start i
  length_part = length-slots (one i to es h ++ others i to es h) ∙ omega (arith, whole)

  bytes_cut : b ≡ before ++ (gather slot_bytes (one i to es h ++ others i to es h) ++ after)
  bytes_cut = f.bytes ∙ ap layout (cut i to es h) ∙ laid_out (one i to es h ++ others i to es h) whole

  -- the part that is lent
  part-is : take (slot_start to - slot_start i) (drop (slot_start i) b) ≡ gather slot_bytes (one i to es h) ++ gather slot_bytes (others i to es h)
  part-is =
      ap (λ (l : List ℕ). take (slot_start to - slot_start i) (drop (slot_start i) l)) bytes_cut
      ∙ ap (take (slot_start to - slot_start i)) (drop_at before _ (slot_start i) length_before)
      ∙ take_at (gather slot_bytes (one i to es h ++ others i to es h)) after (slot_start to - slot_start i) length_part
      ∙ gather_append slot_bytes (one i to es h) (others i to es h)

  first_slot : length (gather slot_bytes (one i to es h)) ≡ slot_size
  first_slot = length-slots (one i to es h) ∙ ap (λ (n : ℕ). slot_size * n) (length-one i to es h (omega (arith, few)))

  pub part_filled : slot_size ≤ length (take (slot_start to - slot_start i) (drop (slot_start i) b))
  part_filled = rw part-is (omega (arith, length-append (gather slot_bytes (one i to es h)) (gather slot_bytes (others i to es h)), first_slot))

  behind-is : drop (slot_start to) b ≡ after
  behind-is =
      let n : slot_start i + (slot_start to - slot_start i) ≡ slot_start to = omega arith in
      ap (λ (m : ℕ). drop m b) (sym n)
      ∙ sym (drop-drop (slot_start to - slot_start i) (slot_start i) b)
      ∙ ap (drop (slot_start to - slot_start i)) (ap (drop (slot_start i)) bytes_cut ∙ drop_at before _ (slot_start i) length_before)
      ∙ drop_at (gather slot_bytes (one i to es h ++ others i to es h)) after (slot_start to - slot_start i) length_part

  -- its first slot moved behind the others: so is the element
  pub moved-bytes : {y : List ℕ} → let x : List ℕ = take (slot_start to - slot_start i) (drop (slot_start i) b) in y ≡ drop slot_size x ++ take slot_size x
      → put_mid (slot_start i) (slot_start to - slot_start i) b y ≡ layout (moved i to es)
  moved-bytes {y} e =
      let p : List ℕ = gather slot_bytes (one i to es h) in
      let q : List ℕ = gather slot_bytes (others i to es h) in
      let swapped : y ≡ gather slot_bytes (others i to es h ++ one i to es h) =
      e
      ∙ ap₂ (λ (u v : List ℕ). u ++ v) (ap (drop slot_size) part-is ∙ drop_at p q slot_size first_slot) (ap (take slot_size) part-is ∙ take_at p q slot_size first_slot)
      ∙ sym (gather_append slot_bytes (others i to es h) (one i to es h)) in
      let front : take (slot_start i) b ≡ before = ap (take (slot_start i)) bytes_cut ∙ take_at before _ (slot_start i) length_before in
      let size : length (others i to es h ++ one i to es h) ≡ to - i =
      length-append (others i to es h) (one i to es h) ∙ omega (arith, length-one i to es h (omega (arith, few)), length-others i to es h few) in
      ap₂ (λ (u v : List ℕ). u ++ (y ++ v)) front (Post-is (slot_start i) (slot_start to) b (omega arith) ∙ behind-is)
      ∙ ap (λ (u : List ℕ). before ++ (u ++ after)) swapped
      ∙ sym (laid_out (others i to es h ++ one i to es h) size)
      ∙ ap (λ (l : List Element). layout (take i es ++ l)) (append_assoc (others i to es h) (one i to es h) (drop to es))

-- ---- put to its place

-- an element moved to its place among the sorted ones behind it: from it on the elements are sorted
pub moved-sorted : {b : List ℕ} {i to : ℕ} (f : SortedBehind b i) → to ≡ place_behind b i
    → moved i to (read_partition b) ≡ take i (read_partition b) ++ sort rank (drop i (read_partition b))
unfolding read_slot
moved-sorted {b} {i} {to} f e =
    let es : List Element = read_partition b in
    let x : Element = element_at b i in
    let t : List Element = drop (i + 1) es in
    let j : ℕ = place_of x.path t in
    let head : drop i es ≡ x ∷ t =
    elements-from b i (omega (arith, f.used))
    ∙ rest_more (element_at b) (count b) i f.used
    ∙ ap (λ (l : List Element). x ∷ l) (sym (elements-from b (i + 1) (omega (arith, f.used)))) in
    let w : i + 1 - i ≡ 1 = omega arith in
    let one-is : between i (i + 1) es ≡ x ∷ [] = ap₂ (λ (m : ℕ) (l : List Element). take m l) w head in
    let m : to - (i + 1) ≡ j = omega arith in
    let n : to ≡ i + 1 + j = e in
    let rest-is : drop to es ≡ drop j t = ap (λ (k : ℕ). drop k es) n ∙ sym (drop-drop j (i + 1) es) in
    let put_is : sort rank (drop i es) ≡ take j t ++ (x ∷ drop j t) =
    ap (sort rank) head ∙ ap (put rank x) (sort_sorted rank t f.order) ∙ put-place x t f.lacks in
    ap (λ (l : List Element). take i es ++ l)
    (ap₂ (λ (u v : List Element). u ++ v) (ap (λ (k : ℕ). take k t) m) (ap₂ (λ (u v : List Element). u ++ v) one-is rest-is) ∙ sym put_is)

-- where its place is its own slot, nothing moves
pub stays-sorted : {b : List ℕ} {i to : ℕ} (f : SortedBehind b i) → to ≡ place_behind b i → to ≤ i + 1
    → b ≡ layout (take i (read_partition b) ++ sort rank (drop i (read_partition b)))
stays-sorted {b} {i} f e h =
    let n : i + 1 ≡ place_behind b i = omega arith in
    f.laid.bytes ∙ ap layout (sym (moved_none i (read_partition b)) ∙ moved-sorted f n)
