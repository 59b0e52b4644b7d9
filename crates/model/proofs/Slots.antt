-- A slot's bytes: what is laid out is read back, and what is read from a slot with its unused bytes zero lays out as the slot.
use mathlib.Core.Path.{◌≡◌, refl, sym, ap, ap₂, ◌∙◌}
use mathlib.Core.Bool.{◌&&◌}
use mathlib.Core.List.{List, [], ◌∷◌, ◌++◌, map, append_assoc}
use Prim.Native.Nat.{ℕ, zero, suc, ◌+◌, ◌-◌, ◌*◌, ◌/◌, ◌%◌, ◌≤◌, ◌<◌, min}
use native.Mathlib.Omega.{arith}
use lib.ListN.{length, take, drop, get_or, length-append, length-take, length-drop, length-map}
use lib.Seq.{drop_at, drop-drop, take-append_seam}
use lib.Dec.{T, eqb}
use mir.Facts.{eqb_yes, leb_yes, ltb_yes, yes_ltb}
use Rattle.model.specs.Lists.{all, gather, range, is_byte, all_zero, between, pad}
use Rattle.model.specs.Label.{is_label}
use Rattle.model.specs.Path.{Step, valid_step, valid_path}
use Rattle.model.specs.Value.{allowed, storable, is_printable}
use Rattle.model.specs.Element.{Element, valid_element}
use Rattle.model.specs.Slot.{names_at, labels_at, kind_at, length_at, value_at, spare_at, slot_size, name_bytes, path_bytes, content_bytes, slot_bytes, depth, step_at, value_length, read_path, read_content, read_slot, unused_zero}
use Rattle.model.proofs.Bools.{and_l, and_r, both}
use Rattle.model.proofs.Lists.{all-implies, all_get_d, length-pad, pad-append, Bytes, bytes_one, bytes-append, bytes-pad, length-between}
use Rattle.model.proofs.Lists.{between-all, between-one, between_none, between_cons, joins, zeros-behind, pad-between, get_d_front, drop-next, length-range}

-- what fits a slot
pub record Fits (e : Element) : Type 0 where
  pub steps : length e.path ≤ 6
  pub value : length e.content.value ≤ 16

pub allowed-length : (k : ℕ) (v : List ℕ) → T (allowed k v) → length v ≤ 16
unfolding allowed
allowed-length zero v t = let h : length v ≡ 0 = eqb_yes t in omega arith
allowed-length (suc zero) v t = let h : length v ≡ 4 = eqb_yes (and_l (eqb (length v) 4) (all is_byte v) t) in omega arith
allowed-length (suc (suc zero)) v t = leb_yes (search (and_l, and_r))
allowed-length (suc (suc (suc k))) v t = absurd t

pub valid-fits : (n : ℕ) (e : Element) → T (valid_element n e) → Fits e
unfolding valid_element valid_path storable
valid-fits n e t =
    record {
      steps = leb_yes (search (and_l, and_r));
      value = allowed-length e.content.kind e.content.value (search (and_l, and_r));
    }

-- ---- what is laid out is read back

pub length-names : (p : List Step) → length (gather name_bytes p) ≡ 2 * length p
length-names [] = refl
length-names (a ∷ p) = let h : length (gather name_bytes p) ≡ 2 * length p = length-names p in omega arith

-- steps whose bytes begin at step i's places
read-steps : (b : List ℕ) (p : List Step) (i : ℕ) (x y : List ℕ) → drop (names_at + 2 * i) b ≡ gather name_bytes p ++ x
    → drop (labels_at + i) b ≡ map (λ a. a.label) p ++ y → range (step_at b) i (length p) ≡ p
read-steps b [] i x y e f = refl
read-steps b (a ∷ p) i x y e f =
    let lo : get_or b (names_at + 2 * i) 0 ≡ a.name % 256 = get_d_front b (names_at + 2 * i) _ _ e in
    let e1 : drop (suc (names_at + 2 * i)) b ≡ a.name / 256 ∷ (gather name_bytes p ++ x) = drop-next b (names_at + 2 * i) _ _ e in
    let s1 : suc (names_at + 2 * i) ≡ names_at + 2 * i + 1 = omega arith in
    let hi : get_or b (names_at + 2 * i + 1) 0 ≡ a.name / 256 = get_d_front b (names_at + 2 * i + 1) _ _ (rw s1 at e1) in
    let e2 : drop (suc (suc (names_at + 2 * i))) b ≡ gather name_bytes p ++ x = drop-next b (suc (names_at + 2 * i)) _ _ e1 in
    let s2 : suc (suc (names_at + 2 * i)) ≡ names_at + 2 * suc i = omega arith in
    let lb : get_or b (labels_at + i) 0 ≡ a.label = get_d_front b (labels_at + i) _ _ f in
    let f1 : drop (suc (labels_at + i)) b ≡ map (λ a. a.label) p ++ y = drop-next b (labels_at + i) _ _ f in
    let s3 : suc (labels_at + i) ≡ labels_at + suc i = omega arith in
    let nm : get_or b (names_at + 2 * i) 0 + 256 * get_or b (names_at + 2 * i + 1) 0 ≡ a.name = omega arith in
    ap₂ (λ (s : Step) (q : List Step). s ∷ q) (λ j. record { name = nm j; label = lb j })
    (read-steps b p (suc i) x y (rw s2 at e2) (rw s3 at f1))

module _ (e : Element) where
  names : List ℕ
  names = pad 12 (gather name_bytes e.path)

  labels : List ℕ
  labels = pad 6 (map (λ a. a.label) e.path)

  value : List ℕ
  value = pad 16 e.content.value

  -- the slot's fields, one after another
  fields : slot_bytes e ≡ length e.path ∷ (names ++ (labels ++ (e.content.kind ∷ length e.content.value ∷ (value ++ (0 ∷ 0 ∷ 0 ∷ [])))))
  unfolding slot_bytes path_bytes content_bytes names labels value pad
  fields = ap (λ (l : List ℕ). length e.path ∷ l) (append_assoc names labels _)

  at_names : drop names_at (slot_bytes e) ≡ names ++ (labels ++ (e.content.kind ∷ length e.content.value ∷ (value ++ (0 ∷ 0 ∷ 0 ∷ []))))
  at_names = ap (drop 1) fields

  at-labels : drop labels_at (slot_bytes e) ≡ labels ++ (e.content.kind ∷ length e.content.value ∷ (value ++ (0 ∷ 0 ∷ 0 ∷ [])))
  unfolding names
  at-labels = sym (drop-drop 12 1 (slot_bytes e)) ∙ ap (drop 12) at_names ∙ drop_at names _ 12 (length-pad 12 _)

  at-kind : drop kind_at (slot_bytes e) ≡ e.content.kind ∷ length e.content.value ∷ (value ++ (0 ∷ 0 ∷ 0 ∷ []))
  unfolding labels
  at-kind = sym (drop-drop 6 13 (slot_bytes e)) ∙ ap (drop 6) at-labels ∙ drop_at labels _ 6 (length-pad 6 _)

  at_length : drop length_at (slot_bytes e) ≡ length e.content.value ∷ (value ++ (0 ∷ 0 ∷ 0 ∷ []))
  at_length = drop-next (slot_bytes e) 19 _ _ at-kind

  at_value : drop value_at (slot_bytes e) ≡ value ++ (0 ∷ 0 ∷ 0 ∷ [])
  at_value = drop-next (slot_bytes e) 20 _ _ at_length

  at-spare : drop spare_at (slot_bytes e) ≡ 0 ∷ 0 ∷ 0 ∷ []
  unfolding value
  at-spare = sym (drop-drop 16 21 (slot_bytes e)) ∙ ap (drop 16) at_value ∙ drop_at value _ 16 (length-pad 16 _)

  pub length-slot : length (slot_bytes e) ≡ 40
  unfolding names labels value
  length-slot = ap length fields ∙ simp (length-append, length-pad)

  pub slot-depth : depth (slot_bytes e) ≡ length e.path
  slot-depth = ap (λ (b : List ℕ). get_or b 0 0) fields

  pub slot-length : value_length (slot_bytes e) ≡ length e.content.value
  slot-length = get_d_front (slot_bytes e) 20 _ _ at_length

module _ (e : Element) (fit : Fits e) where
  names-short : length (gather name_bytes e.path) ≤ 12
  names-short = rw length-names (omega (arith, fit.steps))

  labels-short : length (map (λ (a : Step). a.label) e.path) ≤ 6
  labels-short = rw length-map fit.steps

  path-back : read_path (slot_bytes e) ≡ e.path
  unfolding read_path names labels
  path-back =
      ap (range (step_at (slot_bytes e)) 0) (slot-depth e)
      ∙ read-steps (slot_bytes e) e.path 0 _ _
      (at_names e ∙ pad-append 12 _ _ names-short)
      (at-labels e ∙ pad-append 6 _ _ labels-short)

  value-back : between value_at (value_at + length e.content.value) (slot_bytes e) ≡ e.content.value
  unfolding value
  value-back =
      let n : value_at + length e.content.value - value_at ≡ length e.content.value = omega arith in
      ap₂ (λ (k : ℕ) (l : List ℕ). take k l) n
      (at_value e ∙ pad-append 16 _ _ fit.value)
      ∙ take-append_seam e.content.value _

  pub read-slot : read_slot (slot_bytes e) ≡ e
  unfolding read_slot read_content
  read-slot = λ i. record {
    path = path-back i;
    content = record {
      kind = get_d_front (slot_bytes e) kind_at _ _ (at-kind e) i;
      value = (ap (λ (n : ℕ). between value_at (value_at + n) (slot_bytes e)) (slot-length e) ∙ value-back) i;
    };
  }

-- ---- and what is read lays out as it was

low : (lo hi : ℕ) → lo < 256 → (lo + 256 * hi) % 256 ≡ lo
low lo hi h = omega arith

high : (lo hi : ℕ) → lo < 256 → (lo + 256 * hi) / 256 ≡ hi
high lo hi h = omega arith

byte-lt : (b : List ℕ) (i : ℕ) → T (all is_byte b) → i < length b → get_or b i 0 < 256
unfolding is_byte
byte-lt b i t h = ltb_yes (all_get_d is_byte b i 0 h t)

names-back : (b : List ℕ) (d i : ℕ) → T (all is_byte b) → names_at + 2 * i + 2 * d ≤ length b
    → gather name_bytes (range (step_at b) i d) ≡ between (names_at + 2 * i) (names_at + 2 * i + 2 * d) b
names-back b zero i t h = sym (between_none (names_at + 2 * i) (names_at + 2 * i + 2 * 0) b (omega arith))
names-back b (suc d) i t h =
    let a : ℕ = names_at + 2 * i in
    let e : ℕ = a + 2 * suc d in
    let l : get_or b a 0 < 256 = byte-lt b a t (omega arith) in
    let s1 : suc a ≡ a + 1 = omega arith in
    let s2 : suc (suc a) ≡ names_at + 2 * suc i = omega arith in
    let s3 : names_at + 2 * suc i + 2 * d ≡ e = omega arith in
    let r : gather name_bytes (range (step_at b) (suc i) d) ≡ between (suc (suc a)) e b =
    names-back b d (suc i) t (omega arith) ∙ ap₂ (λ (x y : ℕ). between x y b) (sym s2) s3 in
    ap₂ (λ (x : ℕ) (z : List ℕ). x ∷ z) (low (get_or b a 0) (get_or b (a + 1) 0) l)
    (ap₂ (λ (x : ℕ) (z : List ℕ). x ∷ z) (high (get_or b a 0) (get_or b (a + 1) 0) l ∙ ap (λ (n : ℕ). get_or b n 0) (sym s1)) r)
    ∙ ap (λ (z : List ℕ). get_or b a 0 ∷ z) (sym (between_cons (suc a) e b (omega arith) h))
    ∙ sym (between_cons a e b (omega arith) h)

labels-back : (b : List ℕ) (d i : ℕ) → labels_at + i + d ≤ length b
    → map (λ (a : Step). a.label) (range (step_at b) i d) ≡ between (labels_at + i) (labels_at + i + d) b
labels-back b zero i h = sym (between_none (labels_at + i) (labels_at + i + 0) b (omega arith))
labels-back b (suc d) i h =
    let s1 : suc (labels_at + i) ≡ labels_at + suc i = omega arith in
    let s2 : labels_at + suc i + d ≡ labels_at + i + suc d = omega arith in
    ap (λ (z : List ℕ). get_or b (labels_at + i) 0 ∷ z)
    (labels-back b d (suc i) (omega arith) ∙ ap₂ (λ (x y : ℕ). between x y b) (sym s1) s2)
    ∙ sym (between_cons (labels_at + i) (labels_at + i + suc d) b (omega arith) h)

-- a slot of 40 bytes with its unused bytes zero
module _ (b : List ℕ) (size : length b ≡ 40) (bytes : T (all is_byte b)) (fit : Fits (read_slot b)) (t : T (unused_zero b)) where
  depth-short : depth b ≤ 6
  unfolding read_slot read_path
  depth-short = rw (length-range (step_at b) 0 (depth b)) at fit.steps

  -- a value's length byte over 16 would be read as a longer value
  length-short : value_length b ≤ 16
  unfolding read_slot read_content
  length-short =
      let h : length (between value_at (value_at + value_length b) b) ≤ 16 = fit.value in
      let l : length (drop value_at b) ≡ 19 = length-drop value_at b ∙ ap (λ (n : ℕ). n - value_at) size in
      let m : length (take (value_at + value_length b - value_at) (drop value_at b)) ≡ min (value_at + value_length b - value_at) (length (drop value_at b)) = length-take _ (drop value_at b) in
      omega arith

  path-forth : path_bytes (read_path b) ≡ between 0 kind_at b
  unfolding path_bytes read_path unused_zero pad
  path-forth =
      let d : depth b ≤ 6 = depth-short in
      joins 0 labels_at kind_at b (omega arith) (omega arith)
      (joins 0 names_at labels_at b (omega arith) (omega arith)
      (ap (λ (n : ℕ). n ∷ []) (length-range (step_at b) 0 (depth b)) ∙ sym (between-one 0 b (omega arith)))
      (ap (pad 12) (names-back b (depth b) 0 bytes (omega arith))
      ∙ pad-between names_at (names_at + 2 * depth b) labels_at b (omega arith) (omega arith) (omega arith) (search (and_l, and_r))))
      (ap (pad 6) (labels-back b (depth b) 0 (omega arith))
      ∙ pad-between labels_at (labels_at + depth b) kind_at b (omega arith) (omega arith) (omega arith) (search (and_l, and_r)))

  content-forth : content_bytes (read_content b) ≡ between kind_at slot_size b
  unfolding content_bytes read_content unused_zero pad
  content-forth =
      let h : value_length b ≤ 16 = length-short in
      let l : length (between value_at (value_at + value_length b) b) ≡ value_length b =
      length-between value_at (value_at + value_length b) b (omega arith) (omega arith) ∙ omega arith in
      joins kind_at spare_at slot_size b (omega arith) (omega arith)
      (joins kind_at value_at spare_at b (omega arith) (omega arith)
      (joins kind_at length_at value_at b (omega arith) (omega arith)
      (sym (between-one kind_at b (omega arith)))
      (ap (λ (n : ℕ). n ∷ []) l ∙ sym (between-one length_at b (omega arith))))
      (pad-between value_at (value_at + value_length b) spare_at b (omega arith) (omega arith) (omega arith) (search (and_l, and_r))))
      (pad-between spare_at spare_at slot_size b (omega arith) (omega arith) (omega arith) (search (and_l, and_r)))

  pub slot-forth : slot_bytes (read_slot b) ≡ b
  unfolding slot_bytes read_slot
  slot-forth = joins 0 kind_at slot_size b (omega arith) (omega arith) path-forth content-forth ∙ between-all slot_size b size

-- ---- a slot laid out has its unused bytes zero, and bytes

module _ (e : Element) (fit : Fits e) where
  pub slot-unused : T (unused_zero (slot_bytes e))
  unfolding unused_zero names labels value
  slot-unused =
      let b : List ℕ = slot_bytes e in
      let h : length e.path ≤ 6 = fit.steps in
      let k : length e.content.value ≤ 16 = fit.value in
      let ln : length (gather name_bytes e.path) ≡ 2 * length e.path = length-names e.path in
      let ll : length (map (λ (a : Step). a.label) e.path) ≡ length e.path = length-map e.path (λ (a : Step). a.label) in
      let z1 : T (all_zero (between (names_at + 2 * length e.path) labels_at b)) =
      zeros-behind b names_at (12 - length (gather name_bytes e.path)) (gather name_bytes e.path) _
      (at_names e ∙ pad-append 12 _ _ (names-short e fit)) (names_at + 2 * length e.path) labels_at (omega arith) (omega arith) in
      let z2 : T (all_zero (between (labels_at + length e.path) kind_at b)) =
      zeros-behind b labels_at (6 - length (map (λ (a : Step). a.label) e.path)) (map (λ (a : Step). a.label) e.path) _
      (at-labels e ∙ pad-append 6 _ _ (labels-short e fit)) (labels_at + length e.path) kind_at (omega arith) (omega arith) in
      let z3 : T (all_zero (between (value_at + length e.content.value) spare_at b)) =
      zeros-behind b value_at (16 - length e.content.value) e.content.value _
      (at_value e ∙ pad-append 16 _ _ k) (value_at + length e.content.value) spare_at (omega arith) (omega arith) in
      let z4 : T (all_zero (between spare_at slot_size b)) = zeros-behind b spare_at 3 [] [] (at-spare e) spare_at slot_size (omega arith) (omega arith) in
      rw (slot-depth e, slot-length e) (search both)

-- a kind that has values is a byte, and so are the values
pub allowed-bytes : (k : ℕ) (v : List ℕ) → T (allowed k v) → T (is_byte k) × T (all is_byte v)
unfolding allowed is_byte is_printable
allowed-bytes zero v t = (tt, none v (eqb_yes t))
  where
    none : (l : List ℕ) → length l ≡ 0 → T (all is_byte l)
    none [] h = tt
    none (x ∷ l) h = absurd (omega arith)
allowed-bytes (suc zero) v t = (tt, and_r (eqb (length v) 4) (all is_byte v) t)
allowed-bytes (suc (suc zero)) v t = (tt, all-implies is_printable is_byte v (λ x h. small x h) (search (and_l, and_r)))
  where
    small : (x : ℕ) → T (is_printable x) → T (is_byte x)
    small x h = let k : x ≤ 126 = leb_yes (search (and_l, and_r)) in let r : x < 256 = omega arith in yes_ltb r
allowed-bytes (suc (suc (suc k))) v t = absurd t

step-bytes : (p : List Step) → T (all valid_step p) → T (all is_byte (gather name_bytes p)) × T (all is_byte (map (λ (a : Step). a.label) p))
unfolding valid_step is_byte is_label
step-bytes [] t = (tt, tt)
step-bytes (a ∷ p) t =
    let h : a.name ≤ 65535 = leb_yes (search (and_l, and_r)) in
    let k : a.label < 32 = ltb_yes (search (and_l, and_r)) in
    let r = step-bytes p (and_r (valid_step a) (all valid_step p) t) in
    let h0 : a.name % 256 < 256 = omega arith in
    let h1 : a.name / 256 < 256 = omega arith in
    let k1 : a.label < 256 = omega arith in (
      both (is_byte (a.name % 256)) (is_byte (a.name / 256) && all is_byte (gather name_bytes p)) (yes_ltb h0)
          (both (is_byte (a.name / 256)) (all is_byte (gather name_bytes p)) (yes_ltb h1) r.0),
      both (is_byte a.label) (all is_byte (map (λ (a : Step). a.label) p)) (yes_ltb k1) r.1,
    )

pub slot-bytes : (n : ℕ) (e : Element) → T (valid_element n e) → Bytes (slot_bytes e)
unfolding slot_bytes path_bytes content_bytes valid_element valid_path storable is_byte
slot-bytes n e t =
    let f : Fits e = valid-fits n e t in
    let s = step-bytes e.path (search (and_l, and_r)) in
    let v = allowed-bytes e.content.kind e.content.value (search (and_l, and_r)) in
    let hd : length e.path < 256 = omega (arith, f.steps) in
    let hv : length e.content.value < 256 = omega (arith, f.value) in
    let hk : e.content.kind < 256 = ltb_yes v.0 in
    let names : Bytes (gather name_bytes e.path) = record { bytes = s.0 } in
    let labels : Bytes (map (λ (a : Step). a.label) e.path) = record { bytes = s.1 } in
    let value : Bytes e.content.value = record { bytes = v.1 } in
    let spare : Bytes [] = record { bytes = tt } in
    bytes-append
    (bytes-append (bytes-append (bytes-pad 1 (bytes_one hd)) (bytes-pad 12 names)) (bytes-pad 6 labels))
    (bytes-append (bytes-append (bytes-append (bytes-pad 1 (bytes_one hk)) (bytes-pad 1 (bytes_one hv))) (bytes-pad 16 value)) (bytes-pad 3 spare))
