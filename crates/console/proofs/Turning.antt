-- Lines, pieces and turns, one behind the other.
use mathlib.Core.Path.{◌≡◌, refl, sym, ap, subst, ◌∙◌}
use mathlib.Core.Bool.{Bool, true, false, cond}
use mathlib.Core.List.{List, [], ◌∷◌, ◌++◌, append-nil, append_assoc}
use Prim.Native.Nat.{ℕ, zero, suc, ◌+◌, ◌-◌, ◌≤◌}
use native.Mathlib.Omega.{arith}
use borrow.Rule.Slice.PartMut.{put_mid, post_of}
use lib.ListN.{length, take, drop, length-append, length-drop}
use lib.Seq.{take_all, take-append-le, take-append-add, drop-append_seam, length-take-le, take-add}
use Rattle.std.specs.Prelude.{Result, Ok, Err, is_ok, is_err, IfOk}
use Rattle.model.specs.Lists.{gather}
use Rattle.model.proofs.Members.{gather_append}
use mathlib.Core.Option.{Option}
use Rattle.model.specs.Script.{ScriptCall, Readings, lines_of}
use Rattle.carry.specs.Lines.{Printed, Carried}
use Rattle.carry.proofs.Carrying.{readings-append, printed-none, printed-append, printed-alike}
use Rattle.batch.specs.Pieces.{ended, begun, last, kept, TakenIn}
use Rattle.batch.proofs.Cuts.{lines-ended, ended-append, begun-append}
use Rattle.batch.proofs.Keeping.{kept-kept, begun-alike, ended-alike, last-alike}
use Rattle.console.specs.declared.BrokenOff.{BrokenOff}
use Rattle.console.specs.Turns.{HandedOn, TakenUpTo, Ended, Stepped, Finished, Closed, Turned, Came, Ran}

-- one of two
neither : {A : Type 0} {b : Bool} → b ≡ true → b ≡ false → A
neither e f = let z : ◌≡◌ {A = ℕ} 0 1 = cc in absurd (omega arith)

-- ---- what is handed on

-- the first bytes of the output, all of them
module _ (out : List ℕ) (at : ℕ) (h : at ≤ length out) {n : ℕ} (e : n ≡ length (take at out)) where
  pub handed-left : at - n ≡ 0
  handed-left = omega (arith, e, length-take-le at out h)

  pub handed-all : HandedOn out at (at - n)
  handed-all = rw handed-left (record { handed = take at out; same = append-nil (take at out) })

-- nothing is
pub handed-none : (out : List ℕ) (at : ℕ) → HandedOn out at at
handed-none out at = record { handed = []; same = refl }

-- ---- lines that read alike, one list behind another

readings-split : (ls ms : List (List ℕ)) (rs : List (Option ScriptCall)) → Readings (ls ++ ms) rs
    → (xs : List (Option ScriptCall)) × (ys : List (Option ScriptCall)) × (rs ≡ xs ++ ys) × Readings ls xs × Readings ms ys
readings-split [] ms rs r = ([], rs, refl, tt, r)
readings-split (l ∷ ls) ms [] r = absurd r
readings-split (l ∷ ls) ms (q ∷ rs) r =
    let x = readings-split ls ms rs r.1 in
    (q ∷ x.0, x.1, ap (λ (l : List (Option ScriptCall)). q ∷ l) x.2, (r.0, x.3), x.4)

both_read : (ls ls' ms ms' : List (List ℕ)) → ((rs : List (Option ScriptCall)) → Readings ls rs → Readings ls' rs)
    → ((rs : List (Option ScriptCall)) → Readings ms rs → Readings ms' rs) → (rs : List (Option ScriptCall)) → Readings (ls ++ ms) rs → Readings (ls' ++ ms') rs
both_read ls ls' ms ms' f g rs r =
    let x = readings-split ls ms rs r in
    rw x.2 (readings-append ls' ms' x.0 x.1 (f x.0 x.3) (g x.1 x.4))

-- ---- an input taken in, part by part

pub taken_none : (k s w i : List ℕ) → TakenUpTo k s w i 0 k s w
taken_none k s w i = record { text = []; handed = []; within = omega arith; lines = printed-none s; begins = refl; output = sym (append-nil w) }

module _ {k s w i k1 t1 w1 : List ℕ} {u : ℕ} (a : TakenUpTo k s w i u k1 t1 w1) where
  -- lines behind those of the first part, whatever is kept of it
  behind : (j : List ℕ) {t2 x : List ℕ} → Printed (ended k1 j) t1 x t2 → Printed (ended (begun k (take u i)) j) t1 x t2
  behind j p = printed-alike (λ rs. ended-alike j k1 (begun k (take u i)) rs a.begins) p

  pub taken_next : {v : ℕ} {k2 t2 w2 : List ℕ} → TakenUpTo k1 t1 w1 (drop u i) v k2 t2 w2 → TakenUpTo k s w i (u + v) k2 t2 w2
  taken_next {v} {k2} {t2} {w2} b =
      let front : List ℕ = take u i in
      let more : List ℕ = take v (drop u i) in
      let e : take (u + v) i ≡ front ++ more = take-add u v i in
      record {
        text = a.text ++ b.text;
        handed = a.handed ++ b.handed;
        within = omega (arith, a.within, b.within, length-drop u i);
        lines = rw (e, ended-append k front more) (printed-append a.lines (behind more b.lines));
        begins = rw (e, begun-append k front more) (b.begins ∙ begun-alike more k1 (begun k front) a.begins);
        output =
            append_assoc a.handed b.handed w2
            ∙ ap (λ (l : List ℕ). a.handed ++ l) b.output
            ∙ sym (append_assoc a.handed w1 b.text)
            ∙ ap (λ (l : List ℕ). l ++ b.text) a.output
            ∙ append_assoc w a.text b.text;
      }

  -- more is handed on
  pub taken-handed : {out : List ℕ} {at to : ℕ} → w1 ≡ take at out → HandedOn out at to → TakenUpTo k s w i u k1 t1 (take to out)
  taken-handed {out} {at} {to} e h =
      record {
        text = a.text;
        handed = a.handed ++ h.handed;
        within = a.within;
        lines = a.lines;
        begins = a.begins;
        output =
            append_assoc a.handed h.handed (take to out)
            ∙ ap (λ (l : List ℕ). a.handed ++ l) (h.same ∙ sym e)
            ∙ a.output;
      }

  -- it is broken off there
  pub taken-ended : Ended false k s i t1
  taken-ended =
      record {
        used = u;
        closed = false;
        text = a.text;
        within = a.within;
        lines = rw (append-nil (ended k (take u i))) a.lines;
        all = λ e. neither e refl;
      }

  -- what is behind it is ended
  pub taken_then : {b : Bool} {t2 : List ℕ} → Ended b k1 t1 (drop u i) t2 → Ended b k s i t2
  taken_then {b} {t2} f =
      let front : List ℕ = take u i in
      let more : List ℕ = take f.used (drop u i) in
      let e : take (u + f.used) i ≡ front ++ more = take-add u f.used i in
      let left : List (List ℕ) → List (List ℕ) = λ ls. cond f.closed ls [] in
      record {
        used = u + f.used;
        closed = f.closed;
        text = a.text ++ f.text;
        within = omega (arith, a.within, f.within, length-drop u i);
        lines =
            rw (e, ended-append k front more, begun-append k front more, append_assoc (ended k front) (ended (begun k front) more) (cond f.closed (last (begun (begun k front) more)) []))
            (printed-append a.lines (printed-alike (alike f.closed more) f.lines));
        all = λ q. (omega (arith, (f.all q).0, a.within, length-drop u i), (f.all q).1);
      }
    where
      alike : (c : Bool) (j : List ℕ) (rs : List (Option ScriptCall)) → Readings (ended k1 j ++ cond c (last (begun k1 j)) []) rs
          → Readings (ended (begun k (take u i)) j ++ cond c (last (begun (begun k (take u i)) j)) []) rs
      alike true j =
          both_read (ended k1 j) (ended (begun k (take u i)) j) (last (begun k1 j)) (last (begun (begun k (take u i)) j))
          (λ rs. ended-alike j k1 (begun k (take u i)) rs a.begins)
          (λ rs. last-alike (begun k1 j) (begun (begun k (take u i)) j) rs (begun-alike j k1 (begun k (take u i)) a.begins))
      alike false j =
          both_read (ended k1 j) (ended (begun k (take u i)) j) [] [] (λ rs. ended-alike j k1 (begun k (take u i)) rs a.begins) (λ rs r. r)

-- ---- a line

-- bytes laid into the output from a place on
laid-front : (out y : List ℕ) (a k w : ℕ) → a ≤ length out → w ≤ length y → take (a + w) (put_mid a k out y) ≡ take a out ++ take w y
laid-front out y a k w h g =
    let l : length (take a out) ≡ a = length-take-le a out h in
    ap (λ (n : ℕ). take (n + w) (put_mid a k out y)) (sym l)
    ∙ take-append-add (take a out) (y ++ _) w
    ∙ ap (λ (x : List ℕ). take a out ++ x) (take-append-le w y _ g)

-- there is room for them
laid-fits : (out y : List ℕ) (a k w : ℕ) → a ≤ length out → w ≤ length y → a + w ≤ length (put_mid a k out y)
laid-fits out y a k w h g =
    let l : length (take a out) ≡ a = length-take-le a out h in
    omega (arith, length-append (take a out) (y ++ post_of a k out), length-append y (post_of a k out))

module _ {out : List ℕ} {at start : ℕ} (h : HandedOn out at start) (within : start ≤ length out) (y : List ℕ) {w : ℕ} (g : w ≤ length y) (m : ℕ) where
  -- what was handed on and what stands there are what stood there and the text
  text-behind : h.handed ++ take (start + w) (put_mid start m out y) ≡ take at out ++ take w y
  text-behind =
      ap (λ (x : List ℕ). h.handed ++ x) (laid-front out y start m w within g)
      ∙ sym (append_assoc h.handed (take start out) (take w y))
      ∙ ap (λ (x : List ℕ). x ++ take w y) h.same

module _ {out : List ℕ} {at start : ℕ} (h : HandedOn out at start) (within : start ≤ length out) (m : ℕ) where
  pub line_taken : {k s o i l' t y : List ℕ} {used w n : ℕ} → TakenIn k s o i used w n l' t y
      → Stepped {E = BrokenOff} (Ok used) k s (take at out) i (take n l') t (take (start + w) (put_mid start m out y))
  line_taken {k} {s} {o} {i} {l'} {t} {y} {used} {w} {n} a = (
    record {
      text = take w y;
      handed = h.handed;
      within = a.used-within;
      lines = a.done.lines;
      begins = ap kept a.kept-is ∙ kept-kept (begun k (take used i));
      output = text-behind h within y a.done.within m;
    },
    a.used-is,
  )

-- a line taken in where room was made for what it prints
pub line-room : {out out1 k k1 s o i l' t y : List ℕ} {at start used w n : ℕ} (m : ℕ) → HandedOn out at start → start ≤ length out → out1 ≡ out → k1 ≡ k
    → TakenIn k1 s o i used w n l' t y → Stepped {E = BrokenOff} (Ok used) k s (take at out) i (take n l') t (take (start + w) (put_mid start m out1 y))
line-room {out} {k = k} {s = s} {o = o} {i = i} {l' = l'} {t = t} {y = y} {at = at} {start = start} {used = used} {w = w} {n = n} m h within e f a =
    subst (λ (l : List ℕ). Stepped {E = BrokenOff} (Ok used) k s (take at out) i (take n l') t (take (start + w) (put_mid start m l y))) (sym e)
    (line_taken h within m (subst (λ (l : List ℕ). TakenIn l s o i used w n l' t y) f a))

module _ {out : List ℕ} {at start : ℕ} (h : HandedOn out at start) (within : start ≤ length out) (m : ℕ) where
  -- the last line, without an end
  pub last-finished : {k s o t y : List ℕ} {w : ℕ} → Carried (last k) s o w t y → Finished k s (take at out) t (take (start + w) (put_mid start m out y))
  last-finished {y = y} {w = w} c = record { text = take w y; handed = h.handed; lines = c.lines; output = text-behind h within y c.within m }

-- ---- a piece

-- what is lent of an input from a place on
lent-rest : (i : List ℕ) (from : ℕ) → take (length i - from) (drop from i) ≡ drop from i
lent-rest i from = take_all (length i - from) (drop from i) (omega (arith, length-drop from i))

-- one line more
pub feed-next : {k s w i k1 t1 w1 k2 t2 w2 : List ℕ} {from used : ℕ} → TakenUpTo k s w i from k1 t1 w1
    → TakenUpTo k1 t1 w1 (take (length i - from) (drop from i)) used k2 t2 w2 → TakenUpTo k s w i (from + used) k2 t2 w2
feed-next {i = i} {from = from} a b = taken_next a (rw (lent-rest i from) at b)

-- what it prints is handed on
pub piece-handed : {k s w i k1 k2 t out out' : List ℕ} {u at to : ℕ} → TakenUpTo k s w i u k1 t (take at out) → HandedOn out at to → out' ≡ out → k2 ≡ k1
    → TakenUpTo k s w i u k2 t (take to out')
piece-handed {k} {s} {w} {i} {k1} {k2} {t} {out} {out'} {u} {at} {to} a h e f =
    subst (λ (l : List ℕ). TakenUpTo k s w i u l t (take to out')) (sym f)
    (subst (λ (l : List ℕ). TakenUpTo k s w i u k1 t (take to l)) (sym e) (taken-handed a refl h))

-- where nothing is left, it was handed on
pub handed-so : {A E : Type 0} (r : Result A E) (out : List ℕ) (at to : ℕ) → IfOk r (λ (x : A). HandedOn out at to × (to ≡ 0)) → IfOk r (λ (x : A). HandedOn out at to)
handed-so (Ok x) out at to h = h.0
handed-so (Err x) out at to h = h

-- what a piece printed could not be handed on
pub turned-broken : {A E : Type 0} (k s w i k' t w' : List ℕ) (r : Result A E) → is_err r ≡ true → Ended false k s i t → Turned r k s w i k' t w'
turned-broken k s w i k' t w' (Ok x) h e = neither h refl
turned-broken k s w i k' t w' (Err x) h e = e

-- it was handed on, or it could not be
pub piece-settled : {A E : Type 0} (r : Result A E) {k s w i k1 k2 t out out' : List ℕ} (at to : ℕ) → TakenUpTo k s w i (length i) k1 t (take at out)
    → IfOk r (λ (x : A). HandedOn out at to) → out' ≡ out → k2 ≡ k1 → Turned r k s w i k2 t (take to out')
piece-settled (Ok x) at to a h e f = piece-handed a h e f
piece-settled {A} {E} (Err x) {k} {s} {w} {i} {k2 = k2} {t = t} {out' = out'} at to a h e f =
    turned-broken {A = A} {E = E} k s w i k2 t (take to out') (Err x) refl (taken-ended a)

-- nothing of it was taken in, and it is broken off
pub broken-before : (k s i : List ℕ) → Ended false k s i s
broken-before k s i = taken-ended (taken_none k s [] i)

-- ---- the end of the input

-- all lines were carried out, whether or not it was written
pub finished-ended : {k s w t w' : List ℕ} → Finished k s w t w' → (whole : Bool) → Ended whole k s [] t
finished-ended f whole = record { used = 0; closed = true; text = f.text; within = omega arith; lines = f.lines; all = λ e. (refl, refl) }

pub finished-handed : {k s w t : List ℕ} (out : List ℕ) {at to : ℕ} → Finished k s w t (take at out) → HandedOn out at to → Finished k s w t (take to out)
finished-handed out {at} {to} f h =
    record {
      text = f.text;
      handed = f.handed ++ h.handed;
      lines = f.lines;
      output = append_assoc f.handed h.handed (take to out) ∙ ap (λ (l : List ℕ). f.handed ++ l) h.same ∙ f.output;
    }

-- the last line carried out into the output from a place on, and all of it handed on, or it could not be
pub close-all : {out : List ℕ} {at start : ℕ} → HandedOn out at start → start ≤ length out → (m : ℕ) (k : List ℕ) {s o t : List ℕ} (y : List ℕ) {w : ℕ} → Carried (last k) s o w t y
    → {n : ℕ} → n ≡ length (take (start + w - 0) (put_mid start m out y)) → {A E : Type 0} (r : Result A E)
    → Closed r k s (take at out) t (take (start + w - n) (put_mid start m out y))
close-all {out} {at} {start} h within m k y {w} c e (Ok x) =
    let z : start + w - 0 ≡ start + w = omega arith in
    let fits = laid-fits out y start m w within c.within in
    let all = e ∙ ap (λ (k : ℕ). length (take k (put_mid start m out y))) z in (
      finished-handed (put_mid start m out y) (last-finished h within m c) (handed-all (put_mid start m out y) (start + w) fits all),
      ap (λ (k : ℕ). take k (put_mid start m out y)) (handed-left (put_mid start m out y) (start + w) fits all),
    )
close-all h within m k y c e (Err x) = finished-ended (last-finished h within m c) false

-- the same where room was made before, and what is left is known
pub close-room : {A E : Type 0} (r : Result A E) {out k k1 s o t y : List ℕ} (out1 out2 : List ℕ) {at start w : ℕ} (to m : ℕ) → HandedOn out at start → start ≤ length out → k1 ≡ k
    → Carried (last k1) s o w t y → IfOk r (λ (x : A). HandedOn (put_mid start m out1 y) (start + w) to × (to ≡ 0)) → Closed r k s (take at out) t (take to out2)
close-room {E = E} (Ok x) {out} {k = k} {s = s} {o = o} {t = t} {y = y} out1 out2 {at} {w = w} to m h within f c i =
    let d = close-all h within m k y (subst (λ (l : List ℕ). Carried (last l) s o w t y) f c) refl {E = E} (Ok x) in
    subst (λ (l : List ℕ). Closed {E = E} (Ok x) k s (take at out) t l) (d.1 ∙ sym (ap (λ (n : ℕ). take n out2) i.1)) d
close-room {A} (Err x) {k = k} {s = s} {o = o} {t = t} {y = y} out1 out2 {w = w} to m h within f c i =
    close-all h within m k y (subst (λ (l : List ℕ). Carried (last l) s o w t y) f c) refl {A = A} (Err x)

-- ---- a result that is an error

-- where there was no room nothing was done
pub closed-refused : {A E : Type 0} (k s w w' : List ℕ) (r : Result A E) → is_err r ≡ true → Closed r k s w s w'
closed-refused k s w w' (Ok x) h = neither h refl
closed-refused k s w w' (Err e) h = broken-before k s []

pub ran-broken : {A E : Type 0} {s t : List ℕ} (r : Result A E) → is_err r ≡ true → Ran false s t → Ran (is_ok r) s t
ran-broken (Ok x) h q = neither h refl
ran-broken (Err e) h q = q

-- a run is whole only if the input ended and all was written
pub closed-ended : {A E : Type 0} {k s t : List ℕ} (w w' : List ℕ) (r : Result A E) → Closed r k s w t w' → Ended (is_ok r) k s [] t
closed-ended w w' (Ok x) c = finished-ended c.0 true
closed-ended w w' (Err e) c = c

-- where the input broke off it is not whole in any case
pub closed-broken : {A E : Type 0} {k s t : List ℕ} (w w' : List ℕ) (r : Result A E) → Closed r k s w t w' → Ended false k s [] t
closed-broken w w' (Ok x) c = finished-ended c.0 false
closed-broken w w' (Err e) c = c

-- ---- turns

-- bytes came, and were taken in
pub came-taken : (n : ℕ) {k s w : List ℕ} (b : List ℕ) {k' t w' : List ℕ} → (n ≡ 0 → ⊥) → Came {E = BrokenOff} (Ok n) k s w b k' t w'
    → TakenUpTo k s w (take n b) (length (take n b)) k' t w'
came-taken zero b h c = absurd (h refl)
came-taken (suc n) b h c = c

-- none came, and the input is ended
pub came-closed : (n : ℕ) {k s t : List ℕ} (w b k' w' : List ℕ) → n ≡ 0 → Came {E = BrokenOff} (Ok n) k s w b k' t w' → Ended true k s [] t
came-closed zero w b k' w' h c = closed-ended {A = ℕ} {E = BrokenOff} w w' (Ok 0) c
came-closed (suc n) w b k' w' h c = absurd (omega arith)

-- bytes behind the input
taken-wider : {k s w i k1 t1 w1 : List ℕ} (j : List ℕ) → TakenUpTo k s w i (length i) k1 t1 w1 → TakenUpTo k s w (i ++ j) (length i) k1 t1 w1
taken-wider {k} {i = i} {t1 = t1} j a =
    let e : take (length i) i ≡ take (length i) (i ++ j) = sym (take-append-le (length i) i j (omega arith)) in
    record {
      text = a.text;
      handed = a.handed;
      within = omega (arith, length-append i j);
      lines = rw (← e) a.lines;
      begins = rw (← e) a.begins;
      output = a.output;
    }

module _ {k s w i k1 t1 w1 : List ℕ} (a : TakenUpTo k s w i (length i) k1 t1 w1) (j : List ℕ) where
  -- the input that follows
  following : drop (length i) (i ++ j) ≡ j
  following = drop-append_seam i j

  both-taken : {k2 t2 w2 : List ℕ} → TakenUpTo k1 t1 w1 j (length j) k2 t2 w2 → TakenUpTo k s w (i ++ j) (length (i ++ j)) k2 t2 w2
  both-taken {k2} {t2} {w2} b =
      let c : TakenUpTo k1 t1 w1 (drop (length i) (i ++ j)) (length j) k2 t2 w2 = rw following b in
      subst (λ (u : ℕ). TakenUpTo k s w (i ++ j) u k2 t2 w2) (sym (length-append i j)) (taken_next (taken-wider j a) c)

  both-ended : {b : Bool} {t2 : List ℕ} → Ended b k1 t1 j t2 → Ended b k s (i ++ j) t2
  both-ended {b} {t2} e =
      let c : Ended b k1 t1 (drop (length i) (i ++ j)) t2 = rw following e in
      taken_then (taken-wider j a) c

-- the pieces so far were taken in from the store s₀, with nothing kept and no output before
pub record Running (s₀ line store out : List ℕ) (n at : ℕ) : Type 0 where
  pub pieces : List (List ℕ)
  pub taken : TakenUpTo [] s₀ [] (gather (λ p. p) pieces) (length (gather (λ p. p) pieces)) (take n line) store (take at out)

run-start : (s line out : List ℕ) → Running s line s out 0 0
run-start s line out = record { pieces = []; taken = taken_none [] s [] [] }

pub run-begun : (s line out : List ℕ) {n : ℕ} → n ≡ 0 → Running s line s out n 0
run-begun s line out e = subst (λ (k : ℕ). Running s line s out k 0) (sym e) (run-start s line out)

module _ {s₀ line store out : List ℕ} {n at : ℕ} (r : Running s₀ line store out n at) (p : List ℕ) where
  -- one piece more
  one_more : gather (λ q. q) (r.pieces ++ (p ∷ [])) ≡ gather (λ q. q) r.pieces ++ p
  one_more = gather_append (λ q. q) r.pieces (p ∷ []) ∙ ap (λ (l : List ℕ). gather (λ q. q) r.pieces ++ l) (append-nil p)

  pub run-next : {line' store' out' : List ℕ} {n' at' : ℕ}
      → TakenUpTo (take n line) store (take at out) p (length p) (take n' line') store' (take at' out') → Running s₀ line' store' out' n' at'
  run-next t = record { pieces = r.pieces ++ (p ∷ []); taken = rw one_more (both-taken r.taken p t) }

  pub run-ended : {whole : Bool} {store' : List ℕ} → Ended whole (take n line) store p store' → Ran whole s₀ store'
  run-ended e = record { pieces = r.pieces ++ (p ∷ []); ends = rw one_more (both-ended r.taken p e) }

-- the turns are at their end
pub run_out : {s₀ line store out : List ℕ} {n at : ℕ} → Running s₀ line store out n at → Ran false s₀ store
run_out r = record { pieces = r.pieces; ends = taken-ended r.taken }

-- ---- a run that is whole

-- its pieces' lines are all carried out, a last one without an end too
pub ran-whole : {s t : List ℕ} (r : Ran true s t) → Printed (lines_of (gather (λ p. p) r.pieces)) s r.ends.text t
ran-whole {s} {t} r =
    let i : List ℕ = gather (λ p. p) r.pieces in
    let a = r.ends.all refl in
    let e : take r.ends.used i ≡ i = ap (λ (n : ℕ). take n i) a.0 ∙ take_all (length i) i (omega arith) in
    rw (lines-ended [] i)
    (subst (λ (c : Bool). Printed (ended [] i ++ cond c (last (begun [] i)) []) s r.ends.text t) a.1
    (subst (λ (j : List ℕ). Printed (ended [] j ++ cond r.ends.closed (last (begun [] j)) []) s r.ends.text t) e r.ends.lines))

-- the same, by what was yielded
pub ran-as : {b c : Bool} {s t : List ℕ} → Ran b s t → b ≡ c → Ran c s t
ran-as {s = s} {t = t} r e = subst (λ (b : Bool). Ran b s t) e r

pub ran-from : {b : Bool} {s u t : List ℕ} → s ≡ u → Ran b s t → Ran b u t
ran-from {b} {t = t} e r = subst (λ (x : List ℕ). Ran b x t) e r
