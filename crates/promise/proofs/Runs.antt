-- Noninterference of the code (demand 3), and what each call that does as promised leaves alone.
use mathlib.Core.Path.{◌≡◌, refl, sym, ap, ap₂, ◌∙◌}
use mathlib.Core.Bool.{not}
use mathlib.Core.List.{List, [], ◌∷◌}
use Prim.Native.Nat.{ℕ}
use lib.Dec.{T}
use Rattle.model.specs.Store.{partition}
use Rattle.model.specs.Model.{open_model}
use Rattle.model.specs.Call.{Call, call_subject, Told, Answer, nothing, refused}
use Rattle.model.specs.Run.{answer_of, store_after, output_after, corrupted, run, remains, observed, Unaffected}
use Rattle.model.proofs.Bools.{decide, cond_yes, cond_no}
use Rattle.model.proofs.Noninterference.{others-stay, noninterference}
use Rattle.model.proofs.Refusals.{refused-nothing, refused-output}
use Rattle.promise.specs.Did.{Did}
use Rattle.promise.specs.Ran.{Action, called, corrupting, Ran, events, Received, received, lent, laid_over, laid, CodeNoninterference}

-- ---- one call

module _ (c : Call) {s o : List ℕ} {k : Told} {t o' : List ℕ} (d : Did c s o k t o') where
  -- the store that it left is the model's
  pub did-store : t ≡ store_after c s
  unfolding store_after
  did-store = d.store_is

  -- it changes no partition but its subject's own
  pub did-keeps : (j : ℕ) → (j ≡ call_subject c → ⊥) → partition j t ≡ partition j s
  did-keeps j h = ap (partition j) did-store ∙ others-stay c s j h

  -- a refused call yields nothing, and the store and the output hold the bytes that they held
  pub did_nothing : (k.number ≡ 0 → ⊥) → (k.result ≡ nothing c.op) × (t ≡ s) × (o' ≡ o)
  unfolding refused answer_of output_after
  did_nothing h =
      let r : (answer_of c s).told.number ≡ 0 → ⊥ = λ z. h (ap (λ (x : Told). x.number) d.told_is ∙ z) in (
        ap (λ (x : Told). x.result) d.told_is ∙ ap (λ (a : Answer). a.told.result) (refused-nothing c s r).0,
        did-store ∙ (refused-nothing c s r).1,
        d.output-is ∙ refused-output c s o r,
      )

  -- nothing else can be told or left
  pub did-one : {k2 : Told} {t2 o2 : List ℕ} → Did c s o k2 t2 o2 → (k ≡ k2) × (t ≡ t2) × (o' ≡ o2)
  did-one e = (d.told_is ∙ sym e.told_is, d.store_is ∙ sym e.store_is, d.output-is ∙ sym e.output-is)

  -- what is received of it is the model's answer, laid over the output lent
  did-received : ◌≡◌ {A = Received} (record { told = k; output = o' }) (laid_over o (answer_of c s))
  unfolding answer_of laid_over
  did-received = λ i. record { told = d.told_is i; output = d.output-is i }

-- ---- runs: the store and what is received are those of the model's events

pub ran-run : (acts : List Action) (s s' : List ℕ) → Ran acts s s' → s' ≡ run (events acts) s
ran-run [] s s' r = r
ran-run (called c o k t o' ∷ acts) s s' r = ran-run acts t s' r.1 ∙ ap (run (events acts)) (did-store c r.0)
ran-run (corrupting l x ∷ acts) s s' r = ran-run acts (corrupted l x s) s' r

pub ran-received : (u : ℕ) (acts : List Action) (s s' : List ℕ) → Ran acts s s' → received u acts ≡ laid (lent u acts) (observed u (events acts) s)
ran-received u [] s s' r = refl
ran-received u (called c o k t o' ∷ acts) s s' r =
    let rest : received u acts ≡ laid (lent u acts) (observed u (events acts) (store_after c s)) =
    ran-received u acts t s' r.1 ∙ ap (λ (l : List ℕ). laid (lent u acts) (observed u (events acts) l)) (did-store c r.0) in
    let later : List Answer = observed u (events acts) (store_after c s) in
    decide (remains u c)
    (λ (h : T (remains u c)).
    cond_yes (remains u c) (record { told = k; output = o' } ∷ received u acts) (received u acts) h
    ∙ ap₂ (λ (x : Received) (xs : List Received). x ∷ xs) (did-received c r.0) rest
    ∙ sym (ap₂ laid (cond_yes (remains u c) (o ∷ lent u acts) (lent u acts) h) (cond_yes (remains u c) (answer_of c s ∷ later) later h)))
    (λ (h : T (not (remains u c))).
    cond_no (remains u c) (record { told = k; output = o' } ∷ received u acts) (received u acts) h
    ∙ rest
    ∙ sym (ap₂ laid (cond_no (remains u c) (o ∷ lent u acts) (lent u acts) h) (cond_no (remains u c) (answer_of c s ∷ later) later h)))
ran-received u (corrupting l x ∷ acts) s s' r = ran-received u acts (corrupted l x s) s' r

-- demand 3
pub code-noninterference : CodeNoninterference
code-noninterference u acts s s' t r h a =
    let f : Unaffected u (events acts) s (open_model t) = noninterference u (events acts) s t h a in
    record {
      told = ran-received u acts s s' r ∙ ap (laid (lent u acts)) f.told;
      left = λ n d. ap (partition n) (ran-run acts s s' r) ∙ f.left n d;
    }
