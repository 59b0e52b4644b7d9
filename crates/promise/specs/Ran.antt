-- Runs of the code: calls, each of which has done what its function promises, and corruption, on one store.
use Rattle.std.specs.Prelude.{◌≡◌, cond, List, [], ◌∷◌, ◌++◌, ℕ, length, drop, T}
use Rattle.model.specs.Label.{dominates}
use Rattle.model.specs.Store.{partition}
use Rattle.model.specs.Model.{Model, cell_bytes, open_model}
use Rattle.model.specs.Call.{Call, Told, Answer}
use Rattle.model.specs.Run.{Event, call, corruption, corrupted, remains, purge, spares, feed, answers, Alike}
use Rattle.promise.specs.Did.{Did}

-- a call with the output lent to it, what it answered, and the store and the output that it left; or corruption of a partition
pub data Action : Type 0 where
  called : (asked : Call) (output : List ℕ) (told : Told) (store' output' : List ℕ) → Action
  corrupting : (label : ℕ) (bytes : List ℕ) → Action

-- from the store s the actions leave the store s': each call has done what is promised on the store that the action before it left
abbrev pub Ran : List Action → (s s' : List ℕ) → Type 0
Ran [] s s' = s' ≡ s
Ran (called c o k t o' ∷ acts) s s' = Did c s o k t o' × Ran acts t s'
Ran (corrupting l x ∷ acts) s s' = Ran acts (corrupted l x s) s'

-- the events of the model that the actions are
abbrev pub events : List Action → List Event
events [] = []
events (called c o k t o' ∷ acts) = call c ∷ events acts
events (corrupting l x ∷ acts) = corruption l x ∷ events acts

-- ---- what an observer receives

-- of each call that remains for him: what it tells, and its whole output as the call left it
pub record Received : Type 0 where
  pub told : Told
  pub output : List ℕ

abbrev pub received : ℕ → List Action → List Received
received u [] = []
received u (called c o k t o' ∷ acts) =
    cond (remains u c) (record { told = k; output = o' } ∷ received u acts) (received u acts)
received u (corrupting l x ∷ acts) = received u acts

-- the outputs lent to these calls
abbrev pub lent : ℕ → List Action → List (List ℕ)
lent u [] = []
lent u (called c o k t o' ∷ acts) = cond (remains u c) (o ∷ lent u acts) (lent u acts)
lent u (corrupting l x ∷ acts) = lent u acts

-- an answer of the model laid over the output lent to the call: what is written comes first, the bytes after it keep their contents
unfoldable pub laid_over : List ℕ → Answer → Received
laid_over o r = record { told = r.told; output = r.written ++ drop (length r.written) o }

-- the answers, each laid over the output lent to its call
abbrev pub laid : List (List ℕ) → List Answer → List Received
laid [] rs = []
laid (o ∷ os) [] = []
laid (o ∷ os) (r ∷ rs) = laid_over o r ∷ laid os rs

-- ---- demand 3, of the code

-- what the observer u gets of the actions, which left the store s', is what the model m gives, fed the purged list
pub record Undisturbed (u : ℕ) (acts : List Action) (s' : List ℕ) (m : Model) : Type 0 where
  pub told : received u acts ≡ laid (lent u acts) (answers (purge u (events acts)) m)
  pub left : (n : ℕ) → T (dominates u n) → partition n s' ≡ cell_bytes ((feed (purge u (events acts)) m).cell n)

-- for every observer and every run whose corruption spares him, from any store, and for every store alike to it
abbrev pub CodeNoninterference : Type 0
CodeNoninterference =
    (u : ℕ) (acts : List Action) (s s' t : List ℕ) → Ran acts s s' → T (spares u (events acts)) → Alike u s t → Undisturbed u acts s' (open_model t)
