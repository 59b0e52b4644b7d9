-- What is done with the bytes that came: the store, the bytes kept of a line begun, and the output that is not yet written. What the
-- system read and wrote is not spoken of; that what leaves the buffer was handed on to be written is.
use Rattle.std.specs.Prelude.{◌≡◌, Result, Ok, Err, Bool, true, false, cond, List, [], ◌++◌, ℕ, zero, suc, ◌≤◌, length, take}
use Rattle.model.specs.Lists.{gather}
use Rattle.carry.specs.Lines.{Printed}
use Rattle.batch.specs.Pieces.{ended, begun, last, span, kept}

-- of the first `at` bytes of the output the front was handed on to be written, and what is left of them are its first `to` bytes now
pub record HandedOn (out : List ℕ) (at to : ℕ) : Type 0 where
  pub handed : List ℕ
  pub same : handed ++ take to out ≡ take at out

-- with k kept of a line begun, the store s and the output w not yet written, the first `used` bytes of an input were taken in: the lines
-- that end in them left the store t, k' is kept now, and what was handed on and what is not yet written, w', are w and the printed text
pub record TakenUpTo (k s w input : List ℕ) (used : ℕ) (k' t w' : List ℕ) : Type 0 where
  pub text : List ℕ
  pub handed : List ℕ
  pub within : used ≤ length input
  pub lines : Printed (ended k (take used input)) s text t
  pub begins : kept k' ≡ kept (begun k (take used input))
  pub output : handed ++ w' ≡ w ++ text

-- the input i, the bytes k before it being those of the line begun, was taken in to some place: the lines that end before it, and if
-- `closed` the last without an end, left the store t. If `whole` these are all lines
pub record Ended (whole : Bool) (k s i t : List ℕ) : Type 0 where
  pub used : ℕ
  pub closed : Bool
  pub text : List ℕ
  pub within : used ≤ length i
  pub lines : Printed (ended k (take used i) ++ cond closed (last (begun k (take used i))) []) s text t
  pub all : whole ≡ true → (used ≡ length i) × (closed ≡ true)

-- a line, or what there is of one: so much of the input was taken in, or there was no room and nothing was done
abbrev pub Stepped : {E : Type 0} → Result ℕ E → (k s w i k' t w' : List ℕ) → Type 0
Stepped (Ok used) k s w i k' t w' = TakenUpTo k s w i used k' t w' × (used ≡ span i)
Stepped (Err e) k s w i k' t w' = t ≡ s

-- a last line without an end, if there is one, left the store t, and what was handed on and what is not yet written are w and its text
pub record Finished (k s w t w' : List ℕ) : Type 0 where
  pub text : List ℕ
  pub handed : List ℕ
  pub lines : Printed (last k) s text t
  pub output : handed ++ w' ≡ w ++ text

-- the end of the input: all of it was carried out and handed on, or it was ended
abbrev pub Closed : {A E : Type 0} → Result A E → (k s w t w' : List ℕ) → Type 0
Closed (Ok x) k s w t w' = Finished k s w t w' × (w' ≡ [])
Closed (Err e) k s w t w' = Ended false k s [] t

-- a piece of input: all of it was taken in, or it was ended
abbrev pub Turned : {A E : Type 0} → Result A E → (k s w i k' t w' : List ℕ) → Type 0
Turned (Ok x) k s w i k' t w' = TakenUpTo k s w i (length i) k' t w'
Turned (Err e) k s w i k' t w' = Ended false k s i t

-- a turn: what came, the first bytes of what the read left in the buffer b, was taken in, or, where none came, the end of the input was
-- carried out and handed on; or it was ended
abbrev pub Came : {E : Type 0} → Result ℕ E → (k s w b k' t w' : List ℕ) → Type 0
Came (Ok zero) k s w b k' t w' = Finished k s w t w' × (w' ≡ [])
Came (Ok (suc n)) k s w b k' t w' = TakenUpTo k s w (take (suc n) b) (length (take (suc n) b)) k' t w'
Came (Err e) k s w b k' t w' = (came : ℕ) × Ended false k s (take came b) t

-- a run: there are pieces of input, one a turn, of whose lines the first, all if `whole`, lead from the store s to the store t
pub record Ran (whole : Bool) (s t : List ℕ) : Type 0 where
  pub pieces : List (List ℕ)
  pub ends : Ended whole [] s (gather (λ p. p) pieces) t
