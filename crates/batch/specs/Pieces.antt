-- An input taken in by pieces: the lines that end in a piece, and what is kept of the line that is begun.
use Rattle.std.specs.Prelude.{◌≡◌, cond, List, [], ◌∷◌, ◌++◌, ℕ, suc, ◌+◌, ◌≤◌, min, length, take, drop, eqb}
use Rattle.model.specs.Store.{empty_store}
use Rattle.model.specs.Script.{lines_of, Prints}
use Rattle.carry.specs.Lines.{Printed, Carried}

-- the lines that end in a piece, the bytes p being those before it of the line begun
abbrev pub ended : List ℕ → List ℕ → List (List ℕ)
ended p [] = []
ended p (x ∷ i) = cond (eqb x 10) (p ∷ ended [] i) (ended (p ++ (x ∷ [])) i)

-- the line that is begun behind the last end
abbrev pub begun : List ℕ → List ℕ → List ℕ
begun p [] = p
begun p (x ∷ i) = cond (eqb x 10) (begun [] i) (begun (p ++ (x ∷ [])) i)

-- a last line without an end, if there is one
abbrev pub last : List ℕ → List (List ℕ)
last [] = []
last (x ∷ p) = (x ∷ p) ∷ []

-- where the first line end stands, or the length
abbrev pub end_at : List ℕ → ℕ
end_at [] = 0
end_at (x ∷ i) = cond (eqb x 10) 0 (suc (end_at i))

-- how much of an input there is up to its first line end, the end included
abbrev pub span : List ℕ → ℕ
span [] = 0
span (x ∷ i) = cond (eqb x 10) 1 (suc (span i))

-- of a line at most 257 bytes are kept: one that long reads as no call, however it goes on
abbrev pub kept_size : ℕ
kept_size = 257

unfoldable pub kept : List ℕ → List ℕ
kept p = take kept_size p

-- ---- what the functions yield

-- the line l' holds the first n bytes of l and behind them those given, as far as there is room, r bytes in all, and is else as l
pub record Kept (l : List ℕ) (n : ℕ) (more l' : List ℕ) (r : ℕ) : Type 0 where
  pub count-is : r ≡ min (n + length more) (length l)
  pub line-is : l' ≡ take r (take n l ++ more) ++ drop r l

-- with k kept of the line begun before, from the store s: the input was used up to its first line end, the lines that ended in
-- it were carried out, and the first n of l' is what is kept now
pub record TakenIn (k s o input : List ℕ) (used wrote n : ℕ) (l' t o' : List ℕ) : Type 0 where
  pub used-is : used ≡ span input
  pub used-within : used ≤ length input
  pub done : Carried (ended k (take used input)) s o wrote t o'
  pub within : n ≤ length l'
  pub kept-is : take n l' ≡ kept (begun k (take used input))

-- ---- an input taken in piece by piece

-- the input i was taken in so far, from the store s with nothing kept: its ended lines printed the text and left the store t, and k
-- is kept of the line begun
pub record Underway (i s text k t : List ℕ) : Type 0 where
  pub lines : Printed (ended [] i) s text t
  pub begins : kept k ≡ kept (begun [] i)

-- what a piece was taken in from and into, what was answered, and what was left
pub record Piece : Type 0 where
  pub input : List ℕ
  pub output : List ℕ
  pub used : ℕ
  pub wrote : ℕ
  pub count : ℕ
  pub line' : List ℕ
  pub store' : List ℕ
  pub output' : List ℕ

-- from what is kept, k, and the store s the pieces leave k' and s': each was taken in, as is promised, with what the one before it left
abbrev pub Fed : List Piece → (k s k' s' : List ℕ) → Type 0
Fed [] k s k' s' = (k' ≡ k) × (s' ≡ s)
Fed (p ∷ ps) k s k' s' =
    TakenIn k s p.output p.input p.used p.wrote p.count p.line' p.store' p.output'
    × Fed ps (take p.count p.line') p.store' k' s'

-- the bytes that were used of them, one piece behind the other
abbrev pub used_bytes : List Piece → List ℕ
used_bytes [] = []
used_bytes (p ∷ ps) = take p.used p.input ++ used_bytes ps

-- the bytes that they wrote, one piece behind the other
abbrev pub wrote_bytes : List Piece → List ℕ
wrote_bytes [] = []
wrote_bytes (p ∷ ps) = take p.wrote p.output' ++ wrote_bytes ps

-- all pieces from nothing kept and the store s, and then the end: what is kept, k, is carried out if it is a line. The text is what
-- was written in all, and t the store that is left
pub record Whole (ps : List Piece) (s text t : List ℕ) : Type 0 where
  pub k : List ℕ
  pub store' : List ℕ
  pub fed : Fed ps [] s k store'
  pub output : List ℕ
  pub wrote : ℕ
  pub output' : List ℕ
  pub finished : Carried (last k) store' output wrote t output'
  pub text-is : text ≡ wrote_bytes ps ++ take wrote output'

-- however an input is cut into pieces: its lines are carried out, no other text is printed and no other store is left
abbrev pub PiecesAsLines : Type 0
PiecesAsLines = (ps : List Piece) (s text t : List ℕ) → Whole ps s text t → Printed (lines_of (used_bytes ps)) s text t

-- so two cuts of one input print the same and leave the same store
abbrev pub CutsAgree : Type 0
CutsAgree =
    (ps qs : List Piece) (s x t y u : List ℕ) → used_bytes ps ≡ used_bytes qs → Whole ps s x t → Whole qs s y u → (x ≡ y) × (t ≡ u)

-- and what is printed from the empty store is what the model prints for the input
abbrev pub PiecesPrint : Type 0
PiecesPrint = (ps : List Piece) (text t : List ℕ) → Whole ps empty_store text t → Prints (used_bytes ps) text
