-- A call on a store's bytes, whole runs, and the reference model fed what remains of them (document 01, "Whole runs and the book").
use Rattle.std.specs.Prelude.{◌≡◌, Bool, true, not, cond, ◌&&◌, ◌||◌, List, [], ◌∷◌, ◌++◌, ℕ, length, drop, T}
use Rattle.std.proofs.Math.Option.{Option, none, some}
use Rattle.model.specs.Lists.{pad}
use Rattle.model.specs.Label.{is_label, dominates}
use Rattle.model.specs.Element.{Element}
use Rattle.model.specs.Partition.{partition_size, layout}
use Rattle.model.specs.Store.{partition, replace}
use Rattle.model.specs.Model.{Model, cell_bytes, open_model}
use Rattle.model.specs.Call.{Call, Answer, call_subject, outcome, after}

-- ---- a call on a store's bytes, which are opened anew

unfoldable pub answer_of : Call → List ℕ → Answer
answer_of c s = (outcome c (open_model s)).answer

-- the store with a set, if any, laid out as partition n
abbrev pub write_set : ℕ → Option (List Element) → List ℕ → List ℕ
write_set n none s = s
write_set n (some es) s = replace n (layout es) s

unfoldable pub store_after : Call → List ℕ → List ℕ
store_after c s = write_set (call_subject c) (outcome c (open_model s)).change s

-- the output after a call: the bytes after those written keep their contents
unfoldable pub output_after : Call → (store output : List ℕ) → List ℕ
output_after c s o = (answer_of c s).written ++ drop (length (answer_of c s).written) o

-- ---- a run: calls, and corruption (document 01: damage), any bytes that come onto a partition

pub data Event : Type 0 where
  call : Call → Event
  corruption : (label : ℕ) (bytes : List ℕ) → Event

unfoldable pub corrupted : ℕ → List ℕ → List ℕ → List ℕ
corrupted n x s = replace n (pad partition_size x) s

-- the store after the events
abbrev pub run : List Event → List ℕ → List ℕ
run [] s = s
run (call c ∷ es) s = run es (store_after c s)
run (corruption n x ∷ es) s = run es (corrupted n x s)

-- ---- what an observer is told: calls of subjects that he dominates, and of subjects that are no labels, remain

unfoldable pub remains : ℕ → Call → Bool
remains o c = not (is_label (call_subject c)) || dominates o (call_subject c)

-- the answers, in the run, of the calls that remain
abbrev pub observed : ℕ → List Event → List ℕ → List Answer
observed o [] s = []
observed o (call c ∷ es) s = cond (remains o c) (answer_of c s ∷ observed o es (store_after c s)) (observed o es (store_after c s))
observed o (corruption n x ∷ es) s = observed o es (corrupted n x s)

-- the purged list (document 01: the others erased): the calls that remain
abbrev pub purge : ℕ → List Event → List Call
purge o [] = []
purge o (call c ∷ es) = cond (remains o c) (c ∷ purge o es) (purge o es)
purge o (corruption n x ∷ es) = purge o es

-- no corruption on a partition that the observer dominates
abbrev pub spares : ℕ → List Event → Bool
spares o [] = true
spares o (call c ∷ es) = spares o es
spares o (corruption n x ∷ es) = not (dominates o n) && spares o es

-- ---- the model fed calls

abbrev pub feed : List Call → Model → Model
feed [] m = m
feed (c ∷ cs) m = feed cs (after c m)

abbrev pub answers : List Call → Model → List Answer
answers [] m = []
answers (c ∷ cs) m = (outcome c m).answer ∷ answers cs (after c m)

-- ---- demand 3

-- stores of one length, alike in the partitions that o dominates
pub record Alike (o : ℕ) (s t : List ℕ) : Type 0 where
  pub lengths : length s ≡ length t
  pub partitions : (n : ℕ) → T (dominates o n) → partition n s ≡ partition n t

-- what the observer o gets of the events on the store s is what the model m gives, fed the purged list
pub record Unaffected (o : ℕ) (es : List Event) (s : List ℕ) (m : Model) : Type 0 where
  pub told : observed o es s ≡ answers (purge o es) m
  pub left : (n : ℕ) → T (dominates o n) → partition n (run es s) ≡ cell_bytes ((feed (purge o es) m).cell n)

-- for every observer and every run whose corruption spares him, from any store, and for every store alike to it
abbrev pub Noninterference : Type 0
Noninterference =
    (o : ℕ) (es : List Event) (s t : List ℕ) → T (spares o es) → Alike o s t → Unaffected o es s (open_model t)
