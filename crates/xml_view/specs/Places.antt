-- Places in the walk over references: a reference, and how many steps the path listed there has beside its last.
use Rattle.std.specs.Prelude.{◌≡◌, Bool, false, List, [], ◌∷◌, ◌++◌, map, ℕ, suc, ◌+◌, ◌*◌, ◌≤◌, ◌<◌, length, get_or, take, drop, ltb}
use Rattle.std.proofs.Math.Option.{Option}
use Rattle.model.specs.Lists.{gather}
use Rattle.model.specs.Path.{Step, prefixes}
use Rattle.model.specs.Value.{Content}
use Rattle.model.specs.Element.{Element}
use Rattle.model.specs.View.{content_at}
use Rattle.model.specs.Tree.{Forest, Entry}
use Rattle.model.specs.Xml.{start_tag, content_xml, xml}
use Rattle.text.specs.declared.output.Output.{Output}
use Rattle.text.specs.Output.{Puts}
use Rattle.order.specs.Refs.{element_of}
use Rattle.listing.specs.Walk.{walk_of}

-- an element up to its contents: its tag and its value
abbrev pub opening : Step → Option Content → List ℕ
opening a c = start_tag a c ++ content_xml c

-- a path with what stands there among the elements v
abbrev pub entry_at : List Element → List Step → Entry
entry_at v q = record { path = q; content = content_at v q }

abbrev pub shown : List Element → List Step → List Entry
shown v q = entry_at v q ∷ []

-- what is listed from the first d + 1 steps of the first element on
abbrev pub left_of : List Element → ℕ → List Entry
left_of [] d = []
left_of (e ∷ es) d = gather (shown (e ∷ [])) (drop d (prefixes e.path)) ++ walk_of shown e.path es

-- from the first d + 1 steps of reference i on
unfoldable pub left : List ℕ → List ℕ → ℕ → ℕ → List Entry
left b rs i d = left_of (map (element_of b) (drop i rs)) d

-- the entry there
abbrev pub entry_of : List ℕ → List ℕ → ℕ → ℕ → Entry
entry_of b rs i d = entry_at (element_of b (get_or rs i 0) ∷ []) (take (suc d) (element_of b (get_or rs i 0)).path)

-- whether the first entry has more than d steps
abbrev pub opens : ℕ → List Entry → Bool
opens d [] = false
opens d (e ∷ es) = ltb d (length e.path)

-- the steps are there, if the reference is
pub record Place (b rs : List ℕ) (i d : ℕ) : Type 0 where
  pub within : i ≤ length rs
  pub step : i < length rs → d < length (element_of b (get_or rs i 0)).path

-- an output's place a, from which on what is left has room in 32 bits
pub record Room (b rs : List ℕ) (i d a : ℕ) : Type 0 where
  pub fits : a + 160 * length (left b rs i d) < 4294967296

-- from a place on, the trees f of what is left are written, n entries; the row and the step behind them, and the room that is left
pub record Put (f : List Entry → Forest) (n : List Entry → ℕ) (b rs : List ℕ) (i d : ℕ) (o p : Output) (row step : ℕ) : Type 0 where
  pub wrote : Puts o (xml (f (left b rs i d))) p
  pub rest : left b rs row step ≡ drop (n (left b rs i d)) (left b rs i d)
  pub place : Place b rs row step
  pub room : p.at + 160 * length (left b rs row step) ≤ o.at + 160 * length (left b rs i d)
