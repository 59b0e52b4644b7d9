-- Styles taken in as XML: which texts are in form, and what they bring (document 02, request 5/14).
use Rattle.std.specs.Prelude.{◌≡◌, Bool, true, false, not, ◌&&◌, List, [], ◌∷◌, ℕ, suc, T, eqb, ltb}
use Rattle.std.proofs.Math.Option.{Option, none, some}
use Rattle.model.specs.Lists.{any, gather}
use Rattle.model.specs.Sets.{put}
use Rattle.model.specs.Path.{Step, same_step, valid_step}
use Rattle.model.specs.Value.{Content, bringable}
use Rattle.model.specs.Element.{Element, rank}
use Rattle.model.specs.Tree.{Forest, empty, element, entries}
use Rattle.model.specs.Xml.{xml}

-- the steps of trees that stand beside each other
abbrev pub siblings : Forest → List Step
siblings empty = []
siblings (element a c inside behind) = a ∷ siblings behind

-- no two steps are equal in name and label
abbrev pub differ : List Step → Bool
differ [] = true
differ (a ∷ p) = not (any (same_step a) p) && differ p

-- a removed element, or a kind with a value that it may have
abbrev pub may_show : Option Content → Bool
may_show none = true
may_show (some c) = bringable c

-- trees below a path of d steps: six steps in all at most, names, labels and values in range, and no two siblings equal
abbrev pub in_form : ℕ → Forest → Bool
in_form d empty = true
in_form d (element a c inside behind) =
    ltb d 6 && valid_step a && may_show c && differ (siblings inside) && in_form (suc d) inside && in_form d behind

-- each element is live and bears label s
abbrev pub own_live : ℕ → Forest → Bool
own_live s empty = true
own_live s (element a none inside behind) = false
own_live s (element a (some c) inside behind) = eqb a.label s && own_live s inside && own_live s behind

-- one tree
abbrev pub is_one : Forest → Bool
is_one empty = false
is_one (element a c inside empty) = true
is_one (element a c inside (element b e within behind)) = false

-- ---- what a text sends, to be put below a path of d steps: one tree in form whose XML it is, or none

pub record Sends (d : ℕ) (t : List ℕ) (f : Forest) : Type 0 where
  pub one : T (is_one f)
  pub ranges : T (in_form d f)
  pub same : t ≡ xml f

abbrev pub Sending : ℕ → List ℕ → Forest → Type 0
Sending d t empty = (f : Forest) → Sends d t f → ⊥
Sending d t (element a c inside behind) = Sends d t (element a c inside behind)

-- ---- what a tree brings to the subject's set

-- the element at a path, unless it is removed
abbrev pub live_at : List Step → Option Content → List Element
live_at p none = []
live_at p (some c) = record { path = p; content = c } ∷ []

-- the elements of trees that stand below path r, each before those inside it
unfoldable pub elements_of : List Step → Forest → List Element
elements_of r f = gather (λ e. live_at e.path e.content) (entries r f)

-- the set with elements, put in one after another
abbrev pub with_all : List Element → List Element → List Element
with_all [] es = es
with_all (e ∷ xs) es = with_all xs (put rank e es)
