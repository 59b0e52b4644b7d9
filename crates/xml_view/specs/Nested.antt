-- Trees read off entries by their depths: what follows an entry and is deeper stands inside it. Of a view's entries these are the
-- model's trees (`contents-forest`).
use Rattle.std.specs.Prelude.{cond, List, [], ◌∷◌, ℕ, zero, suc, length, drop, ltb}
use Rattle.model.specs.Path.{last_step}
use Rattle.model.specs.Tree.{Forest, empty, grown, Entry}

-- how many entries come before the first that has no more than d steps
unfoldable pub inner : ℕ → List Entry → ℕ
inner d [] = 0
inner d (e ∷ es) = cond (ltb d (length e.path)) (suc (inner d es)) 0

-- the trees of these entries, of which at most n are looked at
unfoldable pub contents_in : ℕ → ℕ → List Entry → Forest
contents_in zero d es = empty
contents_in (suc n) d [] = empty
contents_in (suc n) d (e ∷ es) =
    cond (ltb d (length e.path))
    (grown (last_step e.path) e.content (contents_in n (length e.path) es) (contents_in n d (drop (inner (length e.path) es) es)))
    empty

unfoldable pub contents : ℕ → List Entry → Forest
contents d es = contents_in (length es) d es

-- the tree of the first entry, and how many entries it holds
unfoldable pub tree : List Entry → Forest
tree [] = empty
tree (e ∷ es) = grown (last_step e.path) e.content (contents (length e.path) es) empty

unfoldable pub size : List Entry → ℕ
size [] = 0
size (e ∷ es) = suc (inner (length e.path) es)
