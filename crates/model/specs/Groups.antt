-- Groups that an insert makes where they are missing above its element (document 02, request 6/14).
use Rattle.std.specs.Prelude.{Bool, cond, List, [], ◌∷◌, ◌++◌, map, ℕ, zero, suc, length, take, drop, eqb}
use Rattle.model.specs.Lists.{all}
use Rattle.model.specs.Path.{Step, prefixes, parent}
use Rattle.model.specs.Value.{Content}
use Rattle.model.specs.Element.{Element}
use Rattle.model.specs.View.{reaches}
use Rattle.model.specs.Intake.{with_all}

-- the greatest number up to n that passes, 0 if none does
abbrev pub greatest : (ℕ → Bool) → ℕ → ℕ
greatest t zero = 0
greatest t (suc n) = cond (t (suc n)) (suc n) (greatest t n)

-- how many steps the longest prefix of a path has that is in view, where the elements v are visible; the root is always in view
unfoldable pub seen_steps : List Element → List Step → ℕ
seen_steps v p = greatest (λ n. reaches v (take n p)) (length p)

-- each step behind the first n bears label s
unfoldable pub own_behind : ℕ → ℕ → List Step → Bool
own_behind s n p = all (λ a. eqb a.label s) (drop n p)

-- what is missing above a path of which the first n steps are in view: the prefixes with more steps, but for the path itself
unfoldable pub missing_paths : ℕ → List Step → List (List Step)
missing_paths n p = drop n (prefixes (parent p))

-- what comes: a group at each of these paths, which has no value, then the element
unfoldable pub with_groups : ℕ → List Step → Content → List Element
with_groups n p c =
    map (λ q. record { path = q; content = record { kind = 0; value = [] } }) (missing_paths n p) ++ (record { path = p; content = c } ∷ [])

-- the set with all of them
abbrev pub made : ℕ → List Step → Content → List Element → List Element
made n p c es = with_all (with_groups n p c) es
