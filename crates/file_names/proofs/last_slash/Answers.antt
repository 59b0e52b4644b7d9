-- `file_names::last_slash`: what is found from the end, and that there is none.
use Rattle.std.proofs.Common.{◌≡◌, ◌∙◌, ap, ℕ, ◌+◌, ◌<◌, ◌≤◌, length, get_or, Some, rules}
use Rattle.std.proofs.lemmas.Option.{slice_get-get_or}
use Rattle.file_names.proofs.Slashes.{last_found, none_found, some_case, none_case}
use Rattle.file_names.proofs.last_slash.Goals as goal

pub returns-clause-slash : goal.returns-clause-slash
returns-clause-slash c =
    some_case c.rposition.result
    (λ i e.
    let inside : i < length c.args.name.now = search rules in
    let here : get_or c.args.name.now i 0 ≡ 47 = search rules in
    let after : (k : ℕ) → i + 1 ≤ k → k < length c.args.name.now → get_or c.args.name.now k 0 ≡ 47 → ⊥ = search rules in
    (last_found c.args.name.now i inside here after, slice_get-get_or c.args.name.now i 0 inside ∙ ap Some here))

pub returns-clause-none : goal.returns-clause-none
returns-clause-none c = none_case c.rposition.result (λ e. none_found c.args.name.now (search rules))
