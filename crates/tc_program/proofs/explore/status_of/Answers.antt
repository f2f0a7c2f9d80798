use Rattle.std.proofs.{Common.{ℕ, unwrap_or, ap, ◌∙◌, rules, tests}, lemmas.{Iterator.{Consumers.reduce_from_yields_List, YieldsList-from_slice, YieldsList-from_map}, List.Folds.max_of_map}}
use Rattle.tc_explored.specs.Prelude.{explored_status}
use Rattle.tc_program.specs.declared.explore.ExploredCase.{ExploredCase}
use Rattle.tc_program.proofs.explore.status_of.Goals as goal

pub returns : goal.returns
returns c =
    let explored = c.args.explored.now in
    let status : ExploredCase → ℕ = λ e. explored_status e.explored in
    c.unwrap_or.ensures
    ∙ ap (λ o. unwrap_or o 0) (reduce_from_yields_List _ c.map-statuses.result _ c.max.ensures.ran (YieldsList-from_map _ status (YieldsList-from_slice explored cc) c.map-statuses.ensures.closure (λ x b q k. search (rules, tests))))
    ∙ max_of_map status explored
