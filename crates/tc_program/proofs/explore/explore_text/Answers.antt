use Rattle.std.{proofs.Common.{◌∙◌, ap, fold, refl}, specs.{List.flat_map, Prelude.max}}
use Rattle.tc_explored.specs.Prelude.{explored_status}
use Rattle.tc_judge.proofs.Lemmas.{few_jobs}
use Rattle.tc_program.{specs.Explore.{explored_text}, proofs.Exploring.explored_each}
use Rattle.tc_program.proofs.explore.explore_text.Goals as goal

pub explore_cases-requires : goal.explore_cases-requires
explore_cases-requires c =
    let are = c.in_ok-cases.ensures.are in
    few_jobs are.cases _ are.each are.lawful

pub returns-clause-done : goal.returns-clause-done
returns-clause-done c =
    let are = c.in_ok-cases.ensures.are in
    let explored = c.in_ok-explored.explored.items in
    rw c.silent.ensures (
      record {
        cases = are.cases;
        explored = explored;
        asked = are.chosen;
        each = explored_each c.args.options.now are.cases c.in_ok-cases.cases.items explored are.each c.in_ok-explored.ensures;
        out_is = c.in_ok-out.ensures ∙ ap (flat_map (explored_text c.args.options.now)) c.as_slice.ensures.value;
        status_is = c.status_of.ensures ∙ ap (fold (λ most e. max most (explored_status e.explored)) 0) c.as_slice-2.ensures.value;
      },
      refl,
    )
