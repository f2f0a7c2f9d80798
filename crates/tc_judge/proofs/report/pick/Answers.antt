use Rattle.std.proofs.{Common.rules, lemmas.Fn.filter_same}
use Rattle.tc_judge.proofs.report.pick.Goals as goal

pub returns-clause-picked : goal.returns-clause-picked
returns-clause-picked g c = record {
  picked = filter_same _ _ _ (λ x b f' k. search rules) _ _ c.retain.ensures.filtered;
  first = search rules;
  found = search rules;
}
