use Rattle.std.proofs.{Common.rules, lemmas.List.Sorted.IsNonDecreasingBy-from_sort_by_key}
use Rattle.tc_rules.specs.Prelude.{level_of}
use Rattle.tc_course.specs.declared.witness.Witness.{Witness}
use Rattle.tc_explore.proofs.findings.order.Goals as goal

pub returns-clause-ordered : goal.returns-clause-ordered
returns-clause-ordered c = IsNonDecreasingBy-from_sort_by_key (λ (w : Witness). level_of w.verdict) _ c.sort_unstable_by_key.ensures.sorted (λ a r q k. search rules)
