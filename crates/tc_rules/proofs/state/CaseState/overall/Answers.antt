use Rattle.std.proofs.Common.{rules}
use Rattle.tc_rules.{specs.Standing.StandsFor, proofs.Lemmas.Kept.overall_rules}
use Rattle.tc_rules.proofs.state.CaseState.overall.Goals as goal

pub returns : goal.returns
unfolding StandsFor
returns c = search (rules, overall_rules)
