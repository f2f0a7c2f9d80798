use Rattle.std.proofs.Common.{rules}
use Rattle.tc_rules.{specs.Standing.StandsFor, proofs.Lemmas.Kept.kept_rules}
use Rattle.tc_rules.proofs.state.CaseState.components.Goals as goal

pub returns : goal.returns
unfolding StandsFor
returns c = search (rules, kept_rules)
