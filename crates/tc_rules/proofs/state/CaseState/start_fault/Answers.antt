use Rattle.std.proofs.Common.{rules}
use Rattle.tc_rules.{specs.{Faults.start_fault, Standing.StandsFor}, proofs.Lemmas.Kept.kept_rules}
use Rattle.tc_rules.proofs.state.CaseState.start_fault.Goals as goal

pub returns-then-run-eq0 : goal.returns-then-run-eq0
unfolding start_fault StandsFor
returns-then-run-eq0 c = search (rules, kept_rules)
