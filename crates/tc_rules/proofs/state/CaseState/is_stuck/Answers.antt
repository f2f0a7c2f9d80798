use Rattle.std.proofs.Common.{arith}
use Rattle.tc_rules.{specs.Standing.StandsFor, proofs.Lemmas.Stuck.{stuck_if_none, not_stuck_run}}
use Rattle.tc_rules.proofs.state.CaseState.is_stuck.Goals as goal

pub returns-then-goes_on : goal.returns-then-goes_on
unfolding StandsFor
returns-then-goes_on c past kept = grind (arith, not_stuck_run c.loop-b.b kept)

pub returns : goal.returns
unfolding StandsFor
returns c past kept = grind (arith, stuck_if_none c.loop-b.b kept)
