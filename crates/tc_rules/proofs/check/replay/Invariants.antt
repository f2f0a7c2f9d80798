use Rattle.std.proofs.Common.{◌≡◌, take, reverse}
use Rattle.tc_rules.specs.{Legal.IsLegal, Standing.StandsFor}
use Rattle.tc_rules.proofs.check.replay.Given as goal

abbrev pub invariant-loop-at : goal.invariant-loop-at
invariant-loop-at l =
    (l.state.behaviours ≡ l.behaviours) × StandsFor l.state (reverse (take l.at l.list)) × IsLegal l.behaviours (reverse (take l.at l.list))
