use Rattle.std.proofs.Common.{◌≤◌}
use Rattle.tc_rules.specs.Prelude.{level_of}
use Rattle.tc_explore.specs.{Found.AreAllMet, Inside.Seen.{AreFoundAbove, IsNoted}}
use Rattle.tc_explore.proofs.aims.search_verdicts.Given as goal

abbrev pub invariant-loop-searched : goal.invariant-loop-searched
invariant-loop-searched l = record {
  noted : IsNoted l.scripts l.found;
  above : AreFoundAbove l.aim l.scripts l.found.witnesses.items;
  met : AreAllMet l.scripts l.found.reached.items l.states;
  within : l.states ≤ l.limit;
}

abbrev pub decreases-loop-searched : goal.decreases-loop-searched
decreases-loop-searched l = level_of l.aim
