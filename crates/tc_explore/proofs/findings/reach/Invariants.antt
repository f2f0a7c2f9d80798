use Rattle.tc_rules.specs.Prelude.{past_of}
use Rattle.tc_explore.specs.Inside.Seen.{IsCountedTo}
use Rattle.tc_explore.proofs.findings.reach.Given as goal

abbrev pub invariant-loop-run : goal.invariant-loop-run
invariant-loop-run l = IsCountedTo l.scripts l.initial.reached.items l.reached.items (past_of l.course) l.run
