use Rattle.tc_rules.specs.Prelude.{past_of}
use Rattle.tc_course.specs.Prelude.{IsOn}
use Rattle.tc_explore.{specs.Inside.Seen.AreHeld, proofs.Parking.AreParked}
use Rattle.tc_explore.proofs.findings.with_stuck.Given as goal

abbrev pub invariant-loop-run : goal.invariant-loop-run
invariant-loop-run l = IsOn l.scripts l.course × (AreHeld l.scripts (past_of l.initial.course) → AreParked l.scripts l.initial.course l.course l.run)
