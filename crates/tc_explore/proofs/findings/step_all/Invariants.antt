use Rattle.tc_course.specs.Prelude.{IsOn}
use Rattle.tc_explore.proofs.LastCalls.{AreOver}
use Rattle.tc_explore.proofs.findings.step_all.Given as goal

abbrev pub invariant-loop-run : goal.invariant-loop-run
invariant-loop-run l = IsOn l.scripts l.course × AreOver l.scripts l.initial.course l.course l.run
