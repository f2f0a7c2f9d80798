use Rattle.tc_explore.specs.Inside.Seen.{IsOpen}
use Rattle.tc_explore.proofs.straight.straight_course.Given as goal

abbrev pub invariant-loop : goal.invariant-loop
invariant-loop l = IsOpen l.scripts l.course
