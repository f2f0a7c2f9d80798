use Rattle.tc_rules.specs.Prelude.{past_of}
use Rattle.tc_course.proofs.Followed.{AreLeft}
use Rattle.tc_course.proofs.following.is_complete.Given as goal

abbrev pub invariant-loop-run : goal.invariant-loop-run
invariant-loop-run l = AreLeft l.scripts (past_of l.course) l.run
