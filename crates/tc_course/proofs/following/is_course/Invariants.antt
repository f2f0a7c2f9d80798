use Rattle.tc_course.proofs.Followed.{Follows}
use Rattle.tc_course.proofs.following.is_course.Given as goal

abbrev pub invariant-loop-entry : goal.invariant-loop-entry
invariant-loop-entry l = Follows l.scripts l.noted l.entry-index l.course
