use Rattle.std.proofs.Common.{◌≡◌, [], length, take}
use Rattle.tc_rules.specs.Prelude.{past_of}
use Rattle.tc_explore.specs.Inside.Played.{played}
use Rattle.tc_explore.proofs.calls.course_of.Given as goal

abbrev pub invariant-loop-run : goal.invariant-loop-run
invariant-loop-run l = (l.course.behaviours ≡ length l.scripts) × (past_of l.course ≡ played l.scripts [] (take l.run-index l.calls))
