use Rattle.std.proofs.Common.{◌≡◌, ◌<◌, ℕ, [], length, get_or}
use Rattle.tc_course.specs.Course.{CourseState, stand}
use Rattle.tc_course.proofs.course.opening_standings.Given as goal

abbrev pub invariant-loop-b : goal.invariant-loop-b
invariant-loop-b l =
    (length l.standings.items ≡ l.b) × ((k : ℕ) (d : CourseState) → k < l.b → get_or l.standings.items k d ≡ stand [] k)
