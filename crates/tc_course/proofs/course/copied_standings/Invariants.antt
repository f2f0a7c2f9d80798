use Rattle.std.proofs.Common.{◌≡◌, take}
use Rattle.tc_course.proofs.course.copied_standings.Given as goal

abbrev pub invariant-loop-standing : goal.invariant-loop-standing
invariant-loop-standing l = l.all.items ≡ take l.standing-index l.standings
