use Rattle.std.proofs.Common.{◌≡◌, ◌+◌}
use Rattle.tc_model.proofs.Followed.{Follows}
use Rattle.tc_model.proofs.following.follow_lines.Given as goal

abbrev pub invariant-loop-each : goal.invariant-loop-each
invariant-loop-each l = (l.line ≡ l.block.first_line + l.each-index) × Follows l.block l.each-index l.course l.ways
