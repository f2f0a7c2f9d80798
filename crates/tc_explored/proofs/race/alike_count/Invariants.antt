use Rattle.std.{proofs.Common.{◌≡◌, ◌+◌, length}, specs.List.common_prefix_len}
use Rattle.tc_explored.specs.Race.{is_alike}
use Rattle.tc_explored.proofs.race.alike_count.Given as goal

abbrev pub invariant-loop-entry : goal.invariant-loop-entry
invariant-loop-entry l = (common_prefix_len is_alike l.left l.right ≡ l.count + common_prefix_len is_alike l.rest l.others) × (l.count + length l.rest ≡ length l.left) × (l.count + length l.others ≡ length l.right)

abbrev pub decreases-loop-entry : goal.decreases-loop-entry
decreases-loop-entry l = length l.rest
