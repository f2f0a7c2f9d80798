use Rattle.std.{proofs.Common.{◌≡◌, ◌≤◌, ◌-◌, length, take, true}, specs.Str.all_ascii_digits}
use Rattle.tc_text.proofs.number.count_digits.Given as goal

abbrev pub invariant-loop-end : goal.invariant-loop-end
invariant-loop-end l = (l.end ≤ length l.text) × (all_ascii_digits (take l.end l.text) ≡ true)

abbrev pub decreases-loop-end : goal.decreases-loop-end
decreases-loop-end l = length l.text - l.end
