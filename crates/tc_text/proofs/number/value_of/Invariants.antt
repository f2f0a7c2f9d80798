use Rattle.std.proofs.Common.{length, ◌-◌}
use Rattle.tc_text.specs.Inside.{Counted}
use Rattle.tc_text.proofs.number.value_of.Given as goal

abbrev pub invariant-loop-digit : goal.invariant-loop-digit
invariant-loop-digit l = Counted l.text l.end l.number

abbrev pub decreases-loop-digit : goal.decreases-loop-digit
decreases-loop-digit l = length l.text - l.end
