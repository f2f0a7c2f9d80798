use Rattle.std.proofs.Common.{◌-◌, ◌+◌, length}
use Rattle.tc_explore.specs.Inside.Twins.{IsPadded}
use Rattle.tc_explore.proofs.marks.mark.Given as goal

abbrev pub invariant-loop-found : goal.invariant-loop-found
invariant-loop-found l = IsPadded l.initial.found.items l.found.items

abbrev pub decreases-loop-found : goal.decreases-loop-found
decreases-loop-found l = l.at + 1 - length l.found.items
