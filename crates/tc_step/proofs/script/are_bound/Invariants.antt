use Rattle.std.proofs.Common.{◌↔◌, ◌≤◌, ◌+◌, length}
use Rattle.tc_entry.specs.declared.limits.TheConstants.{ARGUMENTS}
use Rattle.tc_step.specs.{Steps.AreBound, declared.limits.TheConstants.STEPS}
use Rattle.tc_step.proofs.script.are_bound.Given as goal

abbrev pub invariant-loop-step : goal.invariant-loop-step
invariant-loop-step l = (AreBound l.count l.rest ↔ AreBound l.parameters l.steps) × (l.count + length l.rest ≤ ARGUMENTS + STEPS)

abbrev pub decreases-loop-step : goal.decreases-loop-step
decreases-loop-step l = length l.rest
