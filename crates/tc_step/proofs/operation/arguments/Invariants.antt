use Rattle.std.proofs.Common.{◌≡◌, ◌≤◌, length, map, take}
use Rattle.tc_step.specs.Operation.{component}
use Rattle.tc_step.proofs.operation.arguments.Given as goal

abbrev pub invariant-loop-place : goal.invariant-loop-place
invariant-loop-place l = (l.args ≡ map (component l.me l.bound) (take l.place-index l.place-items)) × (length l.place-items ≤ 4)
