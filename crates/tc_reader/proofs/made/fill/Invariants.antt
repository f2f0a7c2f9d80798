use Rattle.std.proofs.Common.{◌≡◌, ◌++◌, take, drop}
use Rattle.tc_reader.specs.Inside.{filled, left_of, started_of}
use Rattle.tc_reader.proofs.made.fill.Given as goal

abbrev pub invariant-loop-step : goal.invariant-loop-step
invariant-loop-step l =
    (take l.step-index l.steps ++ filled l.heads (drop l.step-index l.steps) (started_of l.rest) ≡ filled l.heads l.initial.steps (started_of l.starts))
    × (left_of (drop l.step-index l.steps) (started_of l.rest) ≡ left_of l.initial.steps (started_of l.starts))
