use Rattle.std.proofs.Common.{drop}
use Rattle.tc_script.specs.Calls.{HasCalled}
use Rattle.tc_script.proofs.behaviour.make_calls.Given as goal

abbrev pub invariant-loop-step : goal.invariant-loop-step
invariant-loop-step g l = HasCalled l.script.steps l.initial.pass (drop l.step-index l.step-items) l.bound.items l.pass
