use Rattle.tc_rules.specs.Prelude.{past_of}
use Rattle.tc_explore.specs.Inside.{Seen.{IsOpen, StandsOn}, Simulation.IsWithin}
use Rattle.tc_explore.proofs.calm.with_silent_calls.Given as goal

abbrev pub invariant-loop : goal.invariant-loop
invariant-loop l = IsOpen l.scripts l.course × StandsOn l.aim l.scripts l.initial.course l.course × IsWithin l.aim (past_of l.course)
