use Rattle.std.proofs.Common.{ℕ, ◌≡◌, ◌<◌}
use Rattle.tc_rules.specs.Prelude.{past_of}
use Rattle.tc_explore.specs.Inside.{Seen.{IsCalmAt, IsOpen, StandsOn}, Simulation.IsWithin}
use Rattle.tc_explore.proofs.calm.calmed_once.Given as goal

abbrev pub invariant-loop-run : goal.invariant-loop-run
invariant-loop-run l =
    IsOpen l.scripts l.course
    × StandsOn l.aim l.scripts l.initial.course l.course
    × (past_of l.course ≡ past_of l.initial.course → (b : ℕ) → b < l.run → IsCalmAt l.scripts (past_of l.initial.course) b)
    × IsWithin l.aim (past_of l.course)
